-- Each turn settles one mark, and leaves those after it.
use mathlib.Core.Path.{ap₂, sym, ◌∙◌}
use mathlib.Core.Bool.{false, ◌&&◌}
use native.Mathlib.Omega.{arith}
use lib.Seq.{get_or-set_other}
use lib.ListN.{get_or, length-set}
use Rattle.wire.proofs.Arrays.{filled_more}
use Rattle.crew.specs.Group.{validates}
use Rattle.crew.proofs.Rows.{validates_row}
use Rattle.crew.proofs.validators_among.Goals as goal

pub loop-q-preserved : goal.loop-q-preserved
loop-q-preserved c =
    let here = validates_row c.args.crew c.args.phase _ c.loop-q.q c.first_validator-first.ensures.first in (
      length-set c.loop-q.mark-items c.loop-q.q _ ∙ c.loop-q.invariant.0,
      filled_more (λ k. get_or c.args.marks k false && validates c.args.crew c.args.phase k) false _ _ _
          (omega (arith, c.loop-q-test.true, c.loop-q.invariant.0)) c.loop-q.invariant.1
          (ap₂ ◌&&◌ (c.loop-q.invariant.2 c.loop-q.q (omega arith)) (c.is_in_row.ensures ∙ sym here)),
      λ k later.
          get_or-set_other _ c.loop-q.q k _ false (λ e. omega arith) ∙ c.loop-q.invariant.2 k (omega arith),
    )
