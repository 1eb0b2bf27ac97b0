-- The answers to the goals of `Texts::put_spaced`.
use Prim.Native.Nat.{◌<◌}
use native.Mathlib.Omega.{arith}
use lib.Seq.{length-take-le, get_or-take}
use Rattle.absence.specs.Lines.{spaced, last_node}
use Rattle.absence.proofs.Spills.{spilt_none, spilt_more}
use Rattle.absence.proofs.Texts.put_spaced.Goals as goal

pub loop-count-init : goal.loop-count-init
unfolding spaced
loop-count-init c = spilt_none _ _

pub loop-count-preserved : goal.loop-count-preserved
loop-count-preserved c =
    let inside : c.loop-count.count-index < last_node =
    omega (arith, length-take-le last_node c.args.missing.now (omega arith)) in
    spilt_more _ _ c.loop-count.invariant (rw get_or-take at c.put_spaced_count-at.ensures)
