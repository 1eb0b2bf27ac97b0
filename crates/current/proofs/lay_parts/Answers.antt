-- `lay_parts` meets its contract.
use mathlib.Core.Path.{ap, ◌∙◌}
use Prim.Native.Nat.{ℕ}
use native.Mathlib.Omega.{arith}
use borrow.Author.Rules.{rules}
use Rattle.wire.proofs.Arrays.{filling_more, filling_until}
use Rattle.wire.proofs.Tables.{filled_table}
use Rattle.current.specs.Promises.{priority_of}
use Rattle.current.proofs.Steps.{whole_is, rest_is, total_low, rest_low}
use Rattle.current.proofs.lay_parts.Goals as goal

pub part_of-part-requires : goal.part_of-part-requires
part_of-part-requires c =
    let scarce = c.requires.scarce in
    (c.product.ensures.low, omega (arith, scarce.over), total_low scarce)

pub priority-requires : goal.priority-requires
priority-requires c =
    let scarce = c.requires.scarce in
    let rest_here = rest_is _ _ _ _ _ c.product.ensures.product scarce.is_total c.part_of-part.ensures in (
      omega (arith, rest_here, rest_low scarce c.loop-i.i),
      omega (arith, scarce.small.few),
    )

pub loop-i-preserved : goal.loop-i-preserved
loop-i-preserved c =
    let scarce = c.requires.scarce in
    let whole_here = whole_is _ _ _ _ _ c.product.ensures.product scarce.is_total c.part_of-part.ensures in
    let rest_here = rest_is _ _ _ _ _ c.product.ensures.product scarce.is_total c.part_of-part.ensures in
    let laid = c.loop-i.invariant in
    record {
      wholes = filling_more _ (search rules) laid.wholes whole_here;
      order = filling_more _ (search rules) laid.order
          (c.priority.ensures ∙ ap (λ (r : ℕ). priority_of r c.loop-i.i) rest_here);
    }

pub returns : goal.returns
returns c =
    let laid = c.loop-i.invariant in
    record {
      wholes = filled_table laid.wholes (search rules);
      order = filling_until laid.order (search rules);
    }
