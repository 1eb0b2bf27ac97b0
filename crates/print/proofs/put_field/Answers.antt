-- `put_field` meets its contract.
use Rattle.print.specs.Texts.{field_of}
use native.Mathlib.Omega.{arith}
use Rattle.print.proofs.Writing.{within_then, within_one, within_more}
use Rattle.print.proofs.put_field.Goals as goal

pub returns-then-honest : goal.returns-then-honest
unfolding field_of
returns-then-honest c =
    rw (c.if-honest.true, ← c.from.ensures)
    (within_then (within_one _ _ _ _ c.put.ensures) c.put_number.ensures)

pub returns-else-honest : goal.returns-else-honest
unfolding field_of
returns-else-honest c =
    let both = within_then (within_one _ _ _ _ c.put.ensures) (within_one _ _ _ _ c.put-else-honest.ensures) in
    rw c.if-honest.false (within_more both (omega arith))
