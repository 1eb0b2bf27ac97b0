-- The answers to the goals of `Texts::all`.
use Rattle.wire.proofs.Tables.{filled_table}
use Rattle.absence.proofs.Texts.all.Goals as goal

pub invariant_of-result : goal.invariant_of-result
invariant_of-result c = record { filled = filled_table c.loop-count.invariant c.loop-count-test.false }
