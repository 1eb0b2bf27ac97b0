-- `put_message` meets its contract: a selection lists as many entries as it counts.
use Rattle.message.proofs.EntryLaws.{entries_count}
use Rattle.boundary.proofs.put_message.Goals as goal

pub returns-in-Selection : goal.returns-in-Selection
returns-in-Selection c = λ bytes. simp (c.put_fields.ensures, c.in-Selection.is, entries_count)
