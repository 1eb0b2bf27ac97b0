-- `put_entries` meets its contract. The invariant: putting the entries of the phases left at this place ends in the
-- buffer with all entries.
use Rattle.message.specs.Layout.{entries_place}
use Rattle.writer.proofs.HistoryLaws.{Putting}
use Rattle.writer.proofs.put_entries.Given as goal

abbrev pub invariant-loop-phase : goal.invariant-loop-phase
invariant-loop-phase l =
    Putting l.initial.buf entries_place l.history l.phases l.buf l.place l.phase
