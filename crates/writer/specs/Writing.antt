-- What writing the fields of a message answers, and what it leaves in the lent buffer.
-- Fields that break a bound are refused first, with 13, then a buffer that is shorter than the message, with 9.
use Rattle.std.specs.Prelude.{ℕ, ◌≡◌, List, length, leb, Result}
use Rattle.wire.specs.Outcome.{Outcome, accepted, require, outcome_of}
use Rattle.wire.specs.Bytes.{buffer_after}
use Rattle.wire.specs.Entry.{entries_from}
use Rattle.message.specs.Fields.{Message, selection, validation, decision}
use Rattle.message.specs.Bounds.{within}
use Rattle.message.specs.Encoding.{encode, size_of}
use Rattle.writer.specs.declared.WriteRefusal.{WriteRefusal}
use Rattle.writer.specs.declared.WriteRefusal.TheVariants.{Short, OutOfBounds}

-- the message's length, or the number of the refusal
unfoldable pub write_message_of : Message → List ℕ → Outcome ℕ
write_message_of m buffer =
    require (within m) 13
    (require (leb (size_of m.body) (length buffer)) 9
    (accepted (size_of m.body)))

-- the whole buffer afterwards
abbrev pub message_buffer_of : Message → List ℕ → List ℕ
message_buffer_of m buffer = buffer_after (encode m) buffer (write_message_of m buffer)

-- the messages that the writers are handed the fields of
abbrev pub validation_of : ℕ → ℕ → ℕ → Message
validation_of run phase plan = record { run = run; phase = phase; body = validation plan }

abbrev pub decision_of : ℕ → ℕ → ℕ → ℕ → Message
decision_of run phase vote stamp = record { run = run; phase = phase; body = decision vote stamp }

-- the selection with the non-empty entries of the first `phases` phases
abbrev pub selection_of : ℕ → ℕ → ℕ → ℕ → List ℕ → ℕ → Message
selection_of run phase vote stamp history phases =
    record { run = run; phase = phase; body = selection vote stamp (entries_from history 0 phases) }

-- Entries stand below the message's phase: to look at more phases than that is refused with 13, whatever stands there.
abbrev pub write_selection_of : ℕ → ℕ → ℕ → ℕ → List ℕ → ℕ → List ℕ → Outcome ℕ
write_selection_of run phase vote stamp history phases buffer =
    require (leb phases phase) 13 (write_message_of (selection_of run phase vote stamp history phases) buffer)

abbrev pub selection_buffer_of : ℕ → ℕ → ℕ → ℕ → List ℕ → ℕ → List ℕ → List ℕ
selection_buffer_of run phase vote stamp history phases buffer =
    buffer_after (encode (selection_of run phase vote stamp history phases)) buffer
    (write_selection_of run phase vote stamp history phases buffer)

-- 01's number of each refusal
abbrev pub write_number : WriteRefusal → ℕ
write_number OutOfBounds = 13
write_number Short = 9

-- what an answer of a writer says in 01's terms
abbrev pub write_answer : Result ℕ WriteRefusal → Outcome ℕ
write_answer answer = outcome_of write_number answer

-- What writing to the front of a lent buffer gives: its outcome, and what it leaves in the whole buffer.
pub record Written (expected : Outcome ℕ) (whole : List ℕ) (outcome : Outcome ℕ) (after : List ℕ) : Type 0 where
  pub answer : outcome ≡ expected
  pub left : after ≡ whole
