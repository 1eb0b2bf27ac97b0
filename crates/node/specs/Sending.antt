-- What a node writes in its coming round, what writing it answers, and what it leaves in the lent buffer: document 01,
-- and 02, C-13.
use Rattle.std.specs.Prelude.{ℕ, Bool, cond, ◌&&◌, List, [], length, leb, ltb, eqb, Result}
use Rattle.std.proofs.Math.Option.{Option, none, some}
use Rattle.wire.specs.Outcome.{Outcome, accepted, require, outcome_of}
use Rattle.wire.specs.Bytes.{buffer_after}
use Rattle.wire.specs.Sizes.{spent_phase}
use Rattle.crew.specs.Group.{validates}
use Rattle.message.specs.Fields.{Message}
use Rattle.message.specs.Encoding.{encode}
use Rattle.writer.specs.Writing.{selection_of, validation_of, decision_of, Written}
use Rattle.node.specs.Soundness.{sound}
use Rattle.node.specs.declared.Node.{Node}
use Rattle.node.specs.declared.SendRefusal.{SendRefusal}
use Rattle.node.specs.declared.SendRefusal.TheVariants.{Unsound, Spent, Short}

-- how many phases' entries stand in a selection: only class 3 lists its history
abbrev pub listed_phases : Node → ℕ
listed_phases d = cond (eqb d.crew.class 3) d.phase 0

-- Whether a node has something to say in round 2: it validates in this phase, and has selected a plan.
-- 02: "others are silent in round 2"
abbrev pub confirming : Node → Bool
confirming d = validates d.crew d.phase d.own && leb 1 d.select

-- The message of the coming round; none is silence.
-- 01: "A node writes: round 1 vote, stamp and, in class 3 only, its non-empty entries of earlier phases; round 2
-- select, or silence (length 0, nothing written) if select is 0; round 3 vote and stamp."
unfoldable pub coming_of : Node → Option Message
coming_of d =
    cond (eqb d.round 1)
    (some (selection_of d.run d.phase d.vote d.stamp d.history (listed_phases d)))
    (cond (eqb d.round 2)
    (cond (confirming d) (some (validation_of d.run d.phase d.select)) none)
    (some (decision_of d.run d.phase d.vote d.stamp)))

-- a message's bytes; silence has none
abbrev pub encoded : Option Message → List ℕ
encoded none = []
encoded (some m) = encode m

abbrev pub coming_bytes : Node → List ℕ
coming_bytes d = encoded (coming_of d)

-- The length of what is written, or the number of the refusal.
-- 01: "Writing the coming message: 7 record not sound; 8 spent; 9 buffer shorter than the message."
unfoldable pub write_coming_of : Node → List ℕ → Outcome ℕ
write_coming_of d buffer =
    require (sound d) 7
    (require (ltb d.phase spent_phase) 8
    (require (leb (length (coming_bytes d)) (length buffer)) 9
    (accepted (length (coming_bytes d)))))

-- the whole buffer afterwards
abbrev pub coming_buffer_of : Node → List ℕ → List ℕ
coming_buffer_of d buffer = buffer_after (coming_bytes d) buffer (write_coming_of d buffer)

-- 01's number of each refusal
abbrev pub send_number : SendRefusal → ℕ
send_number Unsound = 7
send_number Spent = 8
send_number Short = 9

-- what an answer of `write` says in 01's terms
abbrev pub send_answer : Result ℕ SendRefusal → Outcome ℕ
send_answer answer = outcome_of send_number answer

-- Writing the record's coming message comes to this outcome, and leaves this in the buffer.
abbrev pub Writes : Node → List ℕ → Outcome ℕ → List ℕ → Type 0
Writes d buffer outcome after = Written (write_coming_of d buffer) (coming_buffer_of d buffer) outcome after
