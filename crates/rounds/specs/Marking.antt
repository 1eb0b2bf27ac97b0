-- What telling the slots that count answers: document 02, C-24.
use Rattle.std.specs.Prelude.{ℕ, ◌*◌, List, length, ltb, eqb, Result}
use Rattle.wire.specs.Sizes.{spent_phase}
use Rattle.wire.specs.Outcome.{Outcome, accepted, require, outcome_of}
use Rattle.wire.specs.Marks.{marks_of}
use Rattle.message.specs.Layout.{slot_size}
use Rattle.node.specs.declared.Node.{Node}
use Rattle.node.specs.Soundness.{sound}
use Rattle.inbox.specs.Inbox.{counts}
use Rattle.rounds.specs.Taking.{take_number}
use Rattle.rounds.specs.declared.TakeRefusal.{TakeRefusal}

-- 02: "32 marks for the slots that counted in the round that decided": which slots count in the coming round. Refused
-- as taking it is.
unfoldable pub marking_of : Node → List ℕ → Outcome ℕ
marking_of d bytes =
    require (sound d) 7
    (require (ltb d.phase spent_phase) 8
    (require (eqb (length bytes) (slot_size * d.crew.n)) 14
    (accepted (marks_of (counts d bytes) d.crew.n))))

-- what an answer of `marks` says in the papers' terms
abbrev pub marking_answer : Result ℕ TakeRefusal → Outcome ℕ
marking_answer answer = outcome_of take_number answer
