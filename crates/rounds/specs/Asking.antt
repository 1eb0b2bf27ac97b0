-- What asking for the coming selection answers: document 01.
use Rattle.std.specs.Prelude.{ℕ, ◌*◌, ◌&&◌, List, length, ltb, eqb, Result, Ok, Err}
use Rattle.wire.specs.Sizes.{spent_phase}
use Rattle.wire.specs.Outcome.{Outcome, accepted, refused, require}
use Rattle.crew.specs.Thresholds.{class_of}
use Rattle.message.specs.Layout.{slot_size}
use Rattle.ballot.specs.Selection.{Choice, plan, any, nothing, selection}
use Rattle.node.specs.declared.Node.{Node}
use Rattle.node.specs.Soundness.{sound}
use Rattle.inbox.specs.Inbox.{ballots}
use Rattle.tally.specs.declared.Choice.{Choice as DeclaredChoice}
use Rattle.tally.specs.declared.Choice.TheVariants.{Plan, Any, Nothing}
use Rattle.rounds.specs.declared.TakeRefusal.{TakeRefusal}
use Rattle.rounds.specs.Taking.{take_number}

-- Refused as taking a round is, and 01: "Asking outside round 1 is also 7."
unfoldable pub ask_of : Node → List ℕ → Outcome Choice
ask_of d bytes =
    require (sound d && eqb d.round 1) 7
    (require (ltb d.phase spent_phase) 8
    (require (eqb (length bytes) (slot_size * d.crew.n)) 14
    (accepted (selection (class_of d.crew) d.crew (ballots d bytes)))))

-- what an answer of `ask` says in 01's terms
abbrev pub ask_answer : Result DeclaredChoice TakeRefusal → Outcome Choice
ask_answer (Ok (Plan v)) = accepted (plan v)
ask_answer (Ok Any) = accepted any
ask_answer (Ok Nothing) = accepted nothing
ask_answer (Err why) = refused (take_number why)
