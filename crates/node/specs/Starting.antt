-- What starting a node answers: document 01, 'Crew and node' and 'What each operation turns down'.
use Rattle.std.specs.Prelude.{ℕ, leb, ltb, Result}
use Rattle.wire.specs.Outcome.{Outcome, accepted, require, after, outcome_of}
use Rattle.crew.specs.declared.Crew.{Crew}
use Rattle.crew.specs.Acceptance.{accept_of, accept_number}
use Rattle.node.specs.Record.{begun}
use Rattle.node.specs.declared.Node.{Node}
use Rattle.node.specs.declared.StartRefusal.{StartRefusal}
use Rattle.node.specs.declared.StartRefusal.TheVariants.{Crew as CrewRefused, Own, NoPlan}

-- 01: "Starting a node: 1 to 4; 5 own number not below n; 6 plan 0." What a crew is refused for comes before 5.
unfoldable pub start_of : Crew → ℕ → ℕ → ℕ → Outcome Node
start_of crew own run plan =
    after (accept_of crew)
    (require (ltb own crew.n) 5
    (require (leb 1 plan) 6
    (accepted (begun crew own run plan))))

-- the papers' number of each refusal; a crew's is the crew's own
abbrev pub start_number : StartRefusal → ℕ
start_number (CrewRefused why) = accept_number why
start_number Own = 5
start_number NoPlan = 6

-- what an answer of `start` says in the papers' terms
abbrev pub start_answer : Result Node StartRefusal → Outcome Node
start_answer answer = outcome_of start_number answer
