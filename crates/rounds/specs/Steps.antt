-- Taking a round in two steps: what it comes to, and the record after it.
-- Promises of private functions: no public contract cites this file.
use Rattle.std.specs.Prelude.{ℕ, ◌*◌, ◌≤◌, ◌<◌, ◌≡◌, Bool, cond, List, length, replicate, ltb, eqb}
use Rattle.std.specs.Prelude.{Result}
use Rattle.wire.specs.Entry.{Entry}
use Rattle.wire.specs.Sizes.{spent_phase, history_size}
use Rattle.wire.specs.Outcome.{Outcome, accepted, require, outcome_of as outcome_by}
use Rattle.wire.specs.Marks.{marks_of}
use Rattle.crew.specs.declared.Crew.{Crew}
use Rattle.crew.specs.Parts.{most_nodes}
use Rattle.crew.specs.Thresholds.{three, class_of}
use Rattle.message.specs.Layout.{slot_size}
use Rattle.ballot.specs.Ballot.{Ballot}
use Rattle.ballot.specs.Selection.{Choice, plan, any, nothing, selection, taken}
use Rattle.ballot.specs.Validation.{validated}
use Rattle.ballot.specs.Decision.{decision}
use Rattle.node.specs.declared.Node.{Node}
use Rattle.node.specs.Soundness.{sound}
use Rattle.inbox.specs.Inbox.{ballots_for, counts_in}
use Rattle.inbox.specs.Columns.{listed_in}
use Rattle.rounds.specs.declared.Round.{Round}
use Rattle.rounds.specs.declared.TakeRefusal.{TakeRefusal}
use Rattle.rounds.specs.Taking.{take_number, after_selection, after_validation, after_decision}

-- a node's coming round: round k takes kind k
abbrev pub coming_round : Node → Bool → Round
coming_round d asked = record {
  crew = d.crew;
  header = record { kind = d.round; run = d.run; phase = d.phase };
  asked = asked;
}

-- what slots say to a node with this round
abbrev pub heard_by : Round → List ℕ → List Ballot
heard_by round bytes =
    ballots_for round.crew round.header.run round.header.phase round.header.kind bytes

-- the marks of the slots that count with this round
abbrev pub marks_with : Round → List ℕ → ℕ
marks_with round bytes =
    marks_of (counts_in round.crew round.header.run round.header.phase round.header.kind bytes)
    round.crew.n

-- a plan as an answer of selection, 0 as none; and the plan of an answer
abbrev pub plan_if : ℕ → Choice
plan_if v = cond (eqb v 0) nothing (plan v)

abbrev pub plan_in : Choice → ℕ
plan_in (plan v) = v
plan_in any = 0
plan_in nothing = 0

-- What a round comes to with these ballots: the plan that is selected, valid or decided, by the kind of its messages;
-- where the selection is asked for, what it answers.
abbrev pub ruled : Round → List Ballot → Choice
ruled round heard =
    cond (eqb round.header.kind 1)
    (cond round.asked (selection (class_of round.crew) round.crew heard)
    (plan_if (taken (class_of round.crew) round.crew heard)))
    (cond (eqb round.header.kind 2) (plan_if (validated round.crew heard))
    (plan_if (decision (class_of round.crew) round.crew round.header.phase heard)))

abbrev pub outcome_of : Round → List ℕ → Choice
outcome_of round bytes = ruled round (heard_by round bytes)

-- it is a selection in class 3
abbrev pub LooksBack : Round → Type 0
LooksBack round = (class_of round.crew ≡ three) × (round.header.kind ≡ 1)

-- what the slots list: by the flat array of histories where these are looked at; else it plays no part
abbrev pub Listed : Round → List ℕ → (ℕ → List Entry) → Type 0
Listed round histories h = LooksBack round → h ≡ listed_in histories round.header.phase

-- the inbox is the crew's, and every node has a place in the columns
pub record OwnInbox (crew : Crew) (bytes : List ℕ) : Type 0 where
  pub places : crew.n ≤ most_nodes
  pub whole : length bytes ≡ slot_size * crew.n

-- what the walk asks: the array of histories is empty and, where these are looked at, has room for every slot and each
-- phase before the coming one
pub record Walkable (round : Round) (bytes blank : List ℕ) : Type 0 where
  pub own : OwnInbox round.crew bytes
  pub clear : blank ≡ replicate (length blank) 0
  pub room : LooksBack round → round.header.phase * round.crew.n ≤ length blank

-- So many places, filled with this, are empty and enough for the histories that are looked at: there may be none. No
-- round takes more than one for each slot and phase.
pub record Roomy (places : ℕ) (round : Round) (bytes : List ℕ) (fill : ℕ) : Type 0 where
  pub own : OwnInbox round.crew bytes
  pub most : places ≤ most_nodes * history_size
  pub empty : replicate places fill ≡ replicate places 0
  pub room : LooksBack round → round.header.phase * round.crew.n ≤ places

-- what is known of a node's round and its inbox
pub record Heard (round : Round) (bytes : List ℕ) (fill : ℕ) : Type 0 where
  pub own : OwnInbox round.crew bytes
  pub class_from : 1 ≤ round.crew.class
  pub class_to : round.crew.class ≤ 3
  pub early : round.header.phase < spent_phase
  pub empty : round.header.kind ≡ 1 → fill ≡ 0

-- the record after its coming round, which came to this plan
abbrev pub after_plan : Node → ℕ → Node
after_plan d v =
    cond (eqb d.round 1) (after_selection d v)
    (cond (eqb d.round 2) (after_validation d v)
    (after_decision d v))

-- A node's coming round with an inbox: what refuses a round, whatever is then made of it.
abbrev pub ready_of : Node → List ℕ → Bool → Outcome Round
ready_of d bytes asked =
    require (sound d) 7
    (require (ltb d.phase spent_phase) 8
    (require (eqb (length bytes) (slot_size * d.crew.n)) 14 (accepted (coming_round d asked))))

abbrev pub ready_answer : Result Round TakeRefusal → Outcome Round
ready_answer answer = outcome_by take_number answer
