-- What taking a round answers, and the record that it gives: document 01, 'The three rounds'.
use Rattle.std.specs.Prelude.{ℕ, ◌*◌, ◌≡◌, cond, List, length, set, ltb, eqb, Result}
use Rattle.wire.specs.Sizes.{spent_phase}
use Rattle.wire.specs.Plan.{if_plan}
use Rattle.wire.specs.Outcome.{Outcome, accepted, require, verdict, value_or, outcome_of}
use Rattle.crew.specs.Thresholds.{class_of}
use Rattle.message.specs.Layout.{slot_size}
use Rattle.ballot.specs.Ballot.{Ballot}
use Rattle.ballot.specs.Selection.{taken}
use Rattle.ballot.specs.Validation.{validated}
use Rattle.ballot.specs.Decision.{decision}
use Rattle.node.specs.declared.Node.{Node}
use Rattle.node.specs.Soundness.{sound}
use Rattle.node.specs.Place.{round_after, phase_after}
use Rattle.inbox.specs.Inbox.{ballots}
use Rattle.rounds.specs.declared.TakeRefusal.{TakeRefusal}
use Rattle.rounds.specs.declared.TakeRefusal.TheVariants.{Unsound, Spent, Inbox}

-- 01: "Select is the plan, or 0 for 'none'; a plan becomes the vote and the phase's history entry."
abbrev pub after_selection : Node → ℕ → Node
after_selection d v = record {
  crew = d.crew;
  own = d.own;
  run = d.run;
  phase = d.phase;
  round = round_after d.crew.class 1;
  vote = if_plan v v d.vote;
  base = d.base;
  stamp = d.stamp;
  select = v;
  result = d.result;
  history = if_plan v (set d.history d.phase v) d.history;
}

-- 01: "vote and base become it and stamp becomes the phase; otherwise vote becomes base"
abbrev pub after_validation : Node → ℕ → Node
after_validation d v = record {
  crew = d.crew;
  own = d.own;
  run = d.run;
  phase = d.phase;
  round = round_after d.crew.class 2;
  vote = if_plan v v d.base;
  base = if_plan v v d.base;
  stamp = if_plan v d.phase d.stamp;
  select = d.select;
  result = d.result;
  history = d.history;
}

-- 01: "If there are any and result is 0, result becomes the least. A result stands for good."
abbrev pub after_decision : Node → ℕ → Node
after_decision d v = record {
  crew = d.crew;
  own = d.own;
  run = d.run;
  phase = phase_after d.phase 3;
  round = round_after d.crew.class 3;
  vote = d.vote;
  base = d.base;
  stamp = d.stamp;
  select = d.select;
  result = if_plan d.result d.result v;
  history = d.history;
}

-- the record after its coming round, with these ballots
unfoldable pub after_round : Node → List Ballot → Node
after_round d heard =
    cond (eqb d.round 1) (after_selection d (taken (class_of d.crew) d.crew heard))
    (cond (eqb d.round 2) (after_validation d (validated d.crew heard))
    (after_decision d (decision (class_of d.crew) d.crew d.phase heard)))

-- 01: "Taking a round, or only asking for the coming selection (answered as the plan, 'any' or 'none'): 7; 8; 14 inbox
-- length not 202n."
unfoldable pub take_of : Node → List ℕ → Outcome Node
take_of d bytes =
    require (sound d) 7
    (require (ltb d.phase spent_phase) 8
    (require (eqb (length bytes) (slot_size * d.crew.n)) 14
    (accepted (after_round d (ballots d bytes)))))

-- 01's number of each refusal
abbrev pub take_number : TakeRefusal → ℕ
take_number Unsound = 7
take_number Spent = 8
take_number Inbox = 14

-- what an answer of `take` says in 01's terms; the record stands in its own place
abbrev pub take_answer : Result (Unit {0}) TakeRefusal → Outcome (Unit {0})
take_answer answer = outcome_of take_number answer

-- What taking a round gives: its answer, and in the record's place the next record or, where it is refused, the one
-- that was handed in.
pub record TakenFrom (d : Node) (bytes : List ℕ) (given : Result (Unit {0}) TakeRefusal) (after : Node) : Type 0 where
  pub answer : take_answer given ≡ verdict (take_of d bytes)
  pub node : after ≡ value_or d (take_of d bytes)
