-- A record is a node of the abstract engine with its crew, run, own number and place; taking a round is the
-- engine's turn.
use mathlib.Core.Path.{◌≡◌, refl, ap}
use mathlib.Core.Bool.{Bool, true, false, cond}
use mathlib.Core.List.{List}
use Prim.Native.Nat.{ℕ}
use native.Mathlib.Numerals.{add-one}
use lib.Dec.{eqb}
use Rattle.crew.specs.declared.Crew.{Crew}
use Rattle.crew.specs.Thresholds.{one, two, three, class_of}
use Rattle.ballot.specs.Ballot.{Ballot}
use Rattle.model.proofs.Voter.{Voter, Round, selecting, validating, deciding, turn, round_number}
use Rattle.model.proofs.Engine.{next_round, next_phase}
use Rattle.node.specs.declared.Node.{Node}
use Rattle.rounds.specs.Taking.{after_round}

-- the record of node q, by the number of its round
abbrev record_with : Crew → ℕ → ℕ → Voter → ℕ → ℕ → Node
record_with crew run q a phase round = record {
  crew = crew;
  own = q;
  run = run;
  phase = phase;
  round = round;
  vote = a.vote;
  base = a.base;
  stamp = a.stamp;
  select = a.select;
  result = a.result;
  history = a.history;
}

abbrev pub as_record : Crew → ℕ → ℕ → ℕ → Round → Voter → Node
as_record crew run q phase round a = record_with crew run q a phase (round_number round)

after_selection_lem : (first second : Bool)
    → cond first 3 2 ≡ round_number (next_round (cond first one (cond second two three)) selecting)
after_selection_lem true second = refl
after_selection_lem false true = refl
after_selection_lem false false = refl

pub take_turns : (crew : Crew) (run q phase : ℕ) (round : Round) (a : Voter) (heard : List Ballot)
    → after_round (as_record crew run q phase round a) heard
    ≡ as_record crew run q (next_phase round phase) (next_round (class_of crew) round)
    (turn (class_of crew) crew phase round heard a)
unfolding after_round
take_turns crew run q phase selecting a heard =
    ap (record_with crew run q (turn (class_of crew) crew phase selecting heard a) phase)
    (after_selection_lem (eqb crew.class 1) (eqb crew.class 2))
take_turns crew run q phase validating a heard = refl
take_turns crew run q phase deciding a heard =
    ap (λ next. record_with crew run q (turn (class_of crew) crew phase deciding heard a) next 1) (add-one phase)
