-- Runs of the abstract engine: voters by number, rounds that all of them take, inboxes that anybody may fill, decisions
-- and good phases. A list of calls on bytes is proved to be such a run in crate agreement (proofs/Simulation), whose
-- Statement has 01's words for all of this. Nothing here has to be believed.
use mathlib.Core.Path.{◌≡◌}
use mathlib.Core.Bool.{Bool, cond, not, ◌&&◌}
use mathlib.Core.Logic.{◌≢◌}
use mathlib.Core.Option.{Option, none, some}
use Prim.Native.Nat.{ℕ, zero, suc, ◌+◌, ◌*◌, ◌≤◌, ◌<◌}
use lib.Dec.{T, ltb}
use Rattle.wire.specs.Sizes.{spent_phase}
use Rattle.wire.specs.Outcome.{accepted}
use Rattle.crew.specs.declared.Crew.{Crew}
use Rattle.crew.specs.Acceptance.{accept_of}
use Rattle.crew.specs.Thresholds.{Class, one, two, three, class_of, valid_above}
use Rattle.crew.specs.Group.{validates}
use Rattle.ballot.specs.Count.{tally, count_if}
use Rattle.ballot.specs.Ballot.{Ballot, inbox, same_ballot}
use Rattle.ballot.specs.Validation.{validated}
use Rattle.ballot.specs.Decision.{decides}
use Rattle.model.proofs.Voter.{Voter, Round, selecting, validating, deciding, opened, say, turn}

-- every one of these nodes
abbrev pub Each : Crew → (ℕ → Bool) → (ℕ → Type 0) → Type 0
Each crew nodes P = (q : ℕ) → q < crew.n → T (nodes q) → P q

-- the state when a round begins: its phase and number, and the nodes' records
pub record State : Type 0 where
  pub phase : ℕ
  pub round : Round
  pub node : ℕ → Voter

-- what stands in the slot of sender q in the inbox of receiver p, for each p and q
abbrev pub Inboxes : Type 0
Inboxes = ℕ → ℕ → Option Ballot

-- where a round leads
abbrev pub next_round : Class → Round → Round
next_round one selecting = deciding
next_round two selecting = validating
next_round three selecting = validating
next_round class validating = deciding
next_round class deciding = selecting

abbrev pub next_phase : Round → ℕ → ℕ
next_phase selecting phase = phase
next_phase validating phase = phase
next_phase deciding phase = suc phase

-- every node takes the round
abbrev pub turned : Class → Crew → Inboxes → ℕ → Round → (ℕ → Voter) → ℕ → Voter
turned class crew inboxes phase round nodes q = turn class crew phase round (inbox crew (inboxes q)) (nodes q)

abbrev pub step : Class → Crew → Inboxes → State → State
step class crew inboxes s = record {
  phase = next_phase s.round s.phase;
  round = next_round class s.round;
  node = turned class crew inboxes s.phase s.round s.node;
}

-- what node q says in this state
abbrev pub saying : Class → Crew → State → ℕ → Option Ballot
saying class crew s q = say class crew s.phase s.round q (s.node q)

-- What honest nodes hear in a round. Each slot may be absent, and those of nodes that are not honest hold anything.
pub record Faithful (class : Class) (crew : Crew) (honest : ℕ → Bool) (inboxes : Inboxes) (s : State) : Type 0 where
  -- what stands in an honest node's slot is what that node says
  pub said : Each crew honest λ p. Each crew honest λ q.
      (m : Ballot) → inboxes p q ≡ some m → saying class crew s q ≡ some m
  -- in round 2 nobody but the phase's validators has a slot that counts
  pub in_turn : s.round ≡ validating → Each crew honest λ p.
      (q : ℕ) → q < crew.n → (m : Ballot) → inboxes p q ≡ some m → T (validates crew s.phase q)

-- in this round node p decides v
abbrev pub Decides : Class → Crew → Inboxes → State → ℕ → ℕ → Type 0
Decides class crew inboxes s p v =
    (s.round ≡ deciding) × T (decides class crew s.phase (inbox crew (inboxes p)) v)

-- A list of rounds, with what it begins from.
pub record Run : Type 0 where
  pub crew : Crew
  -- which node numbers are those of honest nodes
  pub honest : ℕ → Bool
  -- each node's initial plan
  pub plans : ℕ → ℕ
  -- the inboxes of each round, from round 0 on, and how many rounds the list has
  pub rounds : ℕ → Inboxes
  pub total : ℕ

abbrev pub class : Run → Class
class run = class_of run.crew

abbrev pub opening : (ℕ → ℕ) → State
opening plans = record { phase = 1; round = selecting; node = λ q. opened (plans q) }

-- the state when round j begins; in the last phase no round changes it
unfoldable pub state : Run → ℕ → State
state run zero = opening run.plans
state run (suc j) =
    cond (ltb (state run j).phase spent_phase)
    (step (class run) run.crew (run.rounds j) (state run j))
    (state run j)

-- round j is in the list, and comes before the records are spent
abbrev pub Held : Run → ℕ → Type 0
Held run j = (j < run.total) × ((state run j).phase < spent_phase)

-- the plan that node p validates in round j, 0 where it validates none
abbrev pub validated_at : Run → ℕ → ℕ → ℕ
validated_at run j p = validated run.crew (inbox run.crew (run.rounds j p))

-- in round j of the list node p decides v
abbrev pub DecidesAt : Run → ℕ → ℕ → ℕ → Type 0
DecidesAt run j p v = Held run j × Decides (class run) run.crew (run.rounds j) (state run j) p v

abbrev pub HasDecided : Run → ℕ → Type 0
HasDecided run p = (j : ℕ) × (v : ℕ) × DecidesAt run j p v

abbrev pub NotYet : Run → ℕ → ℕ → Type 0
NotYet run p j = (i v : ℕ) → i < j → DecidesAt run i p v → ⊥

-- the first decision in the first j rounds is v, and no lower plan is decided in its round
pub record FirstDecision (run : Run) (p j v : ℕ) : Type 0 where
  pub round : ℕ
  pub before : round < j
  pub decides : DecidesAt run round p v
  pub least : (w : ℕ) → DecidesAt run round p w → v ≤ w
  pub first : NotYet run p round

abbrev pub last_result : Run → ℕ → ℕ
last_result run p = ((state run run.total).node p).result

-- What the theorems suppose of a run.
pub record Admissible (run : Run) : Type 0 where
  pub crew_accepted : accept_of run.crew ≡ accepted tt
  -- at most b nodes are not honest
  pub few : tally (λ q. not (run.honest q)) run.crew.n ≤ run.crew.b
  pub faithful : (j : ℕ) → Held run j
      → Faithful (class run) run.crew run.honest (run.rounds j) (state run j)
  -- no message has plan 0
  pub plans : (j : ℕ) → Held run j → Each run.crew run.honest λ p.
      (q : ℕ) → q < run.crew.n → (m : Ballot) → run.rounds j p q ≡ some m → m.vote ≢ 0

-- the circle's nodes that validate in this phase are enough: twice their number passes what validation asks
abbrev pub CanValidate : Crew → (ℕ → Bool) → ℕ → Type 0
CanValidate crew circle phase = valid_above crew < 2 * tally (λ q. circle q && validates crew phase q) crew.n

-- The phase is good for this circle of voters: it has enough of them, and but in class 1 of those that validate; all of
-- its rounds are in the run, in the first they hear the same, and in each they hear one another.
pub record GoodFor (run : Run) (phase : ℕ) (circle : ℕ → Bool) : Type 0 where
  pub inside : Each run.crew circle (λ q. T (run.honest q))
  pub wide : run.crew.n ≤ tally circle run.crew.n + run.crew.b + run.crew.f
  pub group : class run ≢ one → CanValidate run.crew circle phase
  pub complete : (j : ℕ) → (state run j).phase ≡ phase → j < run.total
  pub equal : (j : ℕ) → (state run j).phase ≡ phase → (state run j).round ≡ selecting
      → Each run.crew circle λ p. Each run.crew circle λ q. (m : Ballot)
      → count_if (same_ballot m) (inbox run.crew (run.rounds j p))
      ≡ count_if (same_ballot m) (inbox run.crew (run.rounds j q))
  pub counts : (j : ℕ) → (state run j).phase ≡ phase → Each run.crew circle λ p. Each run.crew circle λ q.
      saying (class run) run.crew (state run j) q ≢ none → run.rounds j p q ≢ none
