-- Class 1: a decision locks the votes of D − b honest nodes, and selection keeps them.
use mathlib.Core.Path.{◌≡◌, sym, ◌∙◌}
use mathlib.Core.Bool.{Bool, ◌&&◌}
use mathlib.Core.List.{List}
use mathlib.Core.Logic.{inl, inr}
use mathlib.Core.Option.{some, some-injective}
use Prim.Native.Nat.{ℕ, ◌+◌, ◌≤◌}
use native.Mathlib.Omega.{arith}
use native.Mathlib.Decide.{ℕ_discrete}
use lib.Dec.{T, eqb→eq}
use Rattle.wire.proofs.Tests.{tests, and_T}
use Rattle.crew.specs.declared.Crew.{Crew}
use Rattle.crew.specs.Thresholds.{one}
use Rattle.crew.proofs.Facts.{High}
use Rattle.ballot.specs.Count.{tally, holds}
use Rattle.ballot.specs.Ballot.{Ballot, inbox, votes}
use Rattle.ballot.specs.Selection.{taken}
use Rattle.ballot.specs.Decision.{decides}
use Rattle.ballot.proofs.Tests.{holds_T}
use Rattle.ballot.proofs.Counting.{count_gather, tally_split, tally_not}
use Rattle.ballot.proofs.Slots.{same_vote, FewByzantine}
use Rattle.ballot.proofs.Locked.{Core, Takes, outside_lock_at_most_E, lock_taken_one}
use Rattle.model.proofs.Voter.{Voter, Round, selecting, validating, deciding, say, turn}
use Rattle.model.proofs.Engine.{Each, State, Inboxes, next_round, step, Faithful, Decides}
use Rattle.model.proofs.Voters.{if_plan_is}
use Rattle.model.proofs.Run.{Locking}

-- the rounds that class 1 has
abbrev pub InClassOne : Round → Type 0
InClassOne selecting = Unit {0}
InClassOne validating = ⊥
InClassOne deciding = Unit {0}

in_class_one_after : (r : Round) → InClassOne r → InClassOne (next_round one r)
in_class_one_after selecting o = tt
in_class_one_after validating o = absurd o
in_class_one_after deciding o = tt

-- in both rounds a node says its vote
says_vote : (crew : Crew) (r : Round) → InClassOne r → (phase q : ℕ) (d : Voter) (m : Ballot)
    → say one crew phase r q d ≡ some m → d.vote ≡ m.vote
says_vote crew selecting o phase q d m e = same_vote (some-injective _ _ e)
says_vote crew validating o phase q d m e = absurd o
says_vote crew deciding o phase q d m e = same_vote (some-injective _ _ e)

-- a node that takes v or nothing keeps the vote v
keeps_vote : (crew : Crew) (r : Round) → InClassOne r → (phase : ℕ) (ballots : List Ballot) (d : Voter) (v : ℕ)
    → d.vote ≡ v → Takes v one crew ballots → (turn one crew phase r ballots d).vote ≡ v
keeps_vote crew selecting o phase ballots d v e h =
    let x = taken one crew ballots in
    elim (if_plan_is x x d.vote) [
      | inl z ↦ z.1 ∙ e
      | inr z ↦ elim h [ inl y ↦ z.1 ∙ y | inr y ↦ absurd (z.0 y) ]
    ]
keeps_vote crew validating o phase ballots d v e h = absurd o
keeps_vote crew deciding o phase ballots d v e h = e

module _ (crew : Crew) (honest : ℕ → Bool) (few : FewByzantine crew honest)
    (reach : crew.d + crew.b + crew.f ≤ crew.n) (high : High one crew) where
  -- at least D − b honest nodes have the vote v
  record Lock (v : ℕ) (s : State) : Type 0 where
    core : ℕ → Bool
    ample : crew.d ≤ tally core crew.n + crew.b
    members : Each crew core (λ q. T (honest q) × ((s.node q).vote ≡ v))

  -- the lock as an honest node's inbox shows it
  shown : (i : Inboxes) (s : State) → InClassOne s.round → Faithful one crew honest i s
      → (v : ℕ) → Lock v s → Each crew honest λ p. Core crew (i p) v 0
  shown i s o f v l p lp hp = record {
    core = l.core;
    ample = l.ample;
    says = λ q lq k m e.
        let d = l.members q lq k in
        let m-is = f.said p lp hp q lq d.0 m e in
        (sym (says_vote crew s.round o s.phase q (s.node q) m m-is) ∙ d.1, omega arith);
  }

  lock_step : (i : Inboxes) (s : State) → InClassOne s.round → Faithful one crew honest i s
      → (v : ℕ) → Lock v s → Lock v (step one crew i s)
  lock_step i s o f v l = record {
    core = l.core;
    ample = l.ample;
    members = λ q lq k.
        let d = l.members q lq k in (
          d.0,
          keeps_vote crew s.round o s.phase (inbox crew (i q)) (s.node q) v d.1
              (lock_taken_one crew reach (i q) v 0 (shown i s o f v l q lq d.0)),
        );
  }

  -- another plan has at most E slots, and D passes E
  decision_locked : (i : Inboxes) (s : State) → InClassOne s.round → Faithful one crew honest i s
      → Each crew honest λ p. (v w : ℕ) → Decides one crew i s p v → Lock w s → v ≡ w
  unfolding decides
  decision_locked i s o f p lp hp v w d l = elim (ℕ_discrete v w) [
    | yes e ↦ e
    | no e ↦
        let few-votes = outside_lock_at_most_E crew reach (i p) w 0 (shown i s o f w l p lp hp) (votes v) λ m x y z.
        omega tests in
        omega (tests, d.1)
  ]

  -- of the D slots that decide at least D − b are honest
  decision_locks : (i : Inboxes) (s : State) → InClassOne s.round → Faithful one crew honest i s
      → Each crew honest λ p. (v : ℕ) → Decides one crew i s p v → Lock v s
  unfolding decides
  decision_locks i s o f p lp hp v d =
      let voter : ℕ → Bool = λ q. holds (votes v) (i p q) in
      record {
        core = λ q. honest q && voter q;
        ample = omega (tests, d.1, count_gather (votes v) (i p) crew.n, tally_split honest voter crew.n);
        members = λ q lq k.
            let a = and_T (honest q) (voter q) k in
            let h = holds_T (votes v) (i p q) a.1 in
            let m-is = f.said p lp hp q lq a.0 h.0 h.1 in
            (a.0, says_vote crew s.round o s.phase q (s.node q) h.0 m-is ∙ eqb→eq _ _ h.2);
      }

  pub locking_one : Locking one crew honest
  locking_one = record {
    Inv = λ s. InClassOne s.round;
    Lock = Lock;
    begins = λ plans. tt;
    common = λ plans v all. record {
      core = honest;
      ample = omega (arith, tally_not honest crew.n);
      members = λ q lq hq. (hq, all q lq hq);
    };
    inv_step = λ i s t o f. in_class_one_after s.round o;
    lock_step = lock_step;
    decision_locks = decision_locks;
    decision_locked = decision_locked;
  }
