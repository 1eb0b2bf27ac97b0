-- Agreement from a lock: what one round must keep, and what then holds of every list of rounds.
-- Builds on Engine.antt.
use mathlib.Core.Path.{◌≡◌, refl, sym, subst}
use mathlib.Core.Bool.{Bool, true, false, cond}
use Prim.Native.Nat.{ℕ, zero, suc, ◌≤◌, ◌<◌}
use native.Mathlib.Omega.{arith}
use native.Mathlib.Decide.{ℕ_discrete, dec_le}
use lib.Dec.{ltb}
use borrow.Author.Tests.{ltb-true, ltb-false}
use Rattle.wire.specs.Sizes.{spent_phase}
use Rattle.crew.specs.declared.Crew.{Crew}
use Rattle.crew.specs.Thresholds.{Class}
use Rattle.model.proofs.Voter.{Voter, Round}
use Rattle.model.proofs.Engine.{Each, State, Inboxes, step, Faithful, Decides, opening}
use Rattle.model.proofs.Engine.{Run, class, state, Held, DecidesAt}

abbrev pub at : ℕ → Round → (ℕ → Voter) → State
at phase round nodes = record { phase = phase; round = round; node = nodes }

-- An invariant, and a lock on a plan. A start has the invariant, and the lock where all begin with one plan; a round
-- keeps both; what is decided is locked; and under a lock nothing else is decided.
pub record Locking (class : Class) (crew : Crew) (honest : ℕ → Bool) : Type 1 where
  pub Inv : State → Type 0
  pub Lock : ℕ → State → Type 0
  pub begins : (plans : ℕ → ℕ) → Inv (opening plans)
  pub common : (plans : ℕ → ℕ) (v : ℕ) → Each crew honest (λ q. plans q ≡ v) → Lock v (opening plans)
  pub inv_step : (i : Inboxes) (s : State) → s.phase < spent_phase → Inv s → Faithful class crew honest i s
      → Inv (step class crew i s)
  pub lock_step : (i : Inboxes) (s : State) → Inv s → Faithful class crew honest i s
      → (v : ℕ) → Lock v s → Lock v (step class crew i s)
  pub decision_locks : (i : Inboxes) (s : State) → Inv s → Faithful class crew honest i s
      → Each crew honest λ p. (v : ℕ) → Decides class crew i s p v → Lock v s
  pub decision_locked : (i : Inboxes) (s : State) → Inv s → Faithful class crew honest i s
      → Each crew honest λ p. (v w : ℕ) → Decides class crew i s p v → Lock w s → v ≡ w

-- before the records are spent round j is a step, after that it leaves the state as it was
pub moves : (run : Run) (P : State → Type 0) (j : ℕ)
    → ((state run j).phase < spent_phase → P (step (class run) run.crew (run.rounds j) (state run j)))
    → (spent_phase ≤ (state run j).phase → P (state run j)) → P (state run (suc j))
unfolding state
moves run P j f g = go (ltb (state run j).phase spent_phase) refl
  where
    go : (b : Bool) → ltb (state run j).phase spent_phase ≡ b
        → P (cond b (step (class run) run.crew (run.rounds j) (state run j)) (state run j))
    go true e = f (ltb-true (state run j).phase spent_phase e)
    go false e = g (ltb-false (state run j).phase spent_phase e)

module _ (run : Run) (l : Locking (class run) run.crew run.honest)
    (faithful : (j : ℕ) → Held run j
    → Faithful (class run) run.crew run.honest (run.rounds j) (state run j)) where
  pub inv_at : (j : ℕ) → j ≤ run.total → l.Inv (state run j)
  unfolding state
  inv_at zero h = l.begins run.plans
  inv_at (suc j) h =
      let before = inv_at j (omega arith) in
      moves run l.Inv j
      (λ t. l.inv_step (run.rounds j) (state run j) t before (faithful j (omega arith, t)))
      (λ t. before)

  -- a lock holds from then on
  lock_at : (v i j : ℕ) → i ≤ j → j ≤ run.total → l.Lock v (state run i) → l.Lock v (state run j)
  lock_at v i zero h t x = subst (λ n. l.Lock v (state run n)) (let e : i ≡ 0 = omega arith in e) x
  lock_at v i (suc j) h t x = elim (ℕ_discrete i (suc j)) [
    | yes e ↦ subst (λ n. l.Lock v (state run n)) e x
    | no e ↦
        let inv = inv_at j (omega arith) in
        let before = lock_at v i j (omega arith) (omega arith) x in
        moves run (l.Lock v) j
        (λ u. l.lock_step (run.rounds j) (state run j) inv (faithful j (omega arith, u)) v before)
        (λ u. before)
  ]

  -- a decision from then on is the locked plan
  locked : (i v : ℕ) → l.Lock v (state run i)
      → Each run.crew run.honest λ p. (j w : ℕ) → i ≤ j → DecidesAt run j p w → w ≡ v
  locked i v x p lp hp j w h d =
      let t : j ≤ run.total = omega (arith, d.0.0) in
      l.decision_locked (run.rounds j) (state run j) (inv_at j t) (faithful j d.0) p lp hp w v d.1
      (lock_at v i j h t x)

  pub locked_agreement : Each run.crew run.honest λ p. Each run.crew run.honest λ q.
      (i j v w : ℕ) → DecidesAt run i p v → DecidesAt run j q w → v ≡ w
  locked_agreement p lp hp q lq hq i j v w d e = elim (dec_le i j) [
    | yes h ↦ sym (locked i v (lock p lp hp i v d) q lq hq j w h e)
    | no h ↦ locked j w (lock q lq hq j w e) p lp hp i v (omega arith) d
  ]
    where
      lock : Each run.crew run.honest λ p. (i v : ℕ) → DecidesAt run i p v → l.Lock v (state run i)
      lock p lp hp i v d =
          let inv = inv_at i (omega (arith, d.0.0)) in
          l.decision_locks (run.rounds i) (state run i) inv (faithful i d.0) p lp hp v d.1

  pub locked_start : (v : ℕ) → Each run.crew run.honest (λ q. run.plans q ≡ v)
      → Each run.crew run.honest λ p. (j w : ℕ) → DecidesAt run j p w → w ≡ v
  unfolding state
  locked_start v all p lp hp j w d = locked 0 v (l.common run.plans v all) p lp hp j w (omega arith) d
