-- A good phase of a run: what the circle hears in each of its rounds, and that it decides.
use mathlib.Core.Path.{◌≡◌, refl, sym, ap, ◌∙◌, subst}
use mathlib.Core.Bool.{Bool}
use mathlib.Core.Logic.{inl, inr}
use mathlib.Core.Option.{Option, none, some, none-ne-some}
use Prim.Native.Nat.{ℕ, suc, ◌≤◌, ◌<◌}
use native.Mathlib.Omega.{arith}
use lib.Dec.{T}
use Rattle.wire.specs.Sizes.{spent_phase}
use Rattle.crew.specs.Thresholds.{Class, one, two, three}
use Rattle.crew.specs.Group.{validates}
use Rattle.crew.proofs.Facts.{Group, Quorum, Accepts, accepts, quorum_positive, circle_decides}
use Rattle.crew.proofs.Facts.{circle_above_any, group_small}
use Rattle.ballot.specs.Ballot.{Ballot, inbox}
use Rattle.ballot.proofs.Validation.{InTurn}
use Rattle.ballot.proofs.Decision.{Stamps}
use Rattle.ballot.proofs.Order.{same_inboxes}
use Rattle.model.proofs.Voter.{selecting, validating, deciding}
use Rattle.model.proofs.Engine.{Each, step, saying, Run, class, state, Held, DecidesAt, Admissible}
use Rattle.model.proofs.Engine.{CanValidate, GoodFor}
use Rattle.model.proofs.Invariant.{Invariant}
use Rattle.model.proofs.Phases.{Unstamped, class_cases, Stands, next}
use Rattle.model.proofs.Phases.{decision_next, validation_next, decision_then, phase_begins}
use Rattle.model.proofs.GoodPhase.{Strong, Hears, Alike, CircleDecides}
use Rattle.model.proofs.GoodPhase.{two_rounds, good_rounds}
use Rattle.model.proofs.Results.{no_zero_votes}

module _ (run : Run) (ok : Admissible run) (phase : ℕ) (early : phase < spent_phase) (circle : ℕ → Bool)
    (good : GoodFor run phase circle) where
  accepting : Accepts run.crew
  accepting = accepts run.crew ok.crew_accepted

  facts : Quorum run.crew
  facts = accepting.quorum

  small : run.crew.c ≤ run.crew.n
  small = group_small accepting

  hears : (j : ℕ) → (state run j).phase ≡ phase → Hears (class run) run.crew circle (run.rounds j) (state run j)
  hears j e p lp kp q lq kq = go (run.rounds j p q) says refl refl
    where
      says : Option Ballot
      says = saying (class run) run.crew (state run j) q

      go : (slot o : Option Ballot) → run.rounds j p q ≡ slot → says ≡ o → run.rounds j p q ≡ says
      go (some m) o z s =
          let held : Held run j = (good.complete j e, omega arith) in
          z ∙ sym ((ok.faithful j held).said p lp (good.inside p lp kp) q lq (good.inside q lq kq) m z)
      go none none z s = z ∙ sym s
      go none (some m) z s = absurd (good.counts j e p lp kp q lq kq (λ x. none-ne-some _ (sym x ∙ s)) z)

  alike : (j : ℕ) → Stands run j phase selecting → Alike run.crew circle (run.rounds j)
  alike j s = record {
    same = λ p lp kp q lq kq.
        same_inboxes (inbox run.crew (run.rounds j p)) (inbox run.crew (run.rounds j q)) λ m.
        good.equal j s.0 s.1 p lp kp q lq kq m;
    plans = λ p lp kp.
        no_zero_votes run ok p lp (good.inside p lp kp) j (good.complete j s.0, omega (arith, s.0));
  }

  -- What acceptance gives by the class.

  strong : (class : Class) → Group class run.crew → Strong class run.crew
  strong one group = tt
  strong two group = tt
  strong three group = omega arith

  -- in classes 2 and 3 the circle can validate
  can_validate : Stamps (class run) → (t : ℕ) → t ≡ phase → CanValidate run.crew circle t
  can_validate a t e =
      subst (CanValidate run.crew circle) (sym e) (good.group (λ is_one. subst Stamps is_one a))

  -- and hears none but validators in round 2
  in_turn : (j : ℕ) → Stands run j phase validating → (t : ℕ) → t ≡ phase
      → Each run.crew circle (λ p. InTurn run.crew t (run.rounds j p))
  in_turn j s t e p lp kp q lq m here =
      let held : Held run j = (good.complete j s.0, omega (arith, s.0)) in
      subst (λ x. T (validates run.crew x q)) (s.0 ∙ sym e)
      ((ok.faithful j held).in_turn s.1 p lp (good.inside p lp kp) q lq m here)

  -- every node of the circle decides in this phase
  abbrev Decides : Type 0
  Decides = Each run.crew circle λ p. (j : ℕ) × (v : ℕ) × ((state run j).phase ≡ phase) × DecidesAt run j p v

  decided : (j : ℕ) → Stands run j phase deciding
      → CircleDecides (class run) run.crew circle (state run j).phase (run.rounds j) → Decides
  decided j s d p lp kp =
      (j, d.0, s.0, ((good.complete j s.0, omega (arith, s.0)), (s.1, d.1 p lp kp)))

  -- the second round, and the third, as steps from the first
  second : (j : ℕ) → Stands run j phase selecting → (state run (suc j)).phase ≡ phase
      → Hears (class run) run.crew circle (run.rounds (suc j))
      (step (class run) run.crew (run.rounds j) (state run j))
  second j s e =
      subst (Hears (class run) run.crew circle (run.rounds (suc j))) (next run j (omega (arith, s.0)))
      (hears (suc j) e)

  third : (j : ℕ) → Stands run j phase selecting → (state run (suc j)).phase ≡ phase
      → (state run (suc (suc j))).phase ≡ phase
      → Hears (class run) run.crew circle (run.rounds (suc (suc j)))
      (step (class run) run.crew (run.rounds (suc j)) (step (class run) run.crew (run.rounds j) (state run j)))
  third j s e e₂ =
      let steps = next run (suc j) (omega (arith, e))
      ∙ ap (step (class run) run.crew (run.rounds (suc j))) (next run j (omega (arith, s.0))) in
      subst (Hears (class run) run.crew circle (run.rounds (suc (suc j)))) steps (hears (suc (suc j)) e₂)

  -- a phase's number is the same in all its rounds
  at_phase : (i j : ℕ) → (state run i).phase ≡ phase → (state run j).phase ≡ phase
      → CircleDecides (class run) run.crew circle (state run i).phase (run.rounds j)
      → CircleDecides (class run) run.crew circle (state run j).phase (run.rounds j)
  at_phase i j e e₂ = subst (λ t. CircleDecides (class run) run.crew circle t (run.rounds j)) (e ∙ sym e₂)

  module _ (j : ℕ) (s : Stands run j phase selecting) where
    good_one : Unstamped (class run) → Decides
    good_one a =
        let s₂ = decision_next run a j phase early s in
        let d = two_rounds run.crew circle good.wide (quorum_positive facts) (circle_decides facts) small
        (class run) a (circle_above_any facts) (run.rounds j) (run.rounds (suc j)) (state run j).phase
        (state run j).round (state run j).node s.1 (hears j s.0) (alike j s) (second j s s₂.0) in
        decided (suc j) s₂ (at_phase j (suc j) s.0 s₂.0 d)

    good_later : Stamps (class run) → Invariant run.crew run.honest (state run j) → Decides
    good_later a inv =
        let s₂ = validation_next run a j phase early s in
        let s₃ = decision_then run (suc j) phase early s₂ in
        let d = good_rounds run.crew circle good.wide (quorum_positive facts) (circle_decides facts) small
        (class run) a run.honest good.inside (strong (class run) accepting.group) (circle_above_any facts)
        (run.rounds j) (run.rounds (suc j)) (run.rounds (suc (suc j))) (state run j).phase (state run j).round
        (state run j).node (can_validate a _ s.0) (in_turn (suc j) s₂ _ s.0) s.1 inv
        (hears j s.0) (alike j s) (second j s s₂.0) (third j s s₂.0 s₃.0) in
        decided (suc (suc j)) s₃ (at_phase j (suc (suc j)) s.0 s₃.0 d)

  -- the invariant is asked for in classes 2 and 3 alone
  pub phase_decides : 1 ≤ phase
      → (Stamps (class run) → (j : ℕ) → j ≤ run.total → Invariant run.crew run.honest (state run j))
      → Each run.crew circle λ p. (j : ℕ) × (v : ℕ) × ((state run j).phase ≡ phase) × DecidesAt run j p v
  phase_decides from inv =
      let r = phase_begins run phase from (omega arith) in
      elim (class_cases (class run)) [
        | inl a ↦ good_one r.0 r.1 a
        | inr a ↦ good_later r.0 r.1 a (inv a r.0 (omega (arith, good.complete r.0 r.1.0)))
      ]
