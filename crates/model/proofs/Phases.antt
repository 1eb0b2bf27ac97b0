-- Which round stands where: every phase has its rounds, one after the other, until the records are spent.
use mathlib.Core.Path.{◌≡◌, refl, ap, ap₂, ◌∙◌}
use mathlib.Core.Bool.{cond}
use mathlib.Core.Logic.{◌⊎◌, inl, inr}
use Prim.Native.Nat.{ℕ, zero, suc, ◌≤◌, ◌<◌}
use native.Mathlib.Omega.{arith}
use borrow.Author.Tests.{lt-ltb}
use Rattle.wire.specs.Sizes.{spent_phase}
use Rattle.crew.specs.Thresholds.{Class, one, two, three}
use Rattle.ballot.proofs.Decision.{Stamps}
use Rattle.model.proofs.Voter.{Round, selecting, validating, deciding}
use Rattle.model.proofs.Engine.{State, next_round, next_phase, step, Run, class, state}

-- class 1, which has no round 2
abbrev pub Unstamped : Class → Type 0
Unstamped one = Unit {0}
Unstamped two = ⊥
Unstamped three = ⊥

pub class_cases : (class : Class) → Unstamped class ⊎ Stamps class
class_cases one = inl tt
class_cases two = inr tt
class_cases three = inr tt

second_unstamped : (class : Class) → Unstamped class → next_round class selecting ≡ deciding
second_unstamped one a = refl
second_unstamped two a = absurd a
second_unstamped three a = absurd a

second_stamped : (class : Class) → Stamps class → next_round class selecting ≡ validating
second_stamped one a = absurd a
second_stamped two a = refl
second_stamped three a = refl

module _ (run : Run) where
  pub next : (j : ℕ) → (state run j).phase < spent_phase
      → state run (suc j) ≡ step (class run) run.crew (run.rounds j) (state run j)
  unfolding state
  next j t =
      ap (λ b. cond b (step (class run) run.crew (run.rounds j) (state run j)) (state run j))
      (lt-ltb (state run j).phase spent_phase t)

  -- round j of the list is this round of this phase
  abbrev pub Stands : ℕ → ℕ → Round → Type 0
  Stands j phase round = ((state run j).phase ≡ phase) × ((state run j).round ≡ round)

  advance : (j phase : ℕ) (round : Round) → phase < spent_phase → Stands j phase round
      → Stands (suc j) (next_phase round phase) (next_round (class run) round)
  advance j phase round t s =
      let n = next j (omega (arith, s.0)) in (
        ap (λ (y : State). y.phase) n ∙ ap₂ next_phase s.1 s.0,
        ap (λ (y : State). y.round) n ∙ ap (next_round (class run)) s.1,
      )

  -- class 1: selection, decision
  pub decision_next : Unstamped (class run) → (j phase : ℕ) → phase < spent_phase → Stands j phase selecting
      → Stands (suc j) phase deciding
  decision_next a j phase t s =
      let b = advance j phase selecting t s in (b.0, b.1 ∙ second_unstamped (class run) a)

  -- classes 2 and 3: selection, validation, decision
  pub validation_next : Stamps (class run) → (j phase : ℕ) → phase < spent_phase → Stands j phase selecting
      → Stands (suc j) phase validating
  validation_next a j phase t s =
      let b = advance j phase selecting t s in (b.0, b.1 ∙ second_stamped (class run) a)

  pub decision_then : (j phase : ℕ) → phase < spent_phase → Stands j phase validating → Stands (suc j) phase deciding
  decision_then j phase t s = advance j phase validating t s

  phase_next : (j phase : ℕ) → phase < spent_phase → Stands j phase deciding → Stands (suc j) (suc phase) selecting
  phase_next j phase t s = advance j phase deciding t s

  -- every phase has its round 1
  pub phase_begins : (phase : ℕ) → 1 ≤ phase → phase ≤ spent_phase → (j : ℕ) × Stands j phase selecting
  unfolding state
  phase_begins zero h t = absurd (omega arith)
  phase_begins (suc zero) h t = (0, (refl, refl))
  phase_begins (suc (suc p)) h t =
      let r = phase_begins (suc p) (omega arith) (omega arith) in
      go r.0 r.1
    where
      early : suc p < spent_phase
      early = omega arith

      go : (j : ℕ) → Stands j (suc p) selecting → (j : ℕ) × Stands j (suc (suc p)) selecting
      go j s = elim (class_cases (class run)) [
        | inl a ↦ (suc (suc j), phase_next (suc j) (suc p) early (decision_next a j (suc p) early s))
        | inr a ↦
            let s₂ = validation_next a j (suc p) early s in
            (suc (suc (suc j)), phase_next (suc (suc j)) (suc p) early (decision_then (suc j) (suc p) early s₂))
      ]
