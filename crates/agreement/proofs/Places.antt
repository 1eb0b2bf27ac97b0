-- A round's place in the list: the abstract engine's state when round j begins stands at the phase and round that j
-- gives, until it is spent.
use mathlib.Core.Path.{◌≡◌, refl, sym}
use mathlib.Core.Bool.{Bool, true, false, cond}
use mathlib.Core.Logic.{◌⊎◌, inl, inr}
use Prim.Native.Nat.{ℕ, zero, suc, ◌/◌, ◌%◌, ◌≤◌, ◌<◌}
use native.Mathlib.Omega.{arith}
use native.Mathlib.Decide.{dec_lt}
use lib.Dec.{eqb}
use Rattle.wire.specs.Sizes.{spent_phase}
use Rattle.crew.specs.declared.Crew.{Crew}
use Rattle.crew.specs.Thresholds.{Class, one, two, three}
use Rattle.model.proofs.Voter.{Round, selecting, validating, deciding, round_number}
use Rattle.model.proofs.Engine.{State, next_round, next_phase, step, Run, class, state}
use Rattle.model.proofs.Run.{moves}
use Rattle.agreement.specs.Statement.{phase_if, round_if, phase_at, round_at}

-- the phase and round with which round j begins: those of its place, and round 1 of phase 64 once the records are spent
abbrev Stands : Crew → ℕ → ℕ → Round → Type 0
Stands crew j phase round =
    ((phase_at crew j < spent_phase) × (phase ≡ phase_at crew j) × (round_number round ≡ round_at crew j))
    ⊎ ((spent_phase ≤ phase_at crew j) × (phase ≡ spent_phase) × (round ≡ selecting))

-- One round on, by the class: of two rounds a phase, or of three.

two_rounds : (j : ℕ) → ((j % 2 ≡ 0) → (suc j / 2 ≡ j / 2) × (suc j % 2 ≡ 1))
    × ((j % 2 ≡ 1) → (suc j / 2 ≡ suc (j / 2)) × (suc j % 2 ≡ 0))
two_rounds j = (λ r. (omega arith, omega arith), λ r. (omega arith, omega arith))

three_rounds : (j : ℕ) → ((j % 3 < 2) → (suc j / 3 ≡ j / 3) × (suc j % 3 ≡ suc (j % 3)))
    × ((j % 3 ≡ 2) → (suc j / 3 ≡ suc (j / 3)) × (suc j % 3 ≡ 0))
three_rounds j = (λ r. (omega arith, omega arith), λ r. (omega arith, omega arith))

next_place : (j phase : ℕ) (round : Round) (first second : Bool)
    → phase ≡ phase_if first j → round_number round ≡ round_if first j
    → (next_phase round phase ≡ phase_if first (suc j))
    × (round_number (next_round (cond first one (cond second two three)) round) ≡ round_if first (suc j))
next_place j phase selecting true second p r =
    let next = (two_rounds j).0 (omega arith) in (omega (arith, next.0), omega (arith, next.1))
next_place j phase validating true second p r = absurd (omega arith)
next_place j phase deciding true second p r =
    let next = (two_rounds j).1 (omega arith) in (omega (arith, next.0), omega (arith, next.1))
next_place j phase selecting false true p r =
    let next = (three_rounds j).0 (omega arith) in (omega (arith, next.0), omega (arith, next.1))
next_place j phase selecting false false p r =
    let next = (three_rounds j).0 (omega arith) in (omega (arith, next.0), omega (arith, next.1))
next_place j phase validating false second p r =
    let next = (three_rounds j).0 (omega arith) in (omega (arith, next.0), omega (arith, next.1))
next_place j phase deciding false second p r =
    let next = (three_rounds j).1 (omega arith) in (omega (arith, next.0), omega (arith, next.1))

-- a phase does not fall
phase_rises : (j : ℕ) (first : Bool) → phase_if first j ≤ phase_if first (suc j)
phase_rises j true = omega arith
phase_rises j false = omega arith

-- the first round
first_place : (first : Bool) → (phase_if first 0 ≡ 1) × (round_if first 0 ≡ 1)
first_place true = (refl, refl)
first_place false = (refl, refl)

-- the last round of phase 63 is a round 3, and leads to phase 64
last_place_lem : (class : Class) (round : Round) (phase : ℕ) → phase < spent_phase
    → spent_phase ≤ next_phase round phase
    → (next_phase round phase ≡ spent_phase) × (next_round class round ≡ selecting)
last_place_lem class selecting phase left end = absurd (omega arith)
last_place_lem class validating phase left end = absurd (omega arith)
last_place_lem class deciding phase left end = (omega arith, refl)

module _ (run : Run) where
  abbrev Here : ℕ → State → Type 0
  Here j s = Stands run.crew j s.phase s.round

  goes_on : (j : ℕ) (s : State) → s.phase < spent_phase → Here j s
      → Here (suc j) (step (class run) run.crew (run.rounds j) s)
  goes_on j s left (inr spent) = absurd (omega (arith, spent.1))
  goes_on j s left (inl here) =
      let crew = run.crew in
      let next = next_place j s.phase s.round (eqb crew.class 1) (eqb crew.class 2) here.1 here.2 in
      elim (dec_lt (phase_at crew (suc j)) spent_phase) [
        | yes early ↦ inl (early, next.0, next.1)
        | no end ↦
            let last = last_place_lem (class run) s.round s.phase left (omega (arith, next.0)) in
            inr (omega arith, last.0, last.1)
      ]

  stays : (j : ℕ) (s : State) → spent_phase ≤ s.phase → Here j s → Here (suc j) s
  stays j s end (inl here) = absurd (omega (arith, here.0, here.1))
  stays j s end (inr spent) =
      let rises = phase_rises j (eqb run.crew.class 1) in
      inr (omega (arith, spent.0), spent.1, spent.2)

  place : (j : ℕ) → Stands run.crew j (state run j).phase (state run j).round
  unfolding state
  place zero =
      let first = first_place (eqb run.crew.class 1) in
      inl (omega (arith, first.0), omega (arith, first.0), omega (arith, first.1))
  place (suc j) =
      let here = place j in
      moves run (Here (suc j)) j (λ left. goes_on j (state run j) left here) (λ end. stays j (state run j) end here)

  -- before the records are spent, the place is the state's
  pub place_early : (j : ℕ) → (state run j).phase < spent_phase
      → (phase_at run.crew j ≡ (state run j).phase) × (round_at run.crew j ≡ round_number (state run j).round)
  place_early j left = elim (place j) [
    | inl here ↦ (sym here.1, sym here.2)
    | inr spent ↦ absurd (omega (arith, spent.1))
  ]

  -- and the state is not spent where the place is not
  pub early_is : (j : ℕ) → phase_at run.crew j < spent_phase → (state run j).phase < spent_phase
  early_is j early = elim (place j) [ inl here ↦ omega (arith, here.1) | inr spent ↦ absurd (omega (arith, spent.0)) ]

  pub late_is : (j : ℕ) → spent_phase ≤ phase_at run.crew j
      → ((state run j).phase ≡ spent_phase) × ((state run j).round ≡ selecting)
  late_is j late = elim (place j) [ inl here ↦ absurd (omega (arith, here.0)) | inr spent ↦ (spent.1, spent.2) ]
