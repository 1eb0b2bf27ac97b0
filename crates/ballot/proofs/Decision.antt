-- Decision by counts: what is decided is the least plan that stands in D slots, and in classes 2 and 3 only votes with
-- the phase as stamp decide. Builds on specs/Decision.antt.
use mathlib.Core.Path.{◌≡◌, ap}
use mathlib.Core.Bool.{◌&&◌}
use mathlib.Core.List.{List}
use mathlib.Core.Logic.{◌≢◌}
use Prim.Native.Nat.{ℕ, ◌≤◌, ◌<◌}
use native.Mathlib.Omega.{arith}
use lib.Dec.{T, eqb→eq}
use Rattle.wire.proofs.Tests.{tests, and_T}
use Rattle.crew.specs.declared.Crew.{Crew}
use Rattle.crew.specs.Thresholds.{Class, one, two, three}
use Rattle.ballot.specs.Count.{count_if}
use Rattle.ballot.specs.Ballot.{Ballot, votes}
use Rattle.ballot.specs.Decision.{fresh, decides, decision}
use Rattle.ballot.proofs.Counting.{count_le}
use Rattle.ballot.proofs.Least.{least_of_passes, least_of_some, least_of_least}

-- classes 2 and 3, in which validation stamps a vote
abbrev pub Stamps : Class → Type 0
Stamps one = ⊥
Stamps two = Unit {0}
Stamps three = Unit {0}

pub fresh_stamp : (class : Class) → Stamps class → (phase : ℕ) (m : Ballot) → T (fresh class phase m) → m.stamp ≡ phase
fresh_stamp one a phase m h = absurd a
fresh_stamp two a phase m h = omega tests
fresh_stamp three a phase m h = omega tests

pub stamp_fresh : (class : Class) → Stamps class → (phase : ℕ) (m : Ballot) → m.stamp ≡ phase → T (fresh class phase m)
stamp_fresh one a phase m e = absurd a
stamp_fresh two a phase m e = omega tests
stamp_fresh three a phase m e = omega tests

module _ (class : Class) (crew : Crew) (phase : ℕ) (ballots : List Ballot) where
  pub decision_decides : decision class crew phase ballots ≢ 0
      → T (decides class crew phase ballots (decision class crew phase ballots))
  unfolding decision
  decision_decides = least_of_passes (decides class crew phase ballots) ballots

  module _ (quorum : 0 < crew.d) (v : ℕ) (d : T (decides class crew phase ballots v)) where
    -- a plan that decides is a slot's vote
    pub decides_voted : 0 < count_if (votes v) ballots
    unfolding decides
    decides_voted =
        omega (
          tests,
          count_le (λ m. fresh class phase m && votes v m) (votes v) ballots λ m x.
              (and_T (fresh class phase m) (votes v m) x).1,
        )

    -- what is decided is not above any plan that decides
    pub decision_least : decision class crew phase ballots ≤ v
    unfolding decision
    decision_least = least_of_least (decides class crew phase ballots) ballots v decides_voted d

    -- and where no slot votes 0, it is a plan
    pub decision_plan : count_if (votes 0) ballots ≡ 0 → decision class crew phase ballots ≢ 0
    unfolding decision
    decision_plan z e =
        let wins = count_le (votes v) (λ m. decides class crew phase ballots m.vote) ballots λ m x.
        rw (eqb→eq m.vote v x) d in
        omega (
          arith,
          decides_voted,
          least_of_some (decides class crew phase ballots) ballots (omega (arith, decides_voted)),
          ap (λ x. count_if (votes x) ballots) e,
        )
