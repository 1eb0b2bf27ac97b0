-- The lock of each class, and of a run by its crew's class.
use mathlib.Core.Bool.{Bool}
use Prim.Native.Nat.{ℕ, ◌≤◌}
use Rattle.crew.specs.declared.Crew.{Crew}
use Rattle.crew.specs.Thresholds.{Class, one, two, three}
use Rattle.crew.proofs.Facts.{High, accepts, Bounds, bounds}
use Rattle.ballot.proofs.Slots.{FewByzantine}
use Rattle.ballot.proofs.Decision.{Stamps}
use Rattle.model.proofs.Engine.{State, Run, class, state, Admissible}
use Rattle.model.proofs.Run.{Locking, inv_at}
use Rattle.model.proofs.ClassOne.{locking_one}
use Rattle.model.proofs.Invariant.{Invariant}
use Rattle.model.proofs.Lock.{locking_later, later_invariant}

locking : (class : Class) (crew : Crew) (honest : ℕ → Bool) → FewByzantine crew honest → Bounds crew → High class crew
    → Locking class crew honest
locking one crew honest few bounds high = locking_one crew honest few bounds.reach high
locking two crew honest few bounds high = locking_later two tt crew honest few bounds
locking three crew honest few bounds high = locking_later three tt crew honest few bounds

invariant : (class : Class) → Stamps class → (crew : Crew) (honest : ℕ → Bool) (few : FewByzantine crew honest)
    (bounds : Bounds crew) (high : High class crew) (s : State)
    → (locking class crew honest few bounds high).Inv s → Invariant crew honest s
unfolding locking
invariant one a crew honest few bounds high s j = absurd a
invariant two a crew honest few bounds high s j = later_invariant two tt crew honest few bounds s j
invariant three a crew honest few bounds high s j = later_invariant three tt crew honest few bounds s j

module _ (run : Run) (ok : Admissible run) where
  pub lock : Locking (class run) run.crew run.honest
  lock =
      let facts = accepts run.crew ok.crew_accepted in
      locking (class run) run.crew run.honest ok.few (bounds facts) facts.quorum.high

  -- the invariant of classes 2 and 3 holds when any round of the list begins
  pub run_invariant : Stamps (class run) → (j : ℕ) → j ≤ run.total → Invariant run.crew run.honest (state run j)
  unfolding lock
  run_invariant a j t =
      let facts = accepts run.crew ok.crew_accepted in
      invariant (class run) a run.crew run.honest ok.few (bounds facts) facts.quorum.high (state run j)
      (inv_at run lock ok.faithful j t)
