-- The entries that a selection lists are those that the abstract engine's node says.
use mathlib.Core.Path.{◌≡◌, refl}
use mathlib.Core.Bool.{Bool, true, false, cond}
use mathlib.Core.List.{List}
use Prim.Native.Nat.{ℕ}
use native.Mathlib.Omega.{arith}
use lib.Dec.{eqb}
use borrow.Author.Tests.{eqb-true, eqb-false}
use Rattle.wire.specs.Entry.{entries_from}
use Rattle.crew.specs.declared.Crew.{Crew}
use Rattle.crew.specs.Thresholds.{one, two, three, class_of}
use Rattle.crew.proofs.Facts.{Quorum}
use Rattle.model.proofs.Voter.{entries_said}

pub listed_said : (crew : Crew) → Quorum crew → (history : List ℕ) (phase : ℕ)
    → entries_from history 0 (cond (eqb crew.class 3) phase 0) ≡ entries_said (class_of crew) history phase
unfolding entries_from
listed_said crew a history phase = go (eqb crew.class 1) (eqb crew.class 2) (eqb crew.class 3) refl refl refl
  where
    go : (x y z : Bool) → eqb crew.class 1 ≡ x → eqb crew.class 2 ≡ y → eqb crew.class 3 ≡ z
        → entries_from history 0 (cond z phase 0) ≡ entries_said (cond x one (cond y two three)) history phase
    go true y false first second third = refl
    go true y true first second third =
        absurd (omega (arith, eqb-true crew.class 1 first, eqb-true crew.class 3 third))
    go false true false first second third = refl
    go false true true first second third =
        absurd (omega (arith, eqb-true crew.class 2 second, eqb-true crew.class 3 third))
    go false false true first second third = refl
    go false false false first second third =
        let not_one = eqb-false crew.class 1 first in
        let not_two = eqb-false crew.class 2 second in
        let not_three = eqb-false crew.class 3 third in
        absurd (omega (arith, a.class_from, a.class_to))
