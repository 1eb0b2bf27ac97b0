-- Outcomes apart, and what an accepted operation tells of its tests.
use mathlib.Core.Path.{◌≡◌, refl, sym, ap}
use mathlib.Core.Bool.{Bool, true, false, true≢false}
use Prim.Native.Nat.{ℕ}
use Rattle.wire.specs.Outcome.{Outcome, accepted, refused, require, after, is_accepted}

-- no operation is refused and accepted
pub refused_not_accepted : {A : Type 0} (number : ℕ) (value : A) → refused number ≡ accepted value → ⊥
refused_not_accepted number value e = true≢false (ap is_accepted (sym e))

-- refusals are of one number where their outcomes are equal
pub same_number : {A : Type 0} {m n : ℕ} → ◌≡◌ {A = Outcome A} (refused m) (refused n) → m ≡ n
same_number e = cc

-- an accepted operation has passed its first test, and what comes after the test is accepted
pub passed : {A : Type 0} (test : Bool) (number : ℕ) (next : Outcome A) {value : A}
    → require test number next ≡ accepted value → (test ≡ true) × (next ≡ accepted value)
passed true number next e = (refl, e)
passed false number next e = absurd (refused_not_accepted number _ e)

-- of two operations that are accepted together each is
pub both_accepted : {A : Type 0} (first : Outcome (Unit {0})) (next : Outcome A) {value : A}
    → after first next ≡ accepted value → (first ≡ accepted tt) × (next ≡ accepted value)
both_accepted (accepted tt) next e = (refl, e)
both_accepted (refused number) next e = absurd (refused_not_accepted number _ e)

-- accepted values are equal where their outcomes are
pub same_value : {A : Type 0} {a b : A} → accepted a ≡ accepted b → a ≡ b
same_value e = cc

-- an operation that tells nothing but that it was accepted
pub accepted_is : (outcome : Outcome (Unit {0})) → is_accepted outcome ≡ true → outcome ≡ accepted tt
accepted_is (accepted value) e = refl
accepted_is (refused number) e = absurd (true≢false (sym e))
