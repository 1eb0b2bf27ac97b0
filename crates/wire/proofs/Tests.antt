-- Tests as facts: under `omega tests` a test such as `T (ltb a b)` or `T (not (eqb a b))` is read, and proved, as
-- the fact it stands for.
use mathlib.Core.Path.{◌≡◌, refl, sym}
use mathlib.Core.Bool.{Bool, true, false, not, ◌&&◌, ◌||◌, true≢false}
use mathlib.Core.Logic.{◌⊎◌, inl, inr, ◌≢◌}
use Prim.Native.Nat.{ℕ, zero, suc, ◌<◌}
use native.Mathlib.Omega.{arith}
use lib.Dec.{T, leb, ltb, eqb, leb→le, le→leb, ltb→lt, lt→ltb, nleb→lt, nltb→le, eqb→eq, eqb_refl, not_T, T_not}
use lib.Arith.{lt→nleb, le→nltb}
use borrow.Author.Tests.{eqb-true, eqb-false}
use Rattle.wire.specs.Below.{every_below}

pub eq→eqb : (a b : ℕ) → a ≡ b → T (eqb a b)
eq→eqb a b e = rw e (eqb_refl b)

pub neqb→ne : (a b : ℕ) → T (not (eqb a b)) → a ≢ b
neqb→ne a b t e = T_not (eqb a b) t (eq→eqb a b e)

pub ne→neqb : (a b : ℕ) → a ≢ b → T (not (eqb a b))
ne→neqb a b h = not_T (eqb a b) (λ t. h (eqb→eq a b t))

pub ruleset tests = (
  arith,
  ltb→lt,
  lt→ltb,
  leb→le,
  le→leb,
  eqb→eq,
  eq→eqb,
  neqb→ne,
  ne→neqb,
  nltb→le,
  le→nltb,
  nleb→lt,
  lt→nleb,
)

-- Tests joined by `&&` and `||`, as facts.

pub and_T : (a b : Bool) → T (a && b) → T a × T b
and_T true b h = (tt, h)
and_T false b h = absurd h

pub T_and : (a b : Bool) → T a → T b → T (a && b)
T_and true b h k = k
T_and false b h k = h

pub or_T : (a b : Bool) → T (a || b) → T a ⊎ T b
or_T true b h = inl tt
or_T false b h = inr h

pub T-or-l : (a b : Bool) → T a → T (a || b)
T-or-l true b h = tt
T-or-l false b h = absurd h

pub T-or-r : (a b : Bool) → T b → T (a || b)
T-or-r true b h = tt
T-or-r false b h = h

pub T-dec : (a : Bool) → T a ⊎ (T a → ⊥)
T-dec true = inl tt
T-dec false = inr (λ h. h)

-- two tests that go with each other are the same
pub same_test : (a b : Bool) → (T a → T b) → (T b → T a) → a ≡ b
same_test true true f g = refl
same_test true false f g = absurd (f tt)
same_test false true f g = absurd (g tt)
same_test false false f g = refl

-- two tests that pass together pass each
pub both_true : (a b : Bool) → a && b ≡ true → (a ≡ true) × (b ≡ true)
both_true true true e = (refl, refl)
both_true true false e = absurd (true≢false (sym e))
both_true false b e = absurd (true≢false (sym e))

-- a test beside one that fails, and beside one that passes
pub and_false : (a : Bool) → (a && false) ≡ false
and_false true = refl
and_false false = refl

pub and_true : (a : Bool) → (a && true) ≡ a
and_true true = refl
and_true false = refl

-- two numbers are equal or not
pub by_equality : {A : Type 0} (m n : ℕ) → (m ≡ n → A) → (m ≢ n → A) → A
by_equality {A} m n same differ = go (eqb m n) refl
  where
    go : (b : Bool) → eqb m n ≡ b → A
    go true e = same (eqb-true m n e)
    go false e = differ (eqb-false m n e)

-- what every number below a bound passes, each of them passes
pub every_below_lem : (f : ℕ → Bool) (n : ℕ) → T (every_below f n) → (q : ℕ) → q < n → T (f q)
unfolding every_below
every_below_lem f zero t q h = absurd (omega arith)
every_below_lem f (suc n) t q h =
    let both = and_T (f n) (every_below f n) t in
    by_equality n q (λ e. rw e at both.0) (λ e. every_below_lem f n both.1 q (omega arith))
