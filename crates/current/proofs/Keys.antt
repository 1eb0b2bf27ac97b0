-- The order in which the mA left over are given out, as one number: a shuttle goes before another where its key is
-- higher. The code compares keys of base 64, its priorities; the laws of shares those of base n.
use mathlib.Core.Path.{◌≡◌, ap}
use mathlib.Core.Bool.{◌&&◌}
use mathlib.Core.Logic.{◌⊎◌, inl, inr}
use Prim.Native.Nat.{ℕ, suc, ◌+◌, ◌*◌, ◌≤◌, ◌<◌}
use native.Mathlib.Omega.{arith}
use native.Mathlib.Nat.{mul-suc, mul-le-mul_left}
use native.Mathlib.Decide.{dec_lt}
use lib.Dec.{T, ltb, eqb}
use Rattle.wire.proofs.Tests.{tests, same_test, and_T, T_and, or_T, T-or-l, T-or-r}
use Rattle.ballot.specs.Count.{tally}
use Rattle.ballot.proofs.Counting.{tally_same}
use Rattle.current.specs.Shares.{ahead_of}
use Rattle.current.specs.Promises.{key}
use Rattle.current.proofs.Ranks.{Distinct, above_it}

-- shuttle i's key
abbrev pub key_in : ℕ → (ℕ → ℕ) → ℕ → ℕ
key_in base m i = key base (m i) i

-- a higher remainder is a whole step
pub step : (base a b : ℕ) → a < b → base * a + base ≤ base * b
step base a b less = omega (arith, mul-le-mul_left {m = suc a} {n = b} base (omega arith), mul-suc base a)

module _ (base : ℕ) (m : ℕ → ℕ) (i j : ℕ) (inside-i : i < base) (inside-j : j < base) where
  ahead_higher : T (ahead_of m i j) → T (ltb (key_in base m i) (key_in base m j))
  ahead_higher t = go (or_T (ltb (m i) (m j)) (eqb (m j) (m i) && ltb j i) t)
    where
      go : T (ltb (m i) (m j)) ⊎ T (eqb (m j) (m i) && ltb j i) → T (ltb (key_in base m i) (key_in base m j))
      go (inl a) = omega (tests, step base (m i) (m j) (omega tests))
      go (inr b) =
          let both = and_T (eqb (m j) (m i)) (ltb j i) b in
          let same : m j ≡ m i = omega (tests, both.0) in
          omega (tests, both.1, ap (λ (r : ℕ). base * r) same)

  higher_ahead : T (ltb (key_in base m i) (key_in base m j)) → T (ahead_of m i j)
  higher_ahead t = go (dec_lt (m i) (m j)) (dec_lt (m j) (m i))
    where
      go : Dec (m i < m j) → Dec (m j < m i) → T (ahead_of m i j)
      go (yes a) b = T-or-l (ltb (m i) (m j)) (eqb (m j) (m i) && ltb j i) (omega tests)
      go (no a) (yes b) = absurd (omega (tests, step base (m j) (m i) b))
      go (no a) (no b) =
          let same : m j ≡ m i = omega arith in
          T-or-r (ltb (m i) (m j)) (eqb (m j) (m i) && ltb j i)
          (T_and (eqb (m j) (m i)) (ltb j i) (omega tests) (omega (tests, ap (λ (r : ℕ). base * r) same)))

  pub ahead_key : ahead_of m i j ≡ ltb (key_in base m i) (key_in base m j)
  ahead_key = same_test (ahead_of m i j) (ltb (key_in base m i) (key_in base m j)) ahead_higher higher_ahead

-- so the rank of a shuttle is how many have a higher key
pub rank_key : (base : ℕ) (m : ℕ → ℕ) (n i : ℕ) → n ≤ base → i < n
    → tally (ahead_of m i) n ≡ above_it (key_in base m) n i
rank_key base m n i room inside =
    tally_same (ahead_of m i) (λ j. ltb (key_in base m i) (key_in base m j)) n
    (λ j l. ahead_key base m i j (omega arith) (omega arith))

-- and no two have the same
pub distinct_keys : (base : ℕ) (m : ℕ → ℕ) (n : ℕ) → n ≤ base → Distinct (key_in base m) n
distinct_keys base m n room i j a b e = go (dec_lt (m i) (m j)) (dec_lt (m j) (m i))
  where
    go : Dec (m i < m j) → Dec (m j < m i) → i ≡ j
    go (yes x) y = absurd (omega (arith, step base (m i) (m j) x))
    go (no x) (yes y) = absurd (omega (arith, step base (m j) (m i) y))
    go (no x) (no y) = let same : m i ≡ m j = omega arith in omega (arith, ap (λ (r : ℕ). base * r) same)
