-- Ranks by a key that no two numbers share: for any n and L, just L of n numbers have fewer than L above them.
use mathlib.Core.Path.{◌≡◌, refl}
use mathlib.Core.Bool.{Bool, true, false, not}
use mathlib.Core.Logic.{◌⊎◌, inl, inr}
use Prim.Native.Nat.{ℕ, zero, suc, ◌+◌, ◌-◌, ◌≤◌, ◌<◌}
use native.Mathlib.Omega.{arith}
use native.Mathlib.Decide.{ℕ_discrete, dec_lt}
use lib.Dec.{T, ltb, eqb, eqb_refl}
use Rattle.wire.proofs.Tests.{tests}
use Rattle.ballot.specs.Count.{bit, tally}
use Rattle.ballot.proofs.Counting.{tally_le, tally_join, tally_meet, tally_has, tally_not}
use Rattle.ballot.proofs.Counting.{Implies, tally_none, nobody_of, tally_all, all_of}

-- g gives no two numbers below n the same value
abbrev pub Distinct : (ℕ → ℕ) → ℕ → Type 0
Distinct g n = (i j : ℕ) → i < n → j < n → g i ≡ g j → i ≡ j

-- a test that only one number passes is passed at most once
at_most_one : (p : ℕ → Bool) (n : ℕ) → ((i j : ℕ) → i < n → j < n → T (p i) → T (p j) → i ≡ j) → tally p n ≤ 1
unfolding tally
at_most_one p zero h = omega arith
at_most_one p (suc n) h = go (p n) refl (at_most_one p n (λ i j a b. h i j (omega arith) (omega arith)))
  where
    go : (b : Bool) → p n ≡ b → tally p n ≤ 1 → bit b + tally p n ≤ 1
    go false e rec = omega arith
    go true e rec =
        let here : T (p n) = rw e tt in
        let none = tally_le p nobody_of n (λ q l t. let z = h q n (omega arith) (omega arith) t here in omega arith) in
        omega (arith, none, tally_none n)

-- so of distinct values at most L are below L
below_at_most : (g : ℕ → ℕ) (n L : ℕ) → Distinct g n → tally (λ i. ltb (g i) L) n ≤ L
below_at_most g n zero h =
    omega (arith, tally_le (λ i. ltb (g i) 0) nobody_of n (λ q l t. omega tests), tally_none n)
below_at_most g n (suc L) h =
    let one = at_most_one (λ i. eqb (g i) L) n (λ i j a b s t. h i j a b (omega tests)) in
    let lower = tally_join (λ i. ltb (g i) (suc L)) (λ i. ltb (g i) L) (λ i. eqb (g i) L) n (λ q l t. last q t) in
    omega (arith, one, lower, below_at_most g n L h)
  where
    last : (q : ℕ) → T (ltb (g q) (suc L)) → T (ltb (g q) L) ⊎ T (eqb (g q) L)
    last q t = elim (ℕ_discrete (g q) L) [ yes e ↦ inr (omega tests) | no e ↦ inl (omega tests) ]

-- and just L where all n are below n, for counted from the other end the rest are at most n − L
below_exactly : (g : ℕ → ℕ) (n L : ℕ) → Distinct g n → ((i : ℕ) → i < n → g i < n) → L ≤ n
    → tally (λ i. ltb (g i) L) n ≡ L
below_exactly g n L h k le =
    let turned = below_at_most (λ i. n - suc (g i)) n (n - L)
    (λ i j a b e. h i j a b (omega (arith, k i a, k j b))) in
    let rest = tally_le (λ i. not (ltb (g i) L)) (λ i. ltb (n - suc (g i)) (n - L)) n (λ q l t. omega (tests, k q l)) in
    omega (arith, below_at_most g n L h, turned, rest, tally_not (λ i. ltb (g i) L) n)

-- a test that passes more, and strictly more at q, has a higher count
tally_lt : (p r : ℕ → Bool) (n q : ℕ) → Implies n p r → q < n → (T (p q) → ⊥) → T (r q) → tally p n < tally r n
tally_lt p r n q h l np tr =
    omega (
      arith,
      tally_meet p (λ k. eqb k q) r nobody_of n h (λ k j t. let same : k ≡ q = omega tests in rw same tr)
          (λ k j a b. let same : k ≡ q = omega tests in absurd (np (rw same at a))),
      tally_has (λ k. eqb k q) n q l (eqb_refl q),
      tally_none n,
    )

module _ (key : ℕ → ℕ) (n : ℕ) where
  -- how many have a higher key than i
  abbrev pub above_it : ℕ → ℕ
  above_it i = tally (λ j. ltb (key i) (key j)) n

  -- the higher of two keys has fewer above it
  fewer : (i j : ℕ) → j < n → key i < key j → above_it j < above_it i
  fewer i j l less =
      tally_lt (λ k. ltb (key j) (key k)) (λ k. ltb (key i) (key k)) n j (λ k h t. omega tests) l (λ t. omega tests)
      (omega tests)

  not_all : (i : ℕ) → i < n → above_it i < n
  not_all i l =
      omega (arith, tally_lt (λ k. ltb (key i) (key k)) all_of n i (λ k h t. tt) l (λ t. omega tests) tt, tally_all n)

  -- so no two have as many, and just L have fewer than L
  pub ranks_count : Distinct key n → (L : ℕ) → L ≤ n → tally (λ i. ltb (above_it i) L) n ≡ L
  ranks_count distinct L le = below_exactly above_it n L apart not_all le
    where
      apart : Distinct above_it n
      apart i j a b e = go (dec_lt (key i) (key j)) (dec_lt (key j) (key i))
        where
          go : Dec (key i < key j) → Dec (key j < key i) → i ≡ j
          go (yes x) y = absurd (omega (arith, fewer i j b x))
          go (no x) (yes y) = absurd (omega (arith, fewer j i a y))
          go (no x) (no y) = distinct i j a b (omega arith)
