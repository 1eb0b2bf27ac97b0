-- The laws of counting, for any n and any list. Builds on specs/Count.antt.
use mathlib.Core.Path.{◌≡◌, refl, ap, ap₂, ◌∙◌, subst}
use mathlib.Core.Bool.{Bool, true, false, not, ◌&&◌}
use mathlib.Core.List.{List, [], ◌∷◌, ◌++◌}
use mathlib.Core.Logic.{◌⊎◌, inl, inr}
use mathlib.Core.Option.{Option, none, some}
use Prim.Native.Nat.{ℕ, zero, suc, ◌+◌, ◌≤◌, ◌<◌}
use native.Mathlib.Omega.{arith}
use native.Mathlib.Decide.{ℕ_discrete, dec_le, dec_lt}
use lib.ListN.{length}
use lib.Dec.{T, ltb, leb}
use Rattle.wire.proofs.Tests.{tests, and_T, T_and, T-dec}
use Rattle.ballot.specs.Count.{bit, tally, count_if, holds, push, gather}

-- One test.

pub bit_le : (b : Bool) → bit b ≤ 1
bit_le true = omega arith
bit_le false = omega arith

pub bit_T : (b : Bool) → T b → bit b ≡ 1
bit_T true t = refl
bit_T false t = absurd t

pub bit_pos : (b : Bool) → 0 < bit b → T b
bit_pos true h = tt
bit_pos false h = omega arith

pub bit_F : (b : Bool) → (T b → ⊥) → bit b ≡ 0
bit_F true t = absurd (t tt)
bit_F false t = refl

pub bit_mono : (a b : Bool) → (T a → T b) → bit a ≤ bit b
bit_mono true true f = omega arith
bit_mono true false f = absurd (f tt)
bit_mono false b f = omega arith

-- Numbers below n.

abbrev pub Implies : ℕ → (ℕ → Bool) → (ℕ → Bool) → Type 0
Implies n p r = (q : ℕ) → q < n → T (p q) → T (r q)

abbrev pub nobody_of : ℕ → Bool
nobody_of q = false

abbrev pub all_of : ℕ → Bool
all_of q = true

pub tally_none : (n : ℕ) → tally nobody_of n ≡ 0
unfolding tally
tally_none zero = refl
tally_none (suc n) = omega (arith, tally_none n)

pub tally_all : (n : ℕ) → tally all_of n ≡ n
unfolding tally
tally_all zero = refl
tally_all (suc n) = omega (arith, tally_all n)

pub tally_not : (p : ℕ → Bool) (n : ℕ) → tally p n + tally (λ q. not (p q)) n ≡ n
unfolding tally
tally_not p zero = refl
tally_not p (suc n) = go (p n) (tally_not p n)
  where
    rest : ℕ
    rest = tally (λ q. not (p q)) n

    go : (a : Bool) → tally p n + rest ≡ n → bit a + tally p n + (bit (not a) + rest) ≡ suc n
    go true i = omega arith
    go false i = omega arith

-- tests that agree below n count alike
pub tally_same : (a b : ℕ → Bool) (n : ℕ) → ((q : ℕ) → q < n → a q ≡ b q) → tally a n ≡ tally b n
unfolding tally
tally_same a b zero same = refl
tally_same a b (suc n) same =
    ap₂ (λ x y. bit x + y) (same n (omega arith)) (tally_same a b n (λ q less. same q (omega arith)))

-- a count in two parts
pub tally_parts : (p : ℕ → Bool) (a b : ℕ) → tally p (a + b) ≡ tally p a + tally (λ i. p (a + i)) b
unfolding tally
tally_parts p a zero = let e : a + 0 ≡ a = omega arith in omega (arith, ap (tally p) e)
tally_parts p a (suc b) =
    let e : a + suc b ≡ suc (a + b) = omega arith in
    omega (arith, ap (tally p) e, tally_parts p a b)

-- two tests that no number passes both, and a third that passes with either
pub tally_sum : (p a b : ℕ → Bool) (n : ℕ) → ((q : ℕ) → q < n → bit (p q) ≡ bit (a q) + bit (b q))
    → tally p n ≡ tally a n + tally b n
unfolding tally
tally_sum p a b zero h = refl
tally_sum p a b (suc n) h = omega (arith, h n (omega arith), tally_sum p a b n (λ q l. h q (omega arith)))

-- what passes p or r passes u, and what passes both passes x: the counts of p and r make at most those of u and x
pub tally_meet : (p r u x : ℕ → Bool) (n : ℕ) → Implies n p u → Implies n r u
    → ((q : ℕ) → q < n → T (p q) → T (r q) → T (x q)) → tally p n + tally r n ≤ tally u n + tally x n
unfolding tally
tally_meet p r u x zero h k m = omega arith
tally_meet p r u x (suc n) h k m =
    go (p n) (r n) (u n) (x n) (h n (omega arith)) (k n (omega arith)) (m n (omega arith))
    (tally_meet p r u x n (λ q l. h q (omega arith)) (λ q l. k q (omega arith)) (λ q l. m q (omega arith)))
  where
    go : (a b c d : Bool) → (T a → T c) → (T b → T c) → (T a → T b → T d)
        → tally p n + tally r n ≤ tally u n + tally x n
        → bit a + tally p n + (bit b + tally r n) ≤ bit c + tally u n + (bit d + tally x n)
    go true true true true f g m i = omega arith
    go true true true false f g m i = absurd (m tt tt)
    go true true false d f g m i = absurd (f tt)
    go true false true d f g m i = omega (arith, bit_le d)
    go true false false d f g m i = absurd (f tt)
    go false true true d f g m i = omega (arith, bit_le d)
    go false true false d f g m i = absurd (g tt)
    go false false c d f g m i = omega (arith, bit_le d)

-- two tests that together only x passes: their counts make at most n and the count of x
pub tally_apart : (p r x : ℕ → Bool) (n : ℕ) → ((q : ℕ) → q < n → T (p q) → T (r q) → T (x q))
    → tally p n + tally r n ≤ n + tally x n
tally_apart p r x n h = omega (arith, tally_meet p r all_of x n (λ q l t. tt) (λ q l t. tt) h, tally_all n)

-- what passes u passes p or r
pub tally_join : (u p r : ℕ → Bool) (n : ℕ) → ((q : ℕ) → q < n → T (u q) → T (p q) ⊎ T (r q))
    → tally u n ≤ tally p n + tally r n
unfolding tally
tally_join u p r zero h = omega arith
tally_join u p r (suc n) h =
    go (u n) (p n) (r n) (h n (omega arith)) (tally_join u p r n (λ q l. h q (omega arith)))
  where
    go : (c a b : Bool) → (T c → T a ⊎ T b) → tally u n ≤ tally p n + tally r n
        → bit c + tally u n ≤ bit a + tally p n + (bit b + tally r n)
    go false a b f i = omega arith
    go true true b f i = omega arith
    go true false true f i = omega arith
    go true false false f i = elim (f tt) [ inl x ↦ absurd x | inr x ↦ absurd x ]

pub tally_le : (p r : ℕ → Bool) (n : ℕ) → Implies n p r → tally p n ≤ tally r n
tally_le p r n h = omega (arith, tally_join p r nobody_of n (λ q l t. inl (h q l t)), tally_none n)

-- what passes p is honest and passes p, or is not honest
pub tally_split : (h p : ℕ → Bool) (n : ℕ) → tally p n ≤ tally (λ q. h q && p q) n + tally (λ q. not (h q)) n
tally_split h p n = tally_join p (λ q. h q && p q) (λ q. not (h q)) n λ q l t. go (h q) (p q) t
  where
    go : (a b : Bool) → T b → T (a && b) ⊎ T (not a)
    go true b t = inl t
    go false b t = inr tt

pub tally_some : (p : ℕ → Bool) (n : ℕ) → 0 < tally p n → (q : ℕ) × (q < n) × T (p q)
unfolding tally
tally_some p zero h = absurd (omega arith)
tally_some p (suc n) h = go (p n) refl h (tally_some p n)
  where
    go : (a : Bool) → p n ≡ a → 0 < bit a + tally p n → (0 < tally p n → (q : ℕ) × (q < n) × T (p q))
        → (q : ℕ) × (q < suc n) × T (p q)
    go true e h rec = (n, omega arith, rw e tt)
    go false e h rec = let r = rec (omega arith) in (r.0, omega arith, r.2)

pub tally_has : (p : ℕ → Bool) (n q : ℕ) → q < n → T (p q) → 0 < tally p n
unfolding tally
tally_has p zero q l t = absurd (omega arith)
tally_has p (suc n) q l t = go (ℕ_discrete q n) (λ k. tally_has p n q k t)
  where
    go : Dec (q ≡ n) → (q < n → 0 < tally p n) → 0 < bit (p n) + tally p n
    go (yes e) rec = omega (arith, bit_T (p n) (rw e at t))
    go (no e) rec = omega (arith, rec (omega arith))

-- among the numbers that pass p there is one at which g is largest
pub tally_peak : (p : ℕ → Bool) (g : ℕ → ℕ) (n : ℕ) → 0 < tally p n
    → (q : ℕ) × (q < n) × T (p q) × ((a : ℕ) → a < n → T (p a) → g a ≤ g q)
unfolding tally
tally_peak p g zero h = absurd (omega arith)
tally_peak p g (suc n) h = go (p n) refl h (dec_lt 0 (tally p n)) (tally_peak p g n)
  where
    Peak : ℕ → Type 0
    Peak n = (q : ℕ) × (q < n) × T (p q) × ((a : ℕ) → a < n → T (p a) → g a ≤ g q)

    last : (a : ℕ) → a < suc n → (a ≡ n) ⊎ (a < n)
    last a l = elim (ℕ_discrete a n) [ yes e ↦ inl e | no e ↦ inr (omega arith) ]

    above : T (p n) → (r : Peak n) → Dec (g n < g r.0) → Peak (suc n)
    above t r (yes y) = (
      r.0,
      omega arith,
      r.2,
      λ a l u. elim (last a l) [ inl e ↦ omega (arith, ap g e) | inr e ↦ r.3 a e u ],
    )
    above t r (no y) = (
      n,
      omega arith,
      t,
      λ a l u. elim (last a l) [ inl e ↦ omega (arith, ap g e) | inr e ↦ omega (arith, r.3 a e u) ],
    )

    alone : T (p n) → (0 < tally p n → ⊥) → Peak (suc n)
    alone t y = (
      n,
      omega arith,
      t,
      λ a l u. elim (last a l) [ inl e ↦ omega (arith, ap g e) | inr e ↦ absurd (y (tally_has p n a e u)) ],
    )

    below : p n ≡ false → Peak n → Peak (suc n)
    below e r = (
      r.0,
      omega arith,
      r.2,
      λ a l u. elim (last a l) [ inl z ↦ absurd (subst (λ b. T b) (ap p z ∙ e) u) | inr z ↦ r.3 a z u ],
    )

    go : (b : Bool) → p n ≡ b → 0 < bit b + tally p n → Dec (0 < tally p n) → (0 < tally p n → Peak n)
        → Peak (suc n)
    go true e h (yes y) rec = let r = rec y in above (rw e tt) r (dec_lt (g n) (g r.0))
    go true e h (no y) rec = alone (rw e tt) y
    go false e h y rec = below e (rec (omega arith))

-- Elements of a list.

module _ {A : Type 0} where
  pub count_le : (p r : A → Bool) (l : List A) → ((a : A) → T (p a) → T (r a)) → count_if p l ≤ count_if r l
  unfolding count_if
  count_le p r [] h = omega arith
  count_le p r (x ∷ l) h = go (p x) (r x) (h x) (count_le p r l h)
    where
      go : (a b : Bool) → (T a → T b) → count_if p l ≤ count_if r l → bit a + count_if p l ≤ bit b + count_if r l
      go true true f i = omega arith
      go true false f i = absurd (f tt)
      go false b f i = omega arith

  pub count_none : (p : A → Bool) (l : List A) → ((a : A) → T (p a) → ⊥) → count_if p l ≡ 0
  unfolding count_if
  count_none p [] h = refl
  count_none p (x ∷ l) h = omega (arith, bit_F (p x) (h x), count_none p l h)

  pub count_not : (p : A → Bool) (l : List A) → count_if p l + count_if (λ a. not (p a)) l ≡ length l
  unfolding count_if
  count_not p [] = refl
  count_not p (x ∷ l) = go (p x) (count_not p l)
    where
      rest : ℕ
      rest = count_if (λ a. not (p a)) l

      go : (a : Bool) → count_if p l + rest ≡ length l → bit a + count_if p l + (bit (not a) + rest) ≡ suc (length l)
      go true i = omega arith
      go false i = omega arith

  pub count_append : (p : A → Bool) (l k : List A) → count_if p (l ++ k) ≡ count_if p l + count_if p k
  unfolding count_if
  count_append p [] k = omega arith
  count_append p (x ∷ l) k = omega (arith, count_append p l k)

  pub length_count : (l : List A) → length l ≡ count_if (λ a. true) l
  unfolding count_if
  length_count [] = refl
  length_count (x ∷ l) = omega (arith, length_count l)

  not_above : (g : A → ℕ) (a k : A) → g k ≤ g a → bit (ltb (g a) (g k)) ≡ 0
  not_above g a k h = bit_F (ltb (g a) (g k)) λ t. omega tests

  -- a is in the list, and g is nowhere larger
  abbrev pub Peak : (A → ℕ) → List A → A → Type 0
  Peak g l a = (count_if (λ k. ltb (g a) (g k)) l ≡ 0) × ((p : A → Bool) → T (p a) → 0 < count_if p l)

  -- a list that is not empty has such an element
  pub count_peak : (g : A → ℕ) (x : A) (l : List A) → (a : A) × Peak g (x ∷ l) a
  unfolding count_if
  count_peak g x [] = (x, (omega (arith, not_above g x x (omega arith)), λ p t. omega (arith, bit_T (p x) t)))
  count_peak g x (y ∷ l) = let r = count_peak g y l in go r.0 r.1 (dec_le (g x) (g r.0))
    where
      go : (a : A) → Peak g (y ∷ l) a → Dec (g x ≤ g a) → (a : A) × Peak g (x ∷ y ∷ l) a
      go a top (yes h) = (a, (omega (arith, not_above g a x h, top.0), λ p t. omega (arith, top.1 p t)))
      go a top (no h) =
          let lower = count_le (λ k. ltb (g x) (g k)) (λ k. ltb (g a) (g k)) (y ∷ l) (λ k t. omega tests) in
          (x, (omega (arith, not_above g x x (omega arith), top.0), λ p t. omega (arith, bit_T (p x) t)))

  -- a passes p, and g is at no element of the list that passes lower than at a
  abbrev pub Lowest : (A → Bool) → (A → ℕ) → List A → A → Type 0
  Lowest p g l a = T (p a) × (count_if p l ≤ count_if (λ k. p k && leb (g a) (g k)) l)

  -- a list with an element that passes has such a lowest one
  pub count_lowest : (p : A → Bool) (g : A → ℕ) (l : List A) → 0 < count_if p l → (a : A) × Lowest p g l a
  unfolding count_if
  count_lowest p g [] h = absurd (omega arith)
  count_lowest p g (x ∷ l) h = go (T-dec (p x)) (dec_lt 0 (count_if p l)) (count_lowest p g l)
    where
      own : (n : ℕ) → T (p x) → n ≤ g x → bit (p x && leb n (g x)) ≡ 1
      own n t h = bit_T (p x && leb n (g x)) (T_and (p x) (leb n (g x)) t (omega tests))

      beside : T (p x) → (a : A) → Lowest p g l a → Dec (g a ≤ g x) → (a : A) × Lowest p g (x ∷ l) a
      beside t a low (yes i) = (a, (low.0, omega (arith, bit_T (p x) t, own (g a) t i, low.1)))
      beside t a low (no i) =
          let above = count_le (λ k. p k && leb (g a) (g k)) (λ k. p k && leb (g x) (g k)) l λ k u.
          let d = and_T (p k) (leb (g a) (g k)) u in T_and (p k) (leb (g x) (g k)) d.0 (omega tests) in
          (x, (t, omega (arith, bit_T (p x) t, own (g x) t (omega arith), low.1)))

      go : T (p x) ⊎ (T (p x) → ⊥) → Dec (0 < count_if p l) → (0 < count_if p l → (a : A) × Lowest p g l a)
          → (a : A) × Lowest p g (x ∷ l) a
      go (inl t) (yes i) rec = let r = rec i in beside t r.0 r.1 (dec_le (g r.0) (g x))
      go (inl t) (no i) rec = (x, (t, omega (arith, bit_T (p x) t, own (g x) t (omega arith))))
      go (inr t) i rec =
          let r = rec (omega (arith, bit_F (p x) t)) in
          (r.0, (r.1.0, omega (arith, bit_F (p x) t, r.1.1)))

  -- The same elements, each as often, in whatever order: every count is the same.
  abbrev pub Same : List A → List A → Type 0
  Same l k = (p : A → Bool) → count_if p l ≡ count_if p k

  -- Slots: what is counted in the list of the slots is counted over their numbers.

  count_push : (p : A → Bool) (o : Option A) (l : List A) → count_if p (push o l) ≡ bit (holds p o) + count_if p l
  unfolding count_if
  count_push p none l = omega arith
  count_push p (some a) l = refl

  pub count_gather : (p : A → Bool) (slots : ℕ → Option A) (n : ℕ)
      → count_if p (gather slots n) ≡ tally (λ q. holds p (slots q)) n
  unfolding count_if tally gather
  count_gather p slots zero = refl
  count_gather p slots (suc n) =
      omega (arith, count_push p (slots n) (gather slots n), count_gather p slots n)
