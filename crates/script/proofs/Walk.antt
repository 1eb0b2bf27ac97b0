-- What the walks over a slice's bytes go by.
use mathlib.Core.Path.{◌≡◌, refl}
use mathlib.Core.Bool.{Bool, true, false, ◌&&◌, cond}
use mathlib.Core.List.{List, [], ◌∷◌}
use Prim.Native.Nat.{ℕ, suc, ◌+◌, ◌*◌, ◌<◌, ◌≤◌}
use native.Mathlib.Numerals.{add-one}
use native.Mathlib.Omega.{arith}
use lib.ListN.{length, get_or, drop, drop_of_length-le}
use lib.Seq.{drop-cons}
use lib.Dec.{eqb, leb}
use borrow.Author.Tests.{eq-eqb, ne_eqb, le-leb, lt-leb, leb-true}
use Rattle.std.specs.Prelude.{Option, Some, None}
use Rattle.std.specs.Option.{option_and_then}
use Rattle.std.proofs.lemmas.Option.{none-some, same_Some}
use Rattle.script.specs.Lines.{until}
use Rattle.script.specs.Fields.{digit_of, value_from, number_of}

-- a turn of the search for b, which from place i on comes to r
module _ (b i : ℕ) (s : List ℕ) (r : ℕ) (inv : i + until b (drop i s) ≡ r) where
  pub found_here : i < length s → get_or s i 0 ≡ b → i ≡ r
  unfolding until
  found_here h e = let none : until b (drop i s) ≡ 0 = rw (drop-cons s i 0 h, eq-eqb _ _ e) in omega arith

  pub found_later : i < length s → (get_or s i 0 ≡ b → ⊥) → i + 1 + until b (drop (i + 1) s) ≡ r
  unfolding until
  found_later h e =
      let more : until b (drop i s) ≡ suc (until b (drop (i + 1) s)) =
      rw (drop-cons s i 0 h, add-one i, ne_eqb _ _ e) in
      omega arith

  pub found_none : length s ≤ i → i ≡ r
  unfolding until
  found_none h = let none : until b (drop i s) ≡ 0 = rw (drop_of_length-le s h) in omega arith

le_go : (t : Bool) (u n : ℕ) → u ≤ n → cond t 0 (suc u) ≤ suc n
le_go true u n h = omega arith
le_go false u n h = omega arith

pub until_le : (b : ℕ) (l : List ℕ) → until b l ≤ length l
unfolding until
until_le b [] = omega arith
until_le b (x ∷ l) = le_go (eqb x b) (until b l) (length l) (until_le b l)

-- a test that is passed, and what stands behind it
passes : {A : Type 0} (test : Bool) (r : Option A) (a : A) → cond test r None ≡ Some a → (test ≡ true) × (r ≡ Some a)
passes true r a e = (refl, e)
passes false r a e = cc

-- a turn of the loop over the digits, where those before place i have the value v
module _ (most v i : ℕ) (s : List ℕ) (r : Option ℕ) (inside : i < length s) (inv : value_from most v (drop i s) ≡ r)
  where
    value_step : option_and_then
        (λ d. cond (leb (10 * v + d) most) (value_from most (10 * v + d) (drop (i + 1) s)) None)
        (digit_of (get_or s i 0))
        ≡ r
    unfolding value_from
    value_step = rw (add-one i) (rw (drop-cons s i 0 inside) at inv)

    pub value_stop : digit_of (get_or s i 0) ≡ None → None ≡ r
    value_stop e = rw e at value_step

    module _ (d : ℕ) (digit : digit_of (get_or s i 0) ≡ Some d) where
      pub value_past : most < 10 * v + d → None ≡ r
      value_past h = rw (digit, lt-leb _ _ h) at value_step

      pub value_more : 10 * v + d ≤ most → value_from most (10 * v + d) (drop (i + 1) s) ≡ r
      value_more h = rw (digit, le-leb _ _ h) at value_step

pub value_end : (most v i : ℕ) (s : List ℕ) (r : Option ℕ) → length s ≤ i → value_from most v (drop i s) ≡ r
    → Some v ≡ r
unfolding value_from
value_end most v i s r h e = rw (drop_of_length-le s h) at e

value_go : (most a v : ℕ) (next : ℕ → Option ℕ) (d : Option ℕ)
    → ((b : ℕ) → b ≤ most → next b ≡ Some v → v ≤ most)
    → option_and_then (λ d. cond (leb (10 * a + d) most) (next (10 * a + d)) None) d ≡ Some v
    → v ≤ most
value_go most a v next None ih e = absurd (none-some v e)
value_go most a v next (Some d) ih e =
    let p = passes (leb (10 * a + d) most) (next (10 * a + d)) v e in
    ih (10 * a + d) (leb-true _ _ p.0) p.1

value_at_most : (most a v : ℕ) (cs : List ℕ) → a ≤ most → value_from most a cs ≡ Some v → v ≤ most
unfolding value_from
value_at_most most a v [] h e = let same : a ≡ v = same_Some _ _ e in omega arith
value_at_most most a v (c ∷ cs) h e =
    value_go most a v (λ b. value_from most b cs) (digit_of c) (λ b low next. value_at_most most b v cs low next) e

-- a number that is read is at most the bound
pub number_at_most : (most : ℕ) (w : List ℕ) (v : ℕ) → number_of most w ≡ Some v → v ≤ most
unfolding number_of
number_at_most most w v e = go (eqb (length w) 0) (leb 2 (length w) && eqb (get_or w 0 0) 48) e
  where
    go : (empty zeros : Bool) → cond empty None (cond zeros None (value_from most 0 w)) ≡ Some v → v ≤ most
    go false false e = value_at_most most 0 v w (omega arith) e
    go false true e = absurd (none-some v e)
    go true zeros e = absurd (none-some v e)

-- a field that is empty, one with a zero before other digits, and any other
module _ (most : ℕ) (s : List ℕ) where
  pub empty_bad : length s ≡ 0 → number_of most s ≡ None
  unfolding number_of
  empty_bad e = rw (eq-eqb _ _ e)

  pub zero_bad : 2 ≤ length s → get_or s 0 0 ≡ 48 → number_of most s ≡ None
  unfolding number_of
  zero_bad h e =
      let some : length s ≡ 0 → ⊥ = λ z. omega arith in
      rw (ne_eqb _ _ some, le-leb _ _ h, eq-eqb _ _ e)

  pub digits_left : (length s ≡ 0 → ⊥) → leb 2 (length s) && eqb (get_or s 0 0) 48 ≡ false
      → value_from most 0 s ≡ number_of most s
  unfolding number_of
  digits_left some e = rw (ne_eqb _ _ some, e)
