-- A printed number is read back: every number that is not too large to be read has one field, its digits without
-- leading zeros.
use mathlib.Core.Path.{◌≡◌, refl, ap, ◌∙◌}
use mathlib.Core.Bool.{Bool, true, false}
use mathlib.Core.List.{List, [], ◌∷◌}
use Prim.Native.Nat.{ℕ, suc, ◌+◌, ◌*◌, ◌-◌, ◌/◌, ◌%◌, ◌<◌, ◌≤◌}
use native.Mathlib.Omega.{arith}
use lib.ListN.{length}
use lib.Dec.{leb}
use borrow.Author.Tests.{le-leb, lt-leb, ne_eqb, leb-true, leb-false}
use Rattle.wire.proofs.Tests.{and_false}
use Rattle.script.specs.Fields.{largest, digit_of, value_from, number_of}
use Rattle.std.specs.Prelude.{Some}
use Rattle.print.specs.Texts.{decimal_of}

digit_read : (d : ℕ) → d < 10 → digit_of (48 + d) ≡ Some d
digit_read d h =
    let a : 48 ≤ 48 + d = omega arith in
    let b : 48 + d ≤ 57 = omega arith in
    let same : 48 + d - 48 ≡ d = omega arith in
    rw (le-leb 48 (48 + d) a, le-leb (48 + d) 57 b, same)

value_digit : (a d b : ℕ) (cs : List ℕ) → d < 10 → 10 * a + d ≡ b → b ≤ largest
    → value_from largest a ((48 + d) ∷ cs) ≡ value_from largest b cs
unfolding value_from
value_digit a d b cs h e k = rw (digit_read d h, e, le-leb b largest k)

value_all : (a b : ℕ) → a ≡ b → value_from largest a [] ≡ Some b
unfolding value_from
value_all a b e = ap Some e

-- the first digit of a number, where it is not 0
leading : (d a : ℕ) (cs : List ℕ) → 1 ≤ d → d < 10 → d ≡ a
    → number_of largest ((48 + d) ∷ cs) ≡ value_from largest a cs
unfolding number_of
leading d a cs h k e =
    let some : suc (length cs) ≡ 0 → ⊥ = λ z. omega arith in
    let digit : 48 + d ≡ 48 → ⊥ = λ z. omega arith in
    rw (ne_eqb (suc (length cs)) 0 some, ne_eqb (48 + d) 48 digit, and_false (leb 2 (suc (length cs))))
    (value_digit 0 d a cs k (omega arith) (omega arith))

module _ (v : ℕ) (small : v ≤ largest) where
  -- the last digits
  abbrev last1 : List ℕ
  last1 = (48 + v % 10) ∷ []

  abbrev last2 : List ℕ
  last2 = (48 + v / 10 % 10) ∷ last1

  abbrev last3 : List ℕ
  last3 = (48 + v / 100 % 10) ∷ last2

  abbrev last4 : List ℕ
  last4 = (48 + v / 1000 % 10) ∷ last3

  -- read after the digits before them
  read_last1 : value_from largest (v / 10) last1 ≡ Some v
  read_last1 = value_digit (v / 10) (v % 10) v [] (omega arith) (omega arith) small ∙ value_all v v refl

  read_last2 : value_from largest (v / 100) last2 ≡ Some v
  read_last2 =
      value_digit (v / 100) (v / 10 % 10) (v / 10) last1 (omega arith) (omega arith) (omega arith) ∙ read_last1

  read_last3 : value_from largest (v / 1000) last3 ≡ Some v
  read_last3 =
      value_digit (v / 1000) (v / 100 % 10) (v / 100) last2 (omega arith) (omega arith) (omega arith) ∙ read_last2

  read_last4 : value_from largest (v / 10000) last4 ≡ Some v
  read_last4 =
      value_digit (v / 10000) (v / 1000 % 10) (v / 1000) last3 (omega arith) (omega arith) (omega arith) ∙ read_last3

  -- numbers of one digit, of two, and so on
  read1 : v < 10 → number_of largest (decimal_of v) ≡ Some v
  unfolding decimal_of number_of
  read1 h =
      let below100 : v < 100 = omega arith in
      let below1000 : v < 1000 = omega arith in
      let below10000 : v < 10000 = omega arith in
      rw (lt-leb 10000 v below10000, lt-leb 1000 v below1000, lt-leb 100 v below100, lt-leb 10 v h)
      (value_digit 0 (v % 10) v [] (omega arith) (omega arith) small ∙ value_all v v refl)

  read2 : 10 ≤ v → v < 100 → number_of largest (decimal_of v) ≡ Some v
  unfolding decimal_of
  read2 g h =
      let below1000 : v < 1000 = omega arith in
      let below10000 : v < 10000 = omega arith in
      rw (lt-leb 10000 v below10000, lt-leb 1000 v below1000, lt-leb 100 v h, le-leb 10 v g)
      (leading (v / 10 % 10) (v / 10) last1 (omega arith) (omega arith) (omega arith) ∙ read_last1)

  read3 : 100 ≤ v → v < 1000 → number_of largest (decimal_of v) ≡ Some v
  unfolding decimal_of
  read3 g h =
      let from10 : 10 ≤ v = omega arith in
      let below10000 : v < 10000 = omega arith in
      rw (lt-leb 10000 v below10000, lt-leb 1000 v h, le-leb 100 v g, le-leb 10 v from10)
      (leading (v / 100 % 10) (v / 100) last2 (omega arith) (omega arith) (omega arith) ∙ read_last2)

  read4 : 1000 ≤ v → v < 10000 → number_of largest (decimal_of v) ≡ Some v
  unfolding decimal_of
  read4 g h =
      let from10 : 10 ≤ v = omega arith in
      let from100 : 100 ≤ v = omega arith in
      rw (lt-leb 10000 v h, le-leb 1000 v g, le-leb 100 v from100, le-leb 10 v from10)
      (leading (v / 1000 % 10) (v / 1000) last3 (omega arith) (omega arith) (omega arith) ∙ read_last3)

  read5 : 10000 ≤ v → number_of largest (decimal_of v) ≡ Some v
  unfolding decimal_of
  read5 g =
      let from10 : 10 ≤ v = omega arith in
      let from100 : 100 ≤ v = omega arith in
      let from1000 : 1000 ≤ v = omega arith in
      rw (le-leb 10000 v g, le-leb 1000 v from1000, le-leb 100 v from100, le-leb 10 v from10)
      (leading (v / 10000 % 10) (v / 10000) last4 (omega arith) (omega arith) (omega arith) ∙ read_last4)

  by_size : (a b c d : Bool) → leb 10 v ≡ a → leb 100 v ≡ b → leb 1000 v ≡ c → leb 10000 v ≡ d
      → number_of largest (decimal_of v) ≡ Some v
  by_size false b c d ea eb ec ed = read1 (leb-false _ _ ea)
  by_size true false c d ea eb ec ed = read2 (leb-true _ _ ea) (leb-false _ _ eb)
  by_size true true false d ea eb ec ed = read3 (leb-true _ _ eb) (leb-false _ _ ec)
  by_size true true true false ea eb ec ed = read4 (leb-true _ _ ec) (leb-false _ _ ed)
  by_size true true true true ea eb ec ed = read5 (leb-true _ _ ed)

  pub read_printed : number_of largest (decimal_of v) ≡ Some v
  read_printed = by_size (leb 10 v) (leb 100 v) (leb 1000 v) (leb 10000 v) refl refl refl refl
