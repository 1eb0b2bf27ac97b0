-- The text of a count, digit by digit, and in as many bytes as the longest has.
use mathlib.Core.Path.{◌≡◌, ◌∙◌}
use mathlib.Core.List.{List, [], ◌∷◌, ◌++◌}
use Prim.Native.Nat.{ℕ, ◌+◌, ◌/◌, ◌%◌, ◌<◌, ◌≤◌}
use native.Mathlib.Omega.{arith}
use lib.ListN.{length, drop, replicate, length-append, length-drop}
use borrow.Author.Tests.{le-leb, lt-leb}
use lib.Seq.{length-sets}
use Rattle.wire.proofs.Stores.{sets_front}
use Rattle.script.specs.Lines.{space}
use Rattle.print.specs.Texts.{place_of, decimal_of}
use Rattle.absence.specs.Lines.{text_most, count_text}
use Rattle.absence.specs.Promises.{padded_text}

-- no digit stands for a worth that the number does not reach, and one for each that it does
no_digit : (v p : ℕ) → v < p → place_of v p ≡ []
no_digit v p less = rw (lt-leb p v less)

a_digit : (v p : ℕ) → p ≤ v → place_of v p ≡ (48 + v / p % 10) ∷ []
a_digit v p enough = rw (le-leb p v enough)

-- a count has no more than three digits
pub three_places : (v : ℕ) → v < 1000 → decimal_of v ≡ place_of v 100 ++ (place_of v 10 ++ ((48 + v % 10) ∷ []))
unfolding decimal_of
three_places v less = rw (no_digit v 10000 (omega arith), no_digit v 1000 less)

pub one_digit : (v : ℕ) → v < 10 → decimal_of v ≡ (48 + v) ∷ []
one_digit v less =
    let unit : v % 10 ≡ v = omega arith in
    three_places v (omega arith) ∙ rw (no_digit v 100 (omega arith), no_digit v 10 less, unit)

pub two_digits : (v : ℕ) → 10 ≤ v → v < 100 → decimal_of v ≡ (48 + v / 10) ∷ (48 + v % 10) ∷ []
two_digits v enough less =
    let tens : v / 10 % 10 ≡ v / 10 = omega arith in
    three_places v (omega arith) ∙ rw (no_digit v 100 less, a_digit v 10 enough, tens)

pub three_digits : (v : ℕ) → 100 ≤ v → v < 256
    → decimal_of v ≡ (48 + v / 100) ∷ (48 + v / 10 % 10) ∷ (48 + v % 10) ∷ []
three_digits v enough less =
    let hundreds : v / 100 % 10 ≡ v / 100 = omega arith in
    let tens : 10 ≤ v = omega arith in
    three_places v (omega arith) ∙ rw (a_digit v 100 enough, a_digit v 10 tens, hundreds)

-- no count is without a digit
pub text_some : (v after : ℕ) → 2 ≤ length (count_text v after)
unfolding decimal_of
text_some v after =
    let units = (48 + v % 10) ∷ [] in
    let tens = place_of v 10 ++ units in
    let hundreds = place_of v 100 ++ tens in
    let thousands = place_of v 1000 ++ hundreds in
    omega (
      arith,
      length-append (place_of v 10000 ++ thousands) (after ∷ []),
      length-append (place_of v 10000) thousands,
      length-append (place_of v 1000) hundreds,
      length-append (place_of v 100) tens,
      length-append (place_of v 10) units,
    )

-- The text in as many bytes as the longest has is the text, and up to two zeros behind it.
pub record Padded (bytes text : List ℕ) : Type 0 where
  pub spill : List ℕ
  pub few : length spill ≤ 2
  pub same : bytes ≡ text ++ spill

pub padded_long : (v : ℕ) → length (padded_text v) ≡ text_most
unfolding padded_text
padded_long v = length-sets (replicate text_most 0) 0 (count_text v space)

pub text_padded : (v : ℕ) → length (count_text v space) ≤ text_most → Padded (padded_text v) (count_text v space)
unfolding padded_text
text_padded v fits =
    let zeros = replicate text_most 0 in
    record {
      spill = drop (length (count_text v space)) zeros;
      few = omega (arith, length-drop (length (count_text v space)) zeros, text_some v space);
      same = sets_front (count_text v space) zeros fits;
    }
