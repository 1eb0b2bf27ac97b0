-- Bytes that are all 0: what joining them bit by bit tells, and that they are as many zeros.
use mathlib.Core.Path.{◌≡◌, refl, sym, ap, ap₂, ◌∙◌}
use mathlib.Core.Bool.{Bool, true, false, ◌&&◌, and_assoc}
use mathlib.Core.List.{List, [], ◌∷◌, ◌++◌}
use Prim.Native.Nat.{ℕ, zero, suc, ◌+◌, ◌-◌, ◌≤◌}
use native.Mathlib.Nat.{le_of_eq}
use native.Mathlib.Omega.{arith}
use lib.Bits.{bit_or, or_add_and, and_le_r}
use lib.Dec.{eqb}
use lib.ListN.{length, take, drop, replicate, take-append-drop, length-drop}
use lib.Seq.{take_all, take-add}
use borrow.Author.Tests.{eqb-true, ne_eqb}
use Rattle.std.specs.List.{fold}
use Rattle.wire.proofs.Tests.{both_true, and_true, by_equality}
use Rattle.message.specs.Reading.{all_zero}

-- two numbers joined bit by bit are 0 where both are
pub or_zero_lem : (a b : ℕ) → eqb (bit_or a b) 0 ≡ eqb a 0 && eqb b 0
or_zero_lem a b =
    by_equality a 0
    (λ none. ap (λ x. eqb (bit_or x b) 0) none ∙ sym (ap (λ x. eqb x 0 && eqb b 0) none))
    (λ some.
    let joined = ne_eqb (bit_or a b) 0 (λ e. some (omega (arith, or_add_and a b, and_le_r a b))) in
    joined ∙ sym (ap (λ x. x && eqb b 0) (ne_eqb a 0 some)))

-- bytes joined bit by bit are 0 where all of them are
pub zeros_joined : (bytes : List ℕ) (seen : ℕ) → eqb (fold bit_or seen bytes) 0 ≡ eqb seen 0 && all_zero bytes
unfolding all_zero
zeros_joined [] seen = sym (and_true (eqb seen 0))
zeros_joined (byte ∷ bytes) seen =
    zeros_joined bytes (bit_or seen byte)
    ∙ ap (λ b. b && all_zero bytes) (or_zero_lem seen byte)
    ∙ and_assoc (eqb seen 0) (eqb byte 0) (all_zero bytes)

pub zeros_clear : (k : ℕ) → all_zero (replicate k 0) ≡ true
unfolding all_zero
zeros_clear zero = refl
zeros_clear (suc k) = zeros_clear k

pub clear_zeros : (bytes : List ℕ) → all_zero bytes ≡ true → bytes ≡ replicate (length bytes) 0
unfolding all_zero
clear_zeros [] e = refl
clear_zeros (byte ∷ bytes) e =
    let both = both_true (eqb byte 0) (all_zero bytes) e in
    let first = eqb-true byte 0 both.0 in
    let rest = clear_zeros bytes both.1 in
    λ i. first i ∷ rest i

-- two lists are all 0 where both are
zeros_both : (xs ys : List ℕ) → all_zero (xs ++ ys) ≡ all_zero xs && all_zero ys
unfolding all_zero
zeros_both [] ys = refl
zeros_both (x ∷ xs) ys =
    ap (λ rest. eqb x 0 && rest) (zeros_both xs ys) ∙ sym (and_assoc (eqb x 0) (all_zero xs) (all_zero ys))

-- where two stretches overlap, what they have in common is tested twice
tested_twice : (a b c : Bool) → a && (b && c) ≡ (a && b) && (b && c)
tested_twice true true c = refl
tested_twice true false c = refl
tested_twice false b c = refl

-- the bytes up to a place and those from an earlier place on are all bytes
pub zeros_cover : (bytes : List ℕ) (early late : ℕ) → early ≤ late
    → all_zero (take late bytes) && all_zero (take (length bytes - early) (drop early bytes)) ≡ all_zero bytes
zeros_cover bytes early late before =
    let front = take early bytes in
    let common = take (late - early) (drop early bytes) in
    let back = drop (late - early) (drop early bytes) in
    let count : late ≡ early + (late - early) = omega arith in
    let up_to : all_zero (take late bytes) ≡ all_zero front && all_zero common =
    ap (λ k. all_zero (take k bytes)) count
    ∙ ap all_zero (take-add early (late - early) bytes)
    ∙ zeros_both front common in
    let onward : all_zero (drop early bytes) ≡ all_zero common && all_zero back =
    ap all_zero (sym (take-append-drop (late - early) (drop early bytes))) ∙ zeros_both common back in
    let rest = take_all (length bytes - early) (drop early bytes) (le_of_eq (length-drop early bytes)) in
    ap₂ ◌&&◌ up_to (ap all_zero rest ∙ onward)
    ∙ sym (tested_twice (all_zero front) (all_zero common) (all_zero back))
    ∙ ap (λ tail. all_zero front && tail) (sym onward)
    ∙ sym (zeros_both front (drop early bytes))
    ∙ ap all_zero (take-append-drop early bytes)
