-- A number's bytes are read to the number, and the bytes that a number was read from are its bytes: once over the
-- width. Then numbers in a part of a list, and lists of bytes.
use mathlib.Core.Path.{◌≡◌, refl, ap}
use mathlib.Core.Bool.{Bool, true, ◌&&◌}
use mathlib.Core.List.{List, [], ◌∷◌, ◌++◌}
use Prim.Native.Nat.{ℕ, zero, suc, ◌+◌, ◌*◌, ◌/◌, ◌%◌, ◌^◌, ◌<◌, ◌≤◌}
use native.Mathlib.Omega.{arith}
use native.Mathlib.Nat.{add-zero, add_assoc}
use native.Mathlib.Numerals.{add-one}
use lib.ListN.{length, get_or, take, drop}
use lib.Seq.{drop-cons, get_or-take, get_or-drop}
use lib.Dec.{T, ltb, ltb→lt}
use Rattle.wire.specs.Bytes.{number_at, bytes_of, AreBytes}
use Rattle.wire.proofs.Tests.{and_T}

-- a byte more in front moves every place by one
number_shift : (width byte : ℕ) (s : List ℕ) (place : ℕ) → number_at width (byte ∷ s) (place + 1)
    ≡ number_at width s place
number_shift zero byte s place = refl
number_shift (suc width) byte s place =
    rw (number_shift width byte s (place + 1), add-one place)

-- what a number is written as is read to that number, whatever follows
pub number_of_bytes : (width number : ℕ) (rest : List ℕ) → number < 256 ^ width
    → number_at width (bytes_of width number ++ rest) 0 ≡ number
number_of_bytes zero number rest h = omega arith
number_of_bytes (suc width) number rest h =
    let high : number / 256 < 256 ^ width = omega arith in
    let shift = number_shift width (number % 256) (bytes_of width (number / 256) ++ rest) 0 in
    omega (arith, shift, number_of_bytes width (number / 256) rest high)

-- the bytes from a place on are the bytes of the number that is read there, and those after it
pub bytes_of_number : (width : ℕ) (s : List ℕ) (place : ℕ) → AreBytes s → place + width ≤ length s
    → drop place s ≡ bytes_of width (number_at width s place) ++ drop (place + width) s
bytes_of_number zero s place bytes h = rw (add-zero place)
bytes_of_number (suc width) s place bytes h =
    let byte = get_or s place 0 in
    let high = number_at width s (place + 1) in
    let inside : place < length s = omega arith in
    let low_digit : (byte + 256 * high) % 256 ≡ byte = omega (arith, bytes place) in
    let high-digits : (byte + 256 * high) / 256 ≡ high = omega (arith, bytes place) in
    let after : place + suc width ≡ place + 1 + width = omega arith in
    rw (drop-cons s place 0 inside, ← add-one place, low_digit, high-digits, after)
    (ap (λ (rest : List ℕ). byte ∷ rest) (bytes_of_number width s (place + 1) bytes (omega arith)))

-- a number of `width` bytes is below 256 to the width
pub number_small : (width : ℕ) (s : List ℕ) (place : ℕ) → AreBytes s → number_at width s place < 256 ^ width
number_small zero s place bytes = omega arith
number_small (suc width) s place bytes = omega (arith, bytes place, number_small width s (place + 1) bytes)

-- a number in the front of a list, and in what is behind it
pub number_taken : (width n : ℕ) (s : List ℕ) (place : ℕ) → place + width ≤ n
    → number_at width (take n s) place ≡ number_at width s place
number_taken zero n s place h = refl
number_taken (suc width) n s place h =
    let here : place < n = omega arith in
    rw (get_or-take n s place 0 here, number_taken width n s (place + 1) (omega arith))

pub number_dropped : (width n : ℕ) (s : List ℕ) (place : ℕ)
    → number_at width (drop n s) place ≡ number_at width s (n + place)
number_dropped zero n s place = refl
number_dropped (suc width) n s place =
    rw (get_or-drop n s place 0, number_dropped width n s (place + 1), add_assoc n place 1)

-- whether a list holds bytes alone, as a test that computes
unfoldable pub all_bytes : List ℕ → Bool
all_bytes [] = true
all_bytes (x ∷ s) = ltb x 256 && all_bytes s

pub are_bytes : (s : List ℕ) → T (all_bytes s) → AreBytes s
unfolding all_bytes
are_bytes [] t place = omega arith
are_bytes (x ∷ s) t zero = ltb→lt x 256 (and_T (ltb x 256) (all_bytes s) t).0
are_bytes (x ∷ s) t (suc place) = are_bytes s (and_T (ltb x 256) (all_bytes s) t).1 place
