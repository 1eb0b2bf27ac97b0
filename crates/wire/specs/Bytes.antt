-- Numbers in bytes, the least byte first: once over the width, in bytes. Then bytes in a buffer.
-- 01: "byte order is little-endian"
use Rattle.std.specs.Prelude.{ℕ, zero, suc, ◌+◌, ◌*◌, ◌/◌, ◌%◌, ◌<◌, cond}
use Rattle.std.specs.Prelude.{List, [], ◌∷◌, ◌++◌, length, get_or, drop, leb}
use Rattle.std.proofs.lemmas.List.Edits.{sets}
use Rattle.wire.specs.Outcome.{Outcome, accepted, refused}

-- the number that stands in `width` bytes from a place on
abbrev pub number_at : ℕ → List ℕ → ℕ → ℕ
number_at zero s place = 0
number_at (suc width) s place = get_or s place 0 + 256 * number_at width s (place + 1)

-- a number written in `width` bytes
abbrev pub bytes_of : ℕ → ℕ → List ℕ
bytes_of zero number = []
bytes_of (suc width) number = number % 256 ∷ bytes_of width (number / 256)

-- a list of bytes: numbers below 256
abbrev pub AreBytes : List ℕ → Type 0
AreBytes s = (place : ℕ) → get_or s place 0 < 256

-- bytes laid into a buffer from a place on; a buffer without room for them stays as it is
unfoldable pub laid : List ℕ → ℕ → List ℕ → List ℕ
laid buffer place bytes = cond (leb (place + length bytes) (length buffer)) (sets buffer place bytes) buffer

-- A lent buffer after an operation that writes these bytes to its front: they, then the bytes after them as they were;
-- all as it was where the operation refuses.
-- 01: "no lent byte is written"; "Bytes after a written message keep their values."
abbrev pub buffer_after : List ℕ → List ℕ → Outcome ℕ → List ℕ
buffer_after bytes buffer (accepted size) = bytes ++ drop size buffer
buffer_after bytes buffer (refused number) = buffer
