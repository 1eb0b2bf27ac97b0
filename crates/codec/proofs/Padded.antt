-- Reading and writing match over slices padded with zeros: laws 1 and 2 of the codec. What else follows a message is
-- refused.
use mathlib.Core.Path.{◌≡◌, sym, ap, ◌∙◌}
use mathlib.Core.Bool.{true, false}
use mathlib.Core.List.{List, ◌++◌}
use Prim.Native.Nat.{ℕ, ◌-◌}
use lib.ListN.{length, drop, replicate, length-drop}
use lib.Seq.{drop_at}
use Rattle.wire.specs.Outcome.{accepted, refused, require}
use Rattle.wire.specs.Bytes.{AreBytes}
use Rattle.message.specs.Fields.{Message}
use Rattle.message.specs.Bounds.{within, Fits}
use Rattle.message.specs.Encoding.{size_of, encode}
use Rattle.message.specs.Reading.{front_of, rest_of, all_zero, read_of}
use Rattle.message.proofs.EncodeLaws.{encode_length}
use Rattle.message.proofs.ReadLaws.{front_passes, rest_left, read_front}
use Rattle.message.proofs.Zeros.{zeros_clear, clear_zeros}
use Rattle.codec.proofs.Written.{front_of_encode}
use Rattle.codec.proofs.Read.{encode_of_front}

-- a front that is read, with residue behind it, is 16
pub residue_refused : (s : List ℕ) (m : Message) → front_of s ≡ accepted m → all_zero (rest_of s) ≡ false
    → read_of s ≡ refused 16
residue_refused s m front residue = simp (rest_left s m front, residue)

-- what is written, with any bytes behind it: where these are 0 it is read to its fields, else it is 16
pub read_of_written : (m : Message) (tail : List ℕ) → within m ≡ true → Fits m
    → read_of (encode m ++ tail) ≡ require (all_zero tail) 16 (accepted m)
read_of_written m tail ok fits =
    let s = encode m ++ tail in
    let front = front_of_encode m tail ok fits in
    let rest : rest_of s ≡ tail =
    ap (λ size. drop size s) (front_passes s m front).long ∙ drop_at (encode m) tail _ (encode_length m) in
    rest_left s m front ∙ ap (λ bytes. require (all_zero bytes) 16 (accepted m)) rest

-- Law 1: for every message within the bounds and any number of zeros.
pub read_of_padded : (m : Message) (k : ℕ) → within m ≡ true → Fits m
    → read_of (encode m ++ replicate k 0) ≡ accepted m
read_of_padded m k ok fits = simp (read_of_written m (replicate k 0) ok fits, zeros_clear k)

-- Law 2: for every slice that is read to a message, the slice is that message's encoding and zeros, and the message
-- keeps the bounds. That the slice holds bytes is the only premise.
pub padded_of_read : (s : List ℕ) (m : Message) → AreBytes s → read_of s ≡ accepted m
    → (s ≡ encode m ++ replicate (length s - size_of m.body) 0) × (within m ≡ true) × Fits m
padded_of_read s m bytes e =
    let size = size_of m.body in
    let read = read_front s m e in
    let whole = encode_of_front s m bytes read.0 in
    let rest = ap (λ size. drop size s) (front_passes s m read.0).long in
    let zeros = clear_zeros (drop size s) (ap all_zero (sym rest) ∙ read.1) in (
      whole.0 ∙ ap (λ rest. encode m ++ rest) (zeros ∙ ap (λ k. replicate k 0) (length-drop size s)),
      whole.1,
      whole.2,
    )
