-- The encoding is unique: two messages never share one, all slices that are read to a message begin with the same
-- bytes, and those of one length are the same bytes.
-- 01: "Fields within the bounds have one encoding, this layout; demand 2's written form of a read message is it."
use mathlib.Core.Path.{◌≡◌, sym, ap, ◌∙◌}
use mathlib.Core.Bool.{true}
use mathlib.Core.List.{List, ◌++◌}
use Prim.Native.Nat.{ℕ, ◌-◌}
use lib.ListN.{length, take, replicate}
use lib.Seq.{take_at}
use Rattle.wire.specs.Outcome.{accepted}
use Rattle.wire.specs.Bytes.{AreBytes}
use Rattle.wire.proofs.Outcomes.{same_value}
use Rattle.message.specs.Fields.{Message}
use Rattle.message.specs.Bounds.{within, Fits}
use Rattle.message.specs.Encoding.{size_of, encode}
use Rattle.message.specs.Reading.{front_of, read_of}
use Rattle.message.proofs.EncodeLaws.{encode_length}
use Rattle.codec.proofs.Written.{front_of_encode}
use Rattle.codec.proofs.Padded.{padded_of_read}

-- one run of bytes encodes one message, whatever follows it
pub one_message : (m k : Message) (s t : List ℕ) → within m ≡ true → Fits m → within k ≡ true → Fits k
    → encode m ++ s ≡ encode k ++ t → m ≡ k
one_message m k s t m-ok m-fits k-ok k-fits e =
    same_value (sym (front_of_encode m s m-ok m-fits) ∙ ap front_of e ∙ front_of_encode k t k-ok k-fits)

front : (s : List ℕ) (m : Message) → AreBytes s → read_of s ≡ accepted m → take (size_of m.body) s ≡ encode m
front s m bytes e =
    ap (take (size_of m.body)) (padded_of_read s m bytes e).0
    ∙ take_at (encode m) _ _ (encode_length m)

-- one message has one encoding
pub one_encoding : (m : Message) (s t : List ℕ) → AreBytes s → AreBytes t
    → read_of s ≡ accepted m → read_of t ≡ accepted m
    → take (size_of m.body) s ≡ take (size_of m.body) t
one_encoding m s t s-bytes t-bytes s_read t-read = front s m s-bytes s_read ∙ sym (front t m t-bytes t-read)

-- slices of one length that are read to one message are the same bytes
pub one_slice : (m : Message) (s t : List ℕ) → AreBytes s → AreBytes t → length s ≡ length t
    → read_of s ≡ accepted m → read_of t ≡ accepted m → s ≡ t
one_slice m s t s-bytes t-bytes long s_read t-read =
    (padded_of_read s m s-bytes s_read).0
    ∙ ap (λ size. encode m ++ replicate (size - size_of m.body) 0) long
    ∙ sym (padded_of_read t m t-bytes t-read).0
