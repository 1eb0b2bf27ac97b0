-- How long the bytes of a message are.
use mathlib.Core.Path.{◌≡◌, refl}
use mathlib.Core.List.{List, [], ◌∷◌, ◌++◌}
use Prim.Native.Nat.{◌*◌}
use native.Mathlib.Omega.{arith}
use lib.ListN.{length}
use Rattle.wire.specs.Entry.{Entry}
use Rattle.message.specs.Layout.{entry_size}
use Rattle.message.specs.Fields.{Body, selection, validation, decision, Message}
use Rattle.message.specs.Encoding.{kind_of, size_of, entry_bytes, body_bytes, header, encode}

-- an entry takes three bytes
pub entry_bytes_length : (es : List Entry) → length (entry_bytes es) ≡ entry_size * length es
unfolding entry_bytes
entry_bytes_length [] = refl
entry_bytes_length (e ∷ es) = omega (arith, entry_bytes_length es)

-- the length counts every byte of the message
pub encode_length : (m : Message) → length (encode m) ≡ size_of m.body
unfolding encode
encode_length m = go m.body
  where
    go : (body : Body) → length (header (size_of body) (kind_of body) m.run m.phase ++ body_bytes body) ≡ size_of body
    go (selection vote stamp entries) = omega (arith, entry_bytes_length entries)
    go (validation plan) = refl
    go (decision vote stamp) = refl
