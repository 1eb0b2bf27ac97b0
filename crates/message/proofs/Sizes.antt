-- What the sums of the layout come to: the lengths that 01 names.
use mathlib.Core.Path.{◌≡◌, refl}
use Prim.Native.Nat.{ℕ, ◌+◌, ◌*◌}
use mathlib.Core.List.{List}
use lib.ListN.{length}
use Rattle.wire.specs.Entry.{Entry}
use Rattle.message.specs.Layout.{header_size, slot_size}
use Rattle.message.specs.Fields.{selection, validation, decision}
use Rattle.message.specs.Encoding.{size_of}

-- a header, the kinds' lengths, and a slot
sizes : (vote stamp : ℕ) (entries : List Entry)
    → (header_size ≡ 9)
    × (size_of (selection vote stamp entries) ≡ 13 + 3 * length entries)
    × (size_of (validation vote) ≡ 11)
    × (size_of (decision vote stamp) ≡ 12)
    × (slot_size ≡ 202)
sizes vote stamp entries = (refl, refl, refl, refl, refl)
