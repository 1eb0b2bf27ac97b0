-- The bytes of a message: document 01, 'Messages'.
use Rattle.std.specs.Prelude.{ℕ, ◌+◌, ◌*◌, List, [], ◌∷◌, ◌++◌, length}
use Rattle.wire.specs.Entry.{Entry}
use Rattle.wire.specs.Bytes.{bytes_of}
use Rattle.wire.specs.Sizes.{plan_size, run_size}
use Rattle.message.specs.Layout.{plan_place, stamp_place, entries_place, entry_size}
use Rattle.message.specs.Fields.{Body, selection, validation, decision, Message}

-- 01: "kind 1, selection", "kind 2, validation", "kind 3, decision"
abbrev pub kind_of : Body → ℕ
kind_of (selection vote stamp entries) = 1
kind_of (validation plan) = 2
kind_of (decision vote stamp) = 3

-- 01: "length 13 + 3k", "length 11", "length 12"
abbrev pub size_of : Body → ℕ
size_of (selection vote stamp entries) = entries_place + entry_size * length entries
size_of (validation plan) = plan_place + plan_size
size_of (decision vote stamp) = stamp_place + 1

-- 01: "k entries of phase (1) and plan (2)"
unfoldable pub entry_bytes : List Entry → List ℕ
entry_bytes [] = []
entry_bytes (e ∷ es) = e.phase ∷ (bytes_of plan_size e.plan ++ entry_bytes es)

-- 01: kind 1 "vote (2), stamp (1), k (1), k entries", kind 2 "plan (2)", kind 3 "vote (2), stamp (1)"
abbrev pub body_bytes : Body → List ℕ
body_bytes (selection vote stamp entries) = bytes_of plan_size vote ++ (stamp ∷ length entries ∷ entry_bytes entries)
body_bytes (validation plan) = bytes_of plan_size plan
body_bytes (decision vote stamp) = bytes_of plan_size vote ++ (stamp ∷ [])

-- 01: "Header of 9 bytes: length (2, counting every byte of the message), kind (2), run (4), phase (1)."
abbrev pub header : ℕ → ℕ → ℕ → ℕ → List ℕ
header size kind run phase = bytes_of 2 size ++ (bytes_of 2 kind ++ (bytes_of run_size run ++ (phase ∷ [])))

unfoldable pub encode : Message → List ℕ
encode m = header (size_of m.body) (kind_of m.body) m.run m.phase ++ body_bytes m.body
