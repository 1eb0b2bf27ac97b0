-- Where the fields of a message stand, and how long it is: document 01, 'Messages'. Each place is where the field
-- before it ends. The code has the same numbers as constants in src/lib.rt; proofs/Sizes.antt says what they come to.
use Rattle.std.specs.Prelude.{ℕ, ◌+◌, ◌*◌}
use Rattle.wire.specs.Sizes.{plan_size, run_size, last_phase}

-- the header: length, kind, run and phase
abbrev pub length_place : ℕ
length_place = 0

abbrev pub kind_place : ℕ
kind_place = length_place + 2

abbrev pub run_place : ℕ
run_place = kind_place + 2

abbrev pub phase_place : ℕ
phase_place = run_place + run_size

abbrev pub header_size : ℕ
header_size = phase_place + 1

-- the body: the vote or plan, and, where the kind has them, the stamp, how many entries there are, and these
abbrev pub plan_place : ℕ
plan_place = header_size

abbrev pub stamp_place : ℕ
stamp_place = plan_place + plan_size

abbrev pub count_place : ℕ
count_place = stamp_place + 1

abbrev pub entries_place : ℕ
entries_place = count_place + 1

-- an entry: its phase and its plan
abbrev pub entry_size : ℕ
entry_size = 1 + plan_size

-- no selection has more entries: one for each phase before the last
abbrev pub most_entries : ℕ
most_entries = last_phase

-- a slot of an inbox holds the longest message, a selection with all its entries
abbrev pub slot_size : ℕ
slot_size = entries_place + entry_size * most_entries
