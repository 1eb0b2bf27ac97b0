-- The window over finished runs as a list of records, the oldest first: document 02, C-24.
use Rattle.std.specs.Prelude.{ℕ, ◌-◌, Bool, not, cond, ◌&&◌, List, [], ◌∷◌, ◌++◌, leb, ltb, eqb, length, get_or, drop}
use Rattle.wire.specs.Outcome.{Outcome, accepted, require}
use Rattle.wire.specs.Marks.{marked}
use Rattle.ballot.specs.Count.{count_if}
use Rattle.absence.specs.declared.Run.{Run}

-- 02: "a record is a run number and 32 marks for the slots that counted in the round that decided": a record with these
-- marks misses a node whose slot did not count
abbrev pub misses : ℕ → ℕ → Bool
misses q marks = not (marked q marks)

-- 02: "for each node, how many of them miss it", worked out afresh from the records held
abbrev pub afresh : List Run → ℕ → ℕ
afresh held q = count_if (λ run. misses q run.marks) held

-- 02: "The window holds the newest 100"
abbrev pub most_held : ℕ
most_held = 100

abbrev pub newest : ℕ → List Run → List Run
newest n runs = drop (length runs - n) runs

-- what stands beyond a list's end
abbrev pub no_run : Run
no_run = record { number = 0; marks = 0 }

-- 02: "a record whose run number is that of the newest held"; where none is held, there is no such number
abbrev pub repeats : List Run → Run → Bool
repeats held run = leb 1 (length held) && eqb (get_or held (length held - 1) no_run).number run.number

-- 02: "Adding to a full window drops the oldest"
abbrev pub with_room : List Run → List Run
with_room held = cond (ltb (length held) most_held) held (drop 1 held)

-- 02: "It refuses with 23 a record whose run number is that of the newest held, leaving the window unchanged."
unfoldable pub held_with : List Run → Run → Outcome (List Run)
held_with held run = require (not (repeats held run)) 23 (accepted (with_room held ++ (run ∷ [])))

-- the records of a list that are added, not those that are refused, behind those that were added before; none is ever
-- dropped
unfoldable pub added_after : List Run → List Run → List Run
added_after added [] = added
added_after added (run ∷ runs) = added_after (cond (repeats added run) added (added ++ (run ∷ []))) runs
