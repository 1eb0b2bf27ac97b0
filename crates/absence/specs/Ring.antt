-- The window as it is kept: the records in a ring of 100 places, and a count for each node.
-- What adding does is said of any window, also of one that no adds have made; what adds make from an empty one is
-- `Holds`.
use Rattle.std.specs.Prelude.{ℕ, zero, suc, ◌+◌, ◌-◌, ◌%◌, ◌<◌, min, ◌≡◌, Bool, true, not}
use Rattle.std.specs.Prelude.{cond, ◌&&◌, List, [], ◌∷◌, leb, ltb, eqb, get_or, set, replicate, Result}
use Rattle.wire.specs.Outcome.{Outcome, accepted, require, verdict, value_or, outcome_of}
use Rattle.wire.specs.Marks.{marks_of}
use Rattle.wire.specs.Below.{table}
use Rattle.crew.specs.Parts.{most_nodes}
use Rattle.ballot.specs.Count.{bit}
use Rattle.absence.specs.Held.{misses, afresh, most_held, newest, no_run, held_with, added_after}
use Rattle.absence.specs.declared.Run.{Run}
use Rattle.absence.specs.declared.Window.{Window}
use Rattle.absence.specs.declared.AddRefusal.{AddRefusal}
use Rattle.absence.specs.declared.AddRefusal.TheVariants.{SameRun}

-- the record at a place of the ring
abbrev pub run_in : Window → ℕ → Run
run_in w place = get_or w.runs place no_run

unfoldable pub empty_window : Window
empty_window =
    record { runs = replicate most_held no_run; next = 0; held = 0; missing = replicate most_nodes 0 }

-- the record before the next place is the newest, where there is one, and has this number
abbrev pub repeats_at : Window → (number : ℕ) → Bool
repeats_at w number =
    leb 1 w.held && eqb (run_in w ((w.next % most_held + (most_held - 1)) % most_held)).number number

-- the marks of a record that misses nobody
abbrev pub every_mark : ℕ
every_mark = marks_of (λ q. true) most_nodes

-- the marks of the record that leaves: that at the next place where the window is full, else marks that miss nobody
abbrev pub marks_leaving : Window → ℕ
marks_leaving w = cond (ltb w.held most_held) every_mark (run_in w (w.next % most_held)).marks

-- a count is a byte, and has so many values
abbrev pub count_values : ℕ
count_values = 256

-- one count: one more where the record that comes misses the node, one less where the one that goes did; in a byte's
-- range, whatever the count was
abbrev pub changed : ℕ → Bool → Bool → ℕ
changed count comes goes = (count + bit comes + count_values - bit goes) % count_values

-- the counts of the first n nodes brought up to date, for the marks of a record that comes and of one that goes
unfoldable pub recounted_to : ℕ → List ℕ → ℕ → ℕ → List ℕ
recounted_to zero counts comes goes = counts
recounted_to (suc q) counts comes goes =
    set (recounted_to q counts comes goes) q (changed (get_or counts q 0) (misses q comes) (misses q goes))

abbrev pub recounted : List ℕ → ℕ → ℕ → List ℕ
recounted = recounted_to most_nodes

abbrev pub held_next : ℕ → ℕ
held_next held = min (held + 1) most_held

-- the window with one record more
abbrev pub with_run : Window → Run → Window
with_run w run =
    record {
      runs = set w.runs (w.next % most_held) run;
      next = (w.next % most_held + 1) % most_held;
      held = held_next w.held;
      missing = recounted w.missing run.marks (marks_leaving w);
    }

unfoldable pub add_of : Window → Run → Outcome Window
add_of w run = require (not (repeats_at w run.number)) 23 (accepted (with_run w run))

-- 02's number of the refusal
abbrev pub add_number : AddRefusal → ℕ
add_number SameRun = 23

-- what an answer of `add` says in 02's terms
abbrev pub add_answer : Result (Unit {0}) AddRefusal → Outcome (Unit {0})
add_answer = outcome_of add_number

-- What adding to a window gives: the next window or, where the record is refused, the window as it was; and its answer.
pub record AddedTo (w : Window) (run : Run) (left : Window) (r : Result (Unit {0}) AddRefusal) : Type 0 where
  pub answer : add_answer r ≡ verdict (add_of w run)
  pub window : left ≡ value_or w (add_of w run)

-- the window after each of a list of records
unfoldable pub window_after : Window → List Run → Window
window_after w [] = w
window_after w (run ∷ runs) = window_after (value_or w (add_of w run)) runs

-- where record i of those held stands, the oldest being record 0
abbrev pub place_in : Window → ℕ → ℕ
place_in w i = (w.next + most_held - w.held + i) % most_held

-- the records that a window holds, the oldest first
abbrev pub held_in : Window → List Run
held_in w = table (λ i. run_in w (place_in w i)) w.held

-- 02: "in every window that adds make from an empty one, the counts equal those worked out afresh from the records
-- held": what is to hold of the window after these records.
pub record Holds (runs : List Run) (w : Window) : Type 0 where
  -- it holds the newest 100 of those that were added, in their order
  pub held : held_in w ≡ newest most_held (added_after [] runs)
  pub counts : (q : ℕ) → q < most_nodes → get_or w.missing q 0 ≡ afresh (held_in w) q
  -- and answers a further record as 02 says of those held
  pub answers : (run : Run) → verdict (add_of w run) ≡ verdict (held_with (held_in w) run)
