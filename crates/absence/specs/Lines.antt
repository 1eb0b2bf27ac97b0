-- From the bytes of records to lines of counts: document 02, C-24, the program. `output_of` is what it prints, of the
-- whole input; then come its steps.
use Rattle.std.specs.Prelude.{ℕ, zero, suc, ◌+◌, ◌-◌, ◌*◌, ◌/◌, ◌≤◌, min, ◌≡◌}
use Rattle.std.specs.Prelude.{cond, List, [], ◌∷◌, ◌++◌, ltb, length, get_or, take, drop}
use Rattle.std.proofs.lemmas.List.Edits.{sets}
use Rattle.wire.specs.Bytes.{number_at}
use Rattle.wire.specs.Sizes.{run_size}
use Rattle.wire.specs.Outcome.{value_or}
use Rattle.crew.specs.Parts.{most_nodes}
use Rattle.script.specs.Lines.{space, newline}
use Rattle.print.specs.Texts.{decimal_of}
use Rattle.absence.specs.Held.{afresh, held_with}
use Rattle.absence.specs.Ring.{empty_window, add_of, window_after}
use Rattle.absence.specs.declared.Run.{Run}
use Rattle.absence.specs.declared.Window.{Window}
use Rattle.absence.specs.declared.Stream.{Stream}

-- a run's number, and as many bytes again for the marks
abbrev pub record_size : ℕ
record_size = 2 * run_size

-- 02: "8 bytes each (run, then marks as one number ..)": record i
abbrev pub record_at : List ℕ → ℕ → Run
record_at bytes i =
    record {
      number = number_at run_size bytes (record_size * i);
      marks = number_at run_size bytes (record_size * i + run_size);
    }

-- n records from record i on
unfoldable pub records_in : List ℕ → ℕ → ℕ → List Run
records_in bytes i zero = []
records_in bytes i (suc n) = record_at bytes i ∷ records_in bytes (i + 1) n

-- a count, and a byte after it
abbrev pub count_text : ℕ → ℕ → List ℕ
count_text count after = decimal_of count ++ (after ∷ [])

-- the counts of the first n nodes, with a space after each
unfoldable pub spaced : (ℕ → ℕ) → ℕ → List ℕ
spaced count zero = []
spaced count (suc n) = spaced count n ++ count_text (count n) space

abbrev pub last_node : ℕ
last_node = most_nodes - 1

-- 02: "the 32 counts .. on one line parted by spaces"
unfoldable pub counts_line : (ℕ → ℕ) → List ℕ
counts_line count = spaced count last_node ++ count_text (count last_node) newline

-- 02: "prints the 32 counts after each, refused ones too": the lines of records that come to a window which holds these
unfoldable pub lines_held : List Run → List Run → List ℕ
lines_held held [] = []
lines_held held (run ∷ runs) =
    counts_line (afresh (value_or held (held_with held run))) ++ lines_held (value_or held (held_with held run)) runs

-- 02: "the first 1,000,000 at most, 8 bytes each (..; a remnant is dropped)"
abbrev pub most_records : ℕ
most_records = 1000000

unfoldable pub output_of : List ℕ → List ℕ
output_of input = lines_held [] (records_in input 0 (min (length input / record_size) most_records))

-- The program's steps. It reads the input in parts of so many records, and prints their lines from the counts that its
-- window keeps.
abbrev pub at_once : ℕ
at_once = 512

abbrev pub part_size : ℕ
part_size = at_once * record_size

-- a count has at most three digits, and its text a byte more; room for the lines of a part
abbrev pub count_most : ℕ
count_most = 3

abbrev pub text_most : ℕ
text_most = count_most + 1

abbrev pub room_for : ℕ
room_for = at_once * text_most * most_nodes

unfoldable pub lines_of : Window → List Run → List ℕ
lines_of w [] = []
lines_of w (run ∷ runs) =
    counts_line (λ q. get_or (value_or w (add_of w run)).missing q 0) ++ lines_of (value_or w (add_of w run)) runs

-- how many records a step takes of a part of this size, where so many are left to be taken
abbrev pub taken_of : (size left : ℕ) → ℕ
taken_of size left = min (min (size / record_size) at_once) left

-- how many are left then: none behind a part that is not whole, for it is the input's last
abbrev pub left_after : (size left : ℕ) → ℕ
left_after size left = cond (ltb size part_size) 0 (left - taken_of size left)

-- what a step takes, its lines, and the stream after it
abbrev pub records_now : Stream → List ℕ → List Run
records_now stream part = records_in part 0 (taken_of (length part) stream.left)

abbrev pub lines_now : Stream → List ℕ → List ℕ
lines_now stream part = lines_of stream.window (records_now stream part)

abbrev pub stream_after : Stream → List ℕ → Stream
stream_after stream part =
    record {
      window = window_after stream.window (records_now stream part);
      left = left_after (length part) stream.left;
    }

-- What a step gives: the stream after it, and its lines at the front of the buffer, all of them; it answers how long
-- they are. No other byte of the buffer has changed.
pub record SteppedOver (before : Stream) (part : List ℕ) (stream : Stream) (lent after : List ℕ) (r : ℕ) : Type 0 where
  pub next : stream ≡ stream_after before part
  pub size : r ≡ length (lines_now before part)
  pub lines : after ≡ sets lent 0 (lines_now before part)
  pub within : r ≤ room_for

-- a stream that has taken nothing yet
unfoldable pub fresh_stream : Stream
fresh_stream = record { window = empty_window; left = most_records }

-- What the program prints in so many turns of its loop: as long as records are left to be taken, it reads a part and
-- prints its lines.
unfoldable pub printed : ℕ → Stream → List ℕ → List ℕ
printed zero stream input = []
printed (suc turns) stream input =
    cond (ltb 0 stream.left)
    (lines_now stream (take part_size input)
    ++ printed turns (stream_after stream (take part_size input)) (drop part_size input))
    []
