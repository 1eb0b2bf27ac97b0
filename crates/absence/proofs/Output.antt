-- The program's turns print what 02 says of the whole input: `whole_output`.
use mathlib.Core.Path.{◌≡◌, refl, sym, ap, ap₂, ◌∙◌}
use mathlib.Core.Bool.{cond}
use mathlib.Core.List.{List, [], ◌∷◌, ◌++◌, append_assoc, append-nil}
use Prim.Native.Nat.{ℕ, zero, suc, ◌+◌, ◌-◌, ◌*◌, ◌/◌, ◌<◌, ◌≤◌, min}
use native.Mathlib.Omega.{arith}
use native.Mathlib.Nat.{add-zero, zero-add, suc-add, add_assoc}
use native.Mathlib.Decide.{dec_lt}
use lib.Dec.{ltb}
use lib.ListN.{length, get_or, take, drop, length-drop}
use lib.Seq.{length-sets, length-take-le, take_all}
use borrow.Author.Tests.{lt-ltb, le-ltb}
use Rattle.wire.specs.Sizes.{run_size}
use Rattle.wire.specs.Outcome.{value_or}
use Rattle.wire.proofs.Numbers.{number_taken, number_dropped}
use Rattle.crew.specs.Parts.{most_nodes}
use Rattle.absence.specs.declared.Run.{Run}
use Rattle.absence.specs.declared.Window.{Window}
use Rattle.absence.specs.declared.Stream.{Stream}
use Rattle.absence.specs.Held.{afresh}
use Rattle.absence.specs.Ring.{empty_window, add_of, window_after, held_in}
use Rattle.absence.specs.Lines.{records_in, spaced, last_node, counts_line, lines_held, lines_of, output_of}
use Rattle.absence.specs.Lines.{record_size, at_once, part_size, room_for, most_records, SteppedOver}
use Rattle.absence.specs.Lines.{taken_of, left_after, lines_now, stream_after, fresh_stream, printed}
use Rattle.absence.proofs.Rings.{Keeps, empty_keeps}
use Rattle.absence.proofs.Holding.{add_follows, empty_held}

-- The counts kept are those worked out afresh, so the lines are the same.

spaced_same : (f g : ℕ → ℕ) (n : ℕ) → ((q : ℕ) → q < n → f q ≡ g q) → spaced f n ≡ spaced g n
unfolding spaced
spaced_same f g zero same = refl
spaced_same f g (suc n) same = rw (spaced_same f g n (λ q less. same q (omega arith)), same n (omega arith))

line_same : (f g : ℕ → ℕ) → ((q : ℕ) → q < most_nodes → f q ≡ g q) → counts_line f ≡ counts_line g
unfolding counts_line
line_same f g same = rw (spaced_same f g last_node (λ q less. same q (omega arith)), same last_node (omega arith))

lines_same : (runs : List Run) (w : Window) → Keeps w → lines_of w runs ≡ lines_held (held_in w) runs
unfolding lines_of lines_held
lines_same [] w keeps = refl
lines_same (run ∷ runs) w keeps =
    let next = value_or w (add_of w run) in
    let follows = add_follows w run keeps in
    ap₂ (λ line rest. line ++ rest)
    (line_same (λ q. get_or next.missing q 0) (afresh (held_in next)) follows.keeps.counts)
    (lines_same runs next follows.keeps)
    ∙ ap (λ (held : List Run). counts_line (afresh held) ++ lines_held held runs) follows.held

-- Records of bytes that come in two parts.

records_taken : (n : ℕ) (s : List ℕ) (i m : ℕ) → record_size * (i + m) ≤ n
    → records_in (take n s) i m ≡ records_in s i m
unfolding records_in
records_taken n s i zero h = refl
records_taken n s i (suc m) h =
    rw (
      number_taken run_size n s (record_size * i) (omega arith),
      number_taken run_size n s (record_size * i + run_size) (omega arith),
      records_taken n s (i + 1) m (omega arith),
    )

records_dropped : (k : ℕ) (s : List ℕ) (i m : ℕ) → records_in (drop (record_size * k) s) i m ≡ records_in s (k + i) m
unfolding records_in
records_dropped k s i zero = refl
records_dropped k s i (suc m) =
    let first : record_size * k + record_size * i ≡ record_size * (k + i) = omega arith in
    let second : record_size * k + (record_size * i + run_size) ≡ record_size * (k + i) + run_size = omega arith in
    rw (
      number_dropped run_size (record_size * k) s (record_size * i),
      number_dropped run_size (record_size * k) s (record_size * i + run_size),
      first,
      second,
      records_dropped k s (i + 1) m,
      add_assoc k i 1,
    )

records_split : (s : List ℕ) (i n m : ℕ) → records_in s i (n + m) ≡ records_in s i n ++ records_in s (i + n) m
unfolding records_in
records_split s i zero m = rw (zero-add m, add-zero i)
records_split s i (suc n) m =
    let on : i + suc n ≡ i + 1 + n = omega arith in
    rw (suc-add n m, on, records_split s (i + 1) n m)

lines_append : (xs ys : List Run) (w : Window)
    → lines_of w (xs ++ ys) ≡ lines_of w xs ++ lines_of (window_after w xs) ys
unfolding lines_of window_after
lines_append [] ys w = refl
lines_append (x ∷ xs) ys w =
    let next = value_or w (add_of w x) in
    let line = counts_line (λ q. get_or next.missing q 0) in
    ap (λ (rest : List ℕ). line ++ rest) (lines_append xs ys next)
    ∙ sym (append_assoc line (lines_of next xs) (lines_of (window_after next xs) ys))

-- The turns together.

-- every turn leaves fewer records to be taken, so that the loop ends
pub left_less : (size left : ℕ) → 0 < left → left_after size left < left
left_less size left some = go (dec_lt size part_size)
  where
    go : Dec (size < part_size) → left_after size left < left
    go (yes short) = rw (lt-ltb size part_size short) some
    go (no whole) =
        let enough : part_size ≤ size = omega arith in
        rw (le-ltb size part_size enough) (omega arith)

-- What a step shows a program that calls it.
module _ {before stream : Stream} {part lent after : List ℕ} {r : ℕ}
    (stepped : SteppedOver before part stream lent after r) where
  pub buffer_kept : length lent ≡ room_for → length after ≡ room_for
  buffer_kept long = ap length stepped.lines ∙ length-sets lent 0 (lines_now before part) ∙ long

  pub lines_fit : length lent ≡ room_for → r ≤ length after
  lines_fit long = omega (arith, buffer_kept long, stepped.within)

  pub fewer_left : 0 < before.left → stream.left < before.left
  fewer_left some = rw stepped.next (left_less (length part) before.left some)

-- a stream with nothing left prints nothing
nothing_left : (turns : ℕ) (stream : Stream) (input : List ℕ) → stream.left ≡ 0 → printed turns stream input ≡ []
unfolding printed
nothing_left zero stream input none = refl
nothing_left (suc turns) stream input none = rw none

-- no records have no lines
no_lines : (w : Window) (s : List ℕ) (i n : ℕ) → n ≡ 0 → lines_of w (records_in s i n) ≡ []
unfolding lines_of records_in
no_lines w s i n none = rw none

no_records : (s t : List ℕ) (i j n : ℕ) → n ≡ 0 → records_in s i n ≡ records_in t j n
unfolding records_in
no_records s t i j n none = rw none

-- The records taken of a whole part, which has k of them, and of what is behind it are those that are taken of both.
module _ (input : List ℕ) (size k left : ℕ) (part : size ≡ record_size * k) (whole : size ≤ length input) where
  -- how many are taken of the part, and how many then
  abbrev first : ℕ
  first = min k left

  abbrev later : ℕ
  later = min (length (drop size input) / record_size) (left - first)

  behind : records_in (drop size input) 0 later ≡ records_in input first later
  behind = go (dec_lt left k)
    where
      go : Dec (left < k) → records_in (drop size input) 0 later ≡ records_in input first later
      go (yes few) = let none : later ≡ 0 = omega arith in no_records (drop size input) input 0 first later none
      go (no many) =
          let all : k + 0 ≡ first = omega arith in
          ap (λ (n : ℕ). records_in (drop n input) 0 later) part
          ∙ records_dropped k input 0 later
          ∙ ap (λ (i : ℕ). records_in input i later) all

  two_parts : records_in (take size input) 0 first ++ records_in (drop size input) 0 later
      ≡ records_in input 0 (min (length input / record_size) left)
  two_parts =
      let all : min (length input / record_size) left ≡ first + later = omega (arith, length-drop size input) in
      let inside : record_size * (0 + first) ≤ size = omega arith in
      ap₂ (λ xs ys. xs ++ ys) (records_taken size input 0 first inside) behind
      ∙ ap (λ (i : ℕ). records_in input 0 first ++ records_in input i later) (sym (zero-add first))
      ∙ sym (ap (records_in input 0) all ∙ records_split input 0 first later)

  -- so the lines of a turn over the part, and those of the rest, are those of both
  turn_joins : (w : Window) (taken : ℕ) (rest : List ℕ) → taken ≡ first
      → rest ≡ lines_of (window_after w (records_in (take size input) 0 taken)) (records_in (drop size input) 0 later)
      → lines_of w (records_in (take size input) 0 taken) ++ rest
      ≡ lines_of w (records_in input 0 (min (length input / record_size) left))
  turn_joins w taken rest k e =
      rw (e, k)
      (sym (lines_append (records_in (take size input) 0 first) (records_in (drop size input) 0 later) w)
      ∙ ap (lines_of w) two_parts)

module _ (stream : Stream) (input : List ℕ) where
  abbrev part : List ℕ
  part = take part_size input

  abbrev rest : List ℕ
  rest = drop part_size input

  abbrev next : Stream
  next = stream_after stream part

  -- what is to be printed of the input
  abbrev lines : List ℕ
  lines = lines_of stream.window (records_in input 0 (min (length input / record_size) stream.left))

  -- a turn over a part that is not whole prints it all
  last_turn : (turns : ℕ) → length input < part_size → lines_now stream part ++ printed turns next rest ≡ lines
  last_turn turns short =
      let all : take part_size input ≡ input = take_all part_size input (omega arith) in
      let ended : (stream_after stream input).left ≡ 0 = rw (lt-ltb (length input) part_size short) in
      let taken : taken_of (length input) stream.left ≡ min (length input / record_size) stream.left =
      omega arith in
      rw (all, nothing_left turns (stream_after stream input) (drop part_size input) ended)
      (append-nil (lines_now stream input) ∙ ap (λ (n : ℕ). lines_of stream.window (records_in input 0 n)) taken)

  -- a turn over one that is whole leaves what is behind it to the next turns
  whole_turn : (later : List ℕ) → part_size ≤ length input
      → later ≡ lines_of next.window (records_in rest 0 (min (length rest / record_size) next.left))
      → lines_now stream part ++ later ≡ lines
  whole_turn later whole e =
      let long : length part ≡ part_size = length-take-le part_size input whole in
      let k = taken_of (length part) stream.left in
      let taken : k ≡ min at_once stream.left = rw long (omega arith) in
      let not_last : part_size ≤ length part = omega arith in
      let left : next.left ≡ stream.left - min at_once stream.left =
      rw (le-ltb (length part) part_size not_last, taken) in
      turn_joins input part_size at_once stream.left refl whole stream.window k later taken
      (e ∙ ap (λ (n : ℕ). lines_of next.window (records_in rest 0 (min (length rest / record_size) n))) left)

-- what so many turns print, from any stream that has no more left than there are turns
turns_print : (turns : ℕ) (stream : Stream) (input : List ℕ) → stream.left ≤ turns
    → printed turns stream input ≡ lines stream input
unfolding printed
turns_print zero stream input enough = sym (no_lines stream.window input 0 _ (omega arith))
turns_print (suc turns) stream input enough =
    go (dec_lt 0 stream.left) (dec_lt (length input) part_size)
    (turns_print turns (next stream input) (rest stream input))
  where
    go : Dec (0 < stream.left) → Dec (length input < part_size)
        → ((next stream input).left ≤ turns
        → printed turns (next stream input) (rest stream input) ≡ lines (next stream input) (rest stream input))
        → cond (ltb 0 stream.left)
        (lines_now stream (part stream input) ++ printed turns (next stream input) (rest stream input)) []
        ≡ lines stream input
    go (no none) size again =
        rw (le-ltb 0 stream.left (omega arith)) (sym (no_lines stream.window input 0 _ (omega arith)))
    go (yes some) (yes short) again = rw (lt-ltb 0 stream.left some) (last_turn stream input turns short)
    go (yes some) (no long) again =
        let fewer = left_less (length (part stream input)) stream.left some in
        rw (lt-ltb 0 stream.left some)
        (whole_turn stream input (printed turns (next stream input) (rest stream input)) (omega arith)
        (again (omega (arith, fewer))))

-- However many turns beyond those that are needed the loop may have, it prints the whole output and no more.
pub whole_output : (turns : ℕ) (input : List ℕ) → most_records ≤ turns
    → printed turns fresh_stream input ≡ output_of input
unfolding output_of fresh_stream
whole_output turns input enough =
    let runs = records_in input 0 (min (length input / record_size) most_records) in
    turns_print turns fresh_stream input enough
    ∙ lines_same runs empty_window empty_keeps
    ∙ ap (λ (held : List Run). lines_held held runs) empty_held
