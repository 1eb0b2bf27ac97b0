-- The ring after one record more holds what 02's list holds, and its counts are those worked out afresh.
use mathlib.Core.Path.{◌≡◌, refl, sym, ap, ap₂, ◌∙◌}
use mathlib.Core.Logic.{◌≢◌}
use mathlib.Core.Bool.{true, false, not}
use mathlib.Core.List.{List, [], ◌∷◌, ◌++◌}
use Prim.Native.Nat.{ℕ, suc, ◌+◌, ◌-◌, ◌%◌, ◌<◌, ◌≤◌}
use native.Mathlib.Omega.{arith}
use native.Mathlib.Decide.{dec_lt}
use lib.ListN.{length, get_or, drop, length-set, length-replicate, get_or-replicate}
use lib.Seq.{get_or-set_same, get_or-set_other}
use borrow.Author.Tests.{lt-ltb, le-ltb, lt-leb}
use Rattle.wire.specs.Below.{table}
use Rattle.wire.proofs.Tests.{by_equality}
use Rattle.wire.proofs.Tables.{table_long, table_filled, table_same, table_first}
use Rattle.wire.proofs.Marks.{marked_in}
use Rattle.crew.specs.Parts.{most_nodes}
use Rattle.ballot.specs.Count.{bit, count_if}
use Rattle.ballot.proofs.Counting.{bit_le, count_append, count_not}
use Rattle.absence.specs.declared.Run.{Run}
use Rattle.absence.specs.declared.Window.{Window}
use Rattle.absence.specs.Held.{misses, afresh, most_held, no_run, repeats, with_room}
use Rattle.absence.specs.Ring.{empty_window, repeats_at, every_mark, marks_leaving, with_run, run_in, place_in, held_in}
use Rattle.absence.proofs.Counts.{recounted_long, recounted_at}

-- What adds keep: the ring and the counts have their places, and the counts are those worked out afresh.
pub record Keeps (w : Window) : Type 0 where
  pub runs : length w.runs ≡ most_held
  pub nodes : length w.missing ≡ most_nodes
  pub inside : w.next < most_held
  pub most : w.held ≤ most_held
  pub counts : (q : ℕ) → q < most_nodes → get_or w.missing q 0 ≡ afresh (held_in w) q

pub empty_keeps : Keeps empty_window
unfolding empty_window table count_if
empty_keeps =
    record {
      runs = length-replicate most_held no_run;
      nodes = length-replicate {A = ℕ} most_nodes 0;
      inside = omega arith;
      most = omega arith;
      counts = λ q h. get_or-replicate most_nodes q 0 0 h;
    }

pub held_long : (w : Window) → length (held_in w) ≡ w.held
held_long w = table_long (λ i. run_in w (place_in w i)) w.held

-- Places round the ring once the next place has been filled: in a window that is not full record i stands where it
-- stood, in a full one where record i + 1 did. Neither is the next place, which is that of the last record.

place_kept : (next held i : ℕ) → next < most_held → held < most_held → i < held
    → ((next + 1) % most_held + most_held - (held + 1) + i) % most_held ≡ (next + most_held - held + i) % most_held
place_kept next held i inside some less =
    by_equality next (most_held - 1)
    (λ e. omega (arith, e))
    (λ e. let on : (next + 1) % most_held ≡ next + 1 = omega (arith, e) in rw on (omega arith))

place_apart : (next held i : ℕ) → next < most_held → held < most_held → i < held
    → (next + most_held - held + i) % most_held ≢ next
place_apart next held i inside some less e = omega arith

place_last : (next held : ℕ) → next < most_held → held < most_held
    → ((next + 1) % most_held + most_held - (held + 1) + held) % most_held ≡ next
place_last next held inside some = omega arith

place_moved : (next i : ℕ) → next < most_held
    → ((next + 1) % most_held + most_held - most_held + i) % most_held
    ≡ (next + most_held - most_held + (i + 1)) % most_held
place_moved next i inside = omega arith

place_before : (next i : ℕ) → next < most_held → i < most_held - 1
    → (next + most_held - most_held + (i + 1)) % most_held ≢ next
place_before next i inside less e = omega arith

-- Counts of one record more, and of one less.

count_last : (q : ℕ) (held : List Run) (run : Run)
    → afresh (held ++ (run ∷ [])) q ≡ afresh held q + bit (misses q run.marks)
unfolding count_if
count_last q held run = omega (arith, count_append (λ r. misses q r.marks) held (run ∷ []))

count_first : (q : ℕ) (run : Run) (held : List Run)
    → afresh (run ∷ held) q ≡ bit (misses q run.marks) + afresh held q
unfolding count_if
count_first q run held = refl

-- no count passes the number of records
pub count_most_lem : (q : ℕ) (held : List Run) → afresh held q ≤ length held
count_most_lem q held = omega (arith, count_not (λ run. misses q run.marks) held)

-- marks that are all set miss nobody
nobody_missed : (q : ℕ) → q < most_nodes → misses q every_mark ≡ false
nobody_missed q h = ap not (marked_in (λ k. true) most_nodes q h)

module _ (w : Window) (run : Run) (keeps : Keeps w) where
  here : w.next % most_held ≡ w.next
  here = omega (arith, keeps.inside)

  -- the record at the next place is the one that came, and the others stand where they stood
  run_here : run_in (with_run w run) w.next ≡ run
  run_here =
      let inside : w.next < length w.runs = omega (arith, keeps.runs, keeps.inside) in
      rw here (get_or-set_same w.runs w.next run no_run inside)

  run_there : (p : ℕ) → p ≢ w.next → run_in (with_run w run) p ≡ run_in w p
  run_there p other = rw here (get_or-set_other w.runs w.next p run no_run other)

  -- the number before the next place is that of the last record held
  pub repeat_same : repeats_at w run.number ≡ repeats (held_in w) run
  repeat_same = go (dec_lt w.held 1)
    where
      go : Dec (w.held < 1) → repeats_at w run.number ≡ repeats (held_in w) run
      go (yes none) = rw (held_long w, lt-leb 1 w.held none)
      go (no some) =
          let last : w.held - 1 < w.held = omega arith in
          let place : (w.next % most_held + (most_held - 1)) % most_held ≡ place_in w (w.held - 1) =
          omega (arith, keeps.inside, keeps.most) in
          rw (held_long w, place, table_filled (λ i. run_in w (place_in w i)) no_run w.held (w.held - 1) last)

  -- what is held then: n records as they are told, and the one that came behind them
  held_then : (told : ℕ → Run) (n : ℕ) → (with_run w run).held ≡ suc n
      → ((i : ℕ) → i < n
      → (place_in (with_run w run) i ≢ w.next) × (run_in w (place_in (with_run w run) i) ≡ told i))
      → place_in (with_run w run) n ≡ w.next
      → held_in (with_run w run) ≡ table told n ++ (run ∷ [])
  unfolding table
  held_then told n size before last =
      let next = with_run w run in
      ap (table (λ i. run_in next (place_in next i))) size
      ∙ ap₂ (λ l x. l ++ (x ∷ []))
      (table_same (λ i. run_in next (place_in next i)) told n
      (λ i less. run_there (place_in next i) (before i less).0 ∙ (before i less).1))
      (ap (run_in next) last ∙ run_here)

  -- a window that is not full keeps all its records
  held_more : w.held < most_held → held_in (with_run w run) ≡ held_in w ++ (run ∷ [])
  held_more h =
      let more : (with_run w run).held ≡ w.held + 1 = omega arith in
      let kept : (i : ℕ) → i < w.held → place_in (with_run w run) i ≡ place_in w i =
      λ i less. rw (more, here) (place_kept w.next w.held i keeps.inside h less) in
      held_then (λ i. run_in w (place_in w i)) w.held (omega arith)
      (λ i less. (
        λ e. place_apart w.next w.held i keeps.inside h less (sym (kept i less) ∙ e),
        ap (run_in w) (kept i less),
      ))
      (rw (more, here) (place_last w.next w.held keeps.inside h))

  -- in a full one the oldest stands at the next place
  oldest_first : w.held ≡ most_held
      → held_in w ≡ run_in w w.next ∷ table (λ i. run_in w (place_in w (i + 1))) (most_held - 1)
  oldest_first full =
      let first : place_in w 0 ≡ w.next = rw full (omega (arith, keeps.inside)) in
      ap (table (λ i. run_in w (place_in w i))) full
      ∙ table_first (λ i. run_in w (place_in w i)) (most_held - 1)
      ∙ ap (λ (r : Run). r ∷ table (λ i. run_in w (place_in w (i + 1))) (most_held - 1)) (ap (run_in w) first)

  -- and is dropped
  held_full : w.held ≡ most_held → held_in (with_run w run) ≡ drop 1 (held_in w) ++ (run ∷ [])
  held_full full =
      let as_many : (with_run w run).held ≡ most_held = omega arith in
      let moved : (i : ℕ) → place_in (with_run w run) i ≡ place_in w (i + 1) =
      λ i. rw (as_many, here, full) (place_moved w.next i keeps.inside) in
      rw (oldest_first full)
      (held_then (λ i. run_in w (place_in w (i + 1))) (most_held - 1) (omega arith)
      (λ i less. (
        λ e. place_before w.next i keeps.inside less (rw full at (sym (moved i) ∙ e)),
        ap (run_in w) (moved i),
      ))
      (rw (as_many, here) (omega (arith, keeps.inside))))

  -- so in either case what 02 says is held
  pub held_next_lem : held_in (with_run w run) ≡ with_room (held_in w) ++ (run ∷ [])
  held_next_lem = go (dec_lt w.held most_held)
    where
      go : Dec (w.held < most_held) → held_in (with_run w run) ≡ with_room (held_in w) ++ (run ∷ [])
      go (yes h) = rw (held_long w, lt-ltb w.held most_held h) (held_more h)
      go (no h) =
          let full : w.held ≡ most_held = omega (arith, keeps.most) in
          rw (held_long w, le-ltb w.held most_held (omega arith)) (held_full full)

  -- Each count then: one more for the record that came, one less for the one that left.
  abbrev Recounted : ℕ → Type 0
  Recounted q =
      afresh (held_in (with_run w run)) q + bit (misses q (marks_leaving w))
      ≡ afresh (held_in w) q + bit (misses q run.marks)

  count_more : (q : ℕ) → w.held < most_held → q < most_nodes → Recounted q
  count_more q h k =
      rw (held_more h, lt-ltb w.held most_held h, nobody_missed q k) (omega (arith, count_last q (held_in w) run))

  count_full : (q : ℕ) → w.held ≡ most_held → Recounted q
  count_full q full =
      let rest = table (λ i. run_in w (place_in w (i + 1))) (most_held - 1) in
      let not_more : most_held ≤ w.held = omega arith in
      rw (held_full full, le-ltb w.held most_held not_more, here, oldest_first full)
      (omega (arith, count_last q rest run, count_first q (run_in w w.next) rest))

  count_next : (q : ℕ) → q < most_nodes → Recounted q
  count_next q k = go (dec_lt w.held most_held)
    where
      go : Dec (w.held < most_held) → Recounted q
      go (yes h) = count_more q h k
      go (no h) = count_full q (omega (arith, keeps.most))

  pub run_keeps : Keeps (with_run w run)
  run_keeps =
      let leaving = marks_leaving w in
      record {
        runs = length-set w.runs (w.next % most_held) run ∙ keeps.runs;
        nodes = recounted_long w.missing run.marks leaving most_nodes ∙ keeps.nodes;
        inside = omega arith;
        most = omega arith;
        counts = λ q k.
            omega (
              arith,
              recounted_at w.missing run.marks leaving most_nodes q k (omega (arith, keeps.nodes)),
              keeps.counts q k,
              count_next q k,
              count_most_lem q (held_in (with_run w run)),
              held_long (with_run w run),
              bit_le (misses q leaving),
            );
      }
