-- One turn of the loop that adds the records of a part and lays their lines.
use mathlib.Core.Path.{◌≡◌, refl, sym, ap, ◌∙◌}
use mathlib.Core.List.{List, ◌++◌}
use Prim.Native.Nat.{ℕ, suc, ◌+◌, ◌-◌, ◌*◌, ◌<◌, ◌≤◌}
use native.Mathlib.Omega.{arith}
use native.Mathlib.Nat.{sub-zero}
use lib.ListN.{get_or}
use Rattle.wire.specs.Outcome.{value_or}
use Rattle.print.specs.Texts.{WroteWithin}
use Rattle.print.proofs.Writing.{wrote_rest, Completes, wrote_none, wrote_all}
use Rattle.absence.specs.declared.Window.{Window}
use Rattle.absence.specs.declared.Run.{Run}
use Rattle.absence.specs.Ring.{add_of, window_after}
use Rattle.absence.specs.Lines.{record_at, records_in, counts_line, lines_of}
use Rattle.absence.specs.Promises.{counts_most}

-- the first record's line and window, and what comes after it
module _ (part : List ℕ) (i m : ℕ) (w next : Window) (is : value_or w (add_of w (record_at part i)) ≡ next) where
  lines_first : lines_of w (records_in part i (suc m))
      ≡ counts_line (λ q. get_or next.missing q 0) ++ lines_of next (records_in part (i + 1) m)
  unfolding lines_of records_in
  lines_first =
      ap (λ (v : Window). counts_line (λ q. get_or v.missing q 0) ++ lines_of v (records_in part (i + 1) m)) is

  window_first : window_after w (records_in part i (suc m)) ≡ window_after next (records_in part (i + 1) m)
  unfolding window_after records_in
  window_first = ap (λ (v : Window). window_after v (records_in part (i + 1) m)) is

-- The loop over n records from the window w₀ and the buffer l₀ stands before record i: what is left to be added goes on
-- to the last window, and what is left to be laid completes the lines.
pub record Laying (w₀ : Window) (part : List ℕ) (n : ℕ) (l₀ : List ℕ) (w : Window) (l : List ℕ) (at i : ℕ)
    : Type 0 where
  pub inside : i ≤ n
  pub bound : at ≤ counts_most * i
  pub window : window_after w (records_in part i (n - i)) ≡ window_after w₀ (records_in part 0 n)
  pub lines : Completes (lines_of w (records_in part i (n - i))) l at (lines_of w₀ (records_in part 0 n)) l₀ 0

module _ (w₀ : Window) (part : List ℕ) (n : ℕ) (l₀ : List ℕ) where
  pub laying_none : Laying w₀ part n l₀ w₀ l₀ 0 0
  laying_none =
      record {
        inside = omega arith;
        bound = omega arith;
        window = rw (sub-zero n);
        lines = rw (sub-zero n) (record { next = refl; left = refl });
      }

  pub laying_more : {w next : Window} {run : Run} {l l' : List ℕ} {at at' i : ℕ} → i < n
      → Laying w₀ part n l₀ w l at i → run ≡ record_at part i → next ≡ value_or w (add_of w run)
      → WroteWithin counts_most l at (counts_line (λ q. get_or next.missing q 0)) l' at'
      → Laying w₀ part n l₀ next l' at' (i + 1)
  laying_more {w} {next} {run} {l} {l'} {at} {at'} {i} h laying e is line =
      let k : n - i ≡ suc (n - (i + 1)) = omega arith in
      let same : value_or w (add_of w (record_at part i)) ≡ next =
      ap (λ (r : Run). value_or w (add_of w r)) (sym e) ∙ sym is in
      let rest = lines_of next (records_in part (i + 1) (n - (i + 1))) in
      record {
        inside = omega arith;
        bound = omega (arith, laying.bound, line.within);
        window = sym (window_first part i (n - (i + 1)) w next same) ∙ rw k at laying.window;
        lines = wrote_rest (counts_line (λ q. get_or next.missing q 0)) rest line.wrote
            (rw (k, lines_first part i (n - (i + 1)) w next same) at laying.lines);
      }

  pub laying_window : {w : Window} {l : List ℕ} {at i : ℕ} → n ≤ i → Laying w₀ part n l₀ w l at i
      → w ≡ window_after w₀ (records_in part 0 n)
  unfolding window_after records_in
  laying_window {i = i} h laying = let k : n - i ≡ 0 = omega arith in rw k at laying.window

  pub laying_lines : {w : Window} {l : List ℕ} {at i : ℕ} → n ≤ i → Laying w₀ part n l₀ w l at i
      → WroteWithin (counts_most * n) l₀ 0 (lines_of w₀ (records_in part 0 n)) l at
  unfolding lines_of records_in
  laying_lines {l = l} {at = at} {i = i} h laying =
      let k : n - i ≡ 0 = omega arith in
      record {
        wrote = wrote_all _ (lines_of w₀ (records_in part 0 n)) refl (wrote_none l at) (rw k at laying.lines);
        within = omega (arith, laying.bound, laying.inside);
      }
