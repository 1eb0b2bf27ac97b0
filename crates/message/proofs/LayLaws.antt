-- What laying entries into a row goes by: from the last entry back, each before the one that was laid last.
use mathlib.Core.Path.{◌≡◌, refl, sym, ap, ◌∙◌}
use mathlib.Core.Bool.{true, false, ◌&&◌}
use mathlib.Core.List.{List, [], ◌∷◌}
use Prim.Native.Nat.{ℕ, zero, suc, ◌+◌, ◌*◌, ◌-◌, ◌≤◌, ◌<◌}
use native.Mathlib.Nat.{sub-zero, sub_self}
use native.Mathlib.Omega.{arith}
use native.Mathlib.Decide.{dec_lt}
use lib.Dec.{leb-zero}
use lib.ListN.{drop}
use borrow.Author.Tests.{le-leb, lt-leb, lt-ltb, le-ltb, ltb-true}
use Rattle.std.specs.Prelude.{Some, None}
use Rattle.wire.specs.Entry.{Entry}
use Rattle.wire.proofs.Tests.{and_false, and_true, both_true}
use Rattle.message.specs.Layout.{entries_place, entry_size}
use Rattle.message.specs.Bounds.{entries_ok}
use Rattle.message.specs.Reading.{entries_in, entry_in_slice}
use Rattle.message.specs.Laying.{row_with, kept_of}
use Rattle.message.specs.Promises.{keeps_before, LaidEntry, LaidEntries}
use Rattle.message.proofs.EntryLaws.{entries_next, keeps_told, breaks_told}

-- the phase that an entry before these must be before: that of the first, or the message's where there is none
abbrev first : ℕ → List Entry → ℕ
first phase [] = phase
first phase (e ∷ es) = e.phase

-- entries keep their bounds where those after the first do, and the first is before them and has a plan
one_before : (phase : ℕ) (e : Entry) (es : List Entry)
    → entries_ok 0 phase (e ∷ es) ≡ (keeps_before (first phase es) e && entries_ok 0 phase es)
unfolding entries_ok
one_before phase e [] = simp leb-zero
one_before phase e (f ∷ es) = elim (dec_lt e.phase f.phase) [
  | yes rises ↦ elim (dec_lt f.phase phase) [
    | yes early ↦ simp (
      leb-zero,
      lt-ltb _ _ rises,
      lt-ltb _ _ early,
      lt-ltb e.phase phase (omega arith),
      le-leb (e.phase + 1) f.phase (omega arith),
    )
    | no late ↦ simp (le-ltb f.phase phase (omega arith), and_false)
  ]
  | no falls ↦ simp (
    le-ltb e.phase f.phase (omega arith),
    lt-leb (e.phase + 1) f.phase (omega arith),
    and_false,
  )
]

-- the least phase that the first entry may have is its own
own_least : (phase : ℕ) (e : Entry) (es : List Entry) → entries_ok e.phase phase (e ∷ es) ≡ entries_ok 0 phase (e ∷ es)
unfolding entries_ok
own_least phase e es = simp (le-leb e.phase e.phase (omega arith), leb-zero)

-- entries that keep their bounds are all laid
pub all_kept : (phase : ℕ) (es : List Entry) → entries_ok 0 phase es ≡ true → kept_of phase es ≡ es
unfolding kept_of
all_kept phase [] ok = refl
all_kept phase (e ∷ es) ok = simp (own_least, ok)

-- before an entry that breaks a bound no other is laid
none_kept : (phase : ℕ) (e : Entry) (es : List Entry) → entries_ok 0 phase (e ∷ es) ≡ false
    → kept_of phase (e ∷ es) ≡ kept_of phase es
unfolding kept_of
none_kept phase e es breaks = simp (own_least, breaks)

-- the entries of a slice from entry i on
abbrev from : (s : List ℕ) → (count i : ℕ) → List Entry
from s count i = entries_in (count - i) (drop (entries_place + entry_size * i) s)

-- one more of them
from_before : (s : List ℕ) (count i : ℕ) → i < count → from s count i ≡ entry_in_slice s i ∷ from s count (suc i)
from_before s count i more =
    let some : count - i ≡ suc (count - suc i) = omega arith in
    let next : entries_place + entry_size * suc i ≡ entries_place + entry_size * i + entry_size = omega arith in
    rw (some, next) (entries_next (count - suc i) (entries_place + entry_size * i) s)

-- where the entries from i on break a bound, entry i is not laid
not_laid : (s : List ℕ) (count phase i : ℕ) → i < count → entries_ok 0 phase (from s count i) ≡ false
    → kept_of phase (from s count i) ≡ kept_of phase (from s count (suc i))
not_laid s count phase i more breaks =
    let one = from_before s count i more in
    ap (kept_of phase) one ∙ none_kept phase _ _ (ap (entries_ok 0 phase) (sym one) ∙ breaks)

-- nor is any before it, and all entries break a bound
all_break : (s : List ℕ) (count phase i : ℕ) → i < count → entries_ok 0 phase (from s count i) ≡ false
    → (entries_ok 0 phase (from s count 0) ≡ false)
    × (kept_of phase (from s count 0) ≡ kept_of phase (from s count (suc i)))
all_break s count phase zero more breaks = (breaks, not_laid s count phase 0 more breaks)
all_break s count phase (suc i) more breaks =
    let one = from_before s count i (omega arith) in
    let earlier : entries_ok 0 phase (from s count i) ≡ false = rw (one, one_before) (simp (breaks, and_false)) in
    let all = all_break s count phase i (omega arith) earlier in
    (all.0, all.1 ∙ not_laid s count phase (suc i) more breaks)

-- While entries are laid, back from the last of `count` to entry i: those from i on keep their bounds and are in the
-- row, and `before` is the phase that the one before them must be before.
pub record Laying (s : List ℕ) (count phase : ℕ) (row : List ℕ) (i before : ℕ) (now : List ℕ) : Type 0 where
  pub place : i ≤ count
  pub early : before ≤ phase
  pub next : before ≡ first phase (from s count i)
  pub ok : entries_ok 0 phase (from s count i) ≡ true
  pub lays : now ≡ row_with row (from s count i)

-- at first none is
pub none_laid : (s : List ℕ) (count phase : ℕ) (row : List ℕ) → Laying s count phase row count phase row
unfolding entries_in entries_ok row_with
none_laid s count phase row = record {
  place = omega arith;
  early = omega arith;
  next = rw (sub_self count);
  ok = rw (sub_self count);
  lays = rw (sub_self count);
}

-- with no entry before them, all are
pub all_laid : {s : List ℕ} {count phase before : ℕ} {row now : List ℕ} → Laying s count phase row 0 before now
    → LaidEntries (entries_in count (drop entries_place s)) phase row (Some before) now
all_laid {s} {count} {phase} {before} {row} l =
    let ok = rw (sub-zero count) at l.ok in
    let lays = rw (sub-zero count) at l.lays in
    record { answer = sym ok; lays = lays ∙ ap (row_with row) (sym (all_kept phase _ ok)) }

module _ {s : List ℕ} {count phase : ℕ} {row : List ℕ} {i before : ℕ} {now : List ℕ}
    (l : Laying s count phase row i before now) (j : ℕ) (one : i ≡ suc j) where
  abbrev e : Entry
  e = entry_in_slice s j

  next_from : from s count j ≡ e ∷ from s count i
  next_from = rw one (from_before s count j (omega (arith, l.place)))

  -- whether the entries from this one on keep their bounds is whether it does by itself
  step : entries_ok 0 phase (from s count j) ≡ keeps_before before e
  step =
      ap (entries_ok 0 phase) next_from
      ∙ one_before phase e (from s count i)
      ∙ simp (← l.next, l.ok, and_true)

  -- an entry that keeps its bounds is one more
  pub entry_laid : {told : ℕ} {after : List ℕ} → LaidEntry (entry_in_slice s j) before now (Some told) after
      → Laying s count phase row j told after
  unfolding row_with
  entry_laid entry =
      let keeps = keeps_told (keeps_before before e) e.phase entry.answer in
      let lays = simp keeps.0 at entry.lays in
      record {
        place = omega (arith, l.place);
        early = omega (arith, keeps.1, ltb-true e.phase before (both_true _ _ keeps.0).0, l.early);
        next = keeps.1 ∙ ap (first phase) (sym next_from);
        ok = step ∙ keeps.0;
        lays = rw (next_from, ← l.lays) lays;
      }

  -- one that breaks a bound settles the answer, and the row stays as it is
  pub entry_stops : {after : List ℕ} → LaidEntry (entry_in_slice s j) before now None after
      → LaidEntries (entries_in count (drop entries_place s)) phase row None after
  entry_stops entry =
      let breaks = breaks_told (keeps_before before e) e.phase entry.answer in
      let all = rw (sub-zero count) at (all_break s count phase j (omega (arith, l.place)) (step ∙ breaks)) in
      let kept = all.1 ∙ rw one at (all_kept phase (from s count i) l.ok) in
      let same = simp breaks at entry.lays ∙ l.lays in
      record { answer = sym all.0; lays = same ∙ rw one (ap (row_with row) (sym kept)) }
