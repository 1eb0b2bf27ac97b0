-- A row of the histories: entries that are laid into an empty row are listed from it again.
use mathlib.Core.Path.{◌≡◌, refl, sym, ◌∙◌}
use mathlib.Core.Bool.{Bool, true, false, cond, ◌&&◌}
use mathlib.Core.List.{List, [], ◌∷◌}
use Prim.Native.Nat.{ℕ, zero, suc, ◌+◌, ◌<◌, ◌≤◌}
use native.Mathlib.Omega.{arith}
use lib.Dec.{leb}
use lib.ListN.{length, get_or, set, length-set}
use lib.Seq.{get_or-set_same, get_or-set_other}
use Rattle.wire.specs.Entry.{Entry, entries_from}
use Rattle.wire.proofs.Tests.{by_equality}
use Rattle.message.specs.Bounds.{entries_ok}
use Rattle.message.specs.Laying.{row_with, kept_of, entries_at, is_selection, row_after}
use Rattle.message.specs.declared.Header.{Header}
use Rattle.inbox.proofs.Rising.{first_kept, from_next}

-- a row keeps its places
laid_length : (row : List ℕ) (es : List Entry) → length (row_with row es) ≡ length row
unfolding row_with
laid_length row [] = refl
laid_length row (e ∷ es) = length-set (row_with row es) e.phase e.plan ∙ laid_length row es

pub row_length : (coming : Header) (slot row : List ℕ) → length (row_after coming slot row) ≡ length row
unfolding row_after
row_length coming slot row =
    go (kept_of coming.phase (entries_at slot)) (is_selection coming slot && leb coming.phase (length row))
  where
    go : (es : List Entry) (lays : Bool) → length (cond lays (row_with row es) row) ≡ length row
    go es true = laid_length row es
    go es false = refl

-- entries from a phase on leave the places of the phases before it as they were
laid_before : (least phase place : ℕ) (row : List ℕ) (es : List Entry) → entries_ok least phase es ≡ true
    → place < least → get_or (row_with row es) place 0 ≡ get_or row place 0
unfolding row_with
laid_before least phase place row [] ok less = refl
laid_before least phase place row (e ∷ es) ok less =
    let r = first_kept least phase e es ok in
    get_or-set_other (row_with row es) e.phase place e.plan 0 (λ same. omega (arith, r.from))
    ∙ laid_before (e.phase + 1) phase place row es r.rest (omega (arith, r.from))

-- a listing does not look at the places before its first phase
listed_after : (row : List ℕ) (place plan from count : ℕ) → place < from
    → entries_from (set row place plan) from count ≡ entries_from row from count
unfolding entries_from
listed_after row place plan from zero less = refl
listed_after row place plan from (suc count) less =
    rw (
      get_or-set_other row place from plan 0 (λ same. omega arith),
      listed_after row place plan (from + 1) count (omega arith),
    )

-- Entries that rise from a phase on, laid into an empty row, are listed from that phase on.
pub listed_laid : (least count phase : ℕ) (row : List ℕ) (es : List Entry) → least + count ≡ phase
    → phase ≤ length row → entries_ok least phase es ≡ true
    → ((place : ℕ) → place < phase → get_or row place 0 ≡ 0)
    → entries_from (row_with row es) least count ≡ es
unfolding entries_from row_with entries_ok
listed_laid least zero phase row [] sum long ok clear = refl
listed_laid least zero phase row (e ∷ es) sum long ok clear =
    let r = first_kept least phase e es ok in
    absurd (omega (arith, r.from, r.below))
listed_laid least (suc count) phase row [] sum long ok clear =
    rw (clear least (omega arith)) (listed_laid (least + 1) count phase row [] (omega arith) long ok clear)
listed_laid least (suc count) phase row (e ∷ es) sum long ok clear =
    let r = first_kept least phase e es ok in
    by_equality e.phase least
    (λ same.
    let here : get_or (set (row_with row es) e.phase e.plan) least 0 ≡ e.plan =
    rw (sym same) (get_or-set_same (row_with row es) e.phase e.plan 0
    (omega (arith, r.below, laid_length row es))) in
    let others : entries_from (set (row_with row es) e.phase e.plan) (least + 1) count ≡ es =
    listed_after (row_with row es) e.phase e.plan (least + 1) count (omega arith)
    ∙ listed_laid (least + 1) count phase row es (omega arith) long (rw same at r.rest) clear in
    rw (here, r.full, others, sym same))
    (λ other.
    let nothing = laid_before (least + 1) phase least row (e ∷ es) (from_next least phase e es ok other) (omega arith)
    ∙ clear least (omega arith) in
    rw nothing
    (listed_laid (least + 1) count phase row (e ∷ es) (omega arith) long (from_next least phase e es ok other) clear))
