-- What a slot lists, by its row in the flat array of histories: the plan that stands at the phase's place, where one
-- does.
use mathlib.Core.Path.{◌≡◌, refl, ap, ◌∙◌}
use mathlib.Core.Bool.{Bool, true, false, cond, ◌&&◌}
use mathlib.Core.List.{List, [], ◌∷◌}
use mathlib.Core.Logic.{◌≢◌}
use Prim.Native.Nat.{ℕ, zero, suc, ◌+◌, ◌*◌, ◌<◌, ◌≤◌}
use native.Mathlib.Nat.{zero-add}
use native.Mathlib.Omega.{arith}
use lib.Dec.{ltb, eqb}
use lib.ListN.{get_or, drop}
use lib.Seq.{get_or-take, get_or-drop}
use borrow.Author.Tests.{lt-ltb, le-ltb, eq-eqb, ne_eqb, ltb-true}
use Rattle.wire.proofs.Tests.{by_equality, and_false}
use Rattle.wire.specs.Entry.{entry_of, entries_from}
use Rattle.ballot.specs.Count.{bit, count_if}
use Rattle.ballot.specs.Ballot.{is_entry, lists}
use Rattle.ballot.proofs.Counting.{count_append}
use Rattle.inbox.specs.declared.Columns.{Columns}
use Rattle.inbox.specs.Columns.{row_at, listed_in, ballot_from}

module _ (row : List ℕ) (v t : ℕ) where
  -- the plan stands at the phase's place
  abbrev stands : Bool
  stands = ltb 0 v && eqb (get_or row t 0) v

  abbrev times : ℕ → ℕ → ℕ
  times from count = count_if (is_entry t v) (entries_from row from count)

  -- the entry of one phase: it is the plan at the phase, or it is nothing
  own_phase : (plan : ℕ) → count_if (is_entry t v) (entry_of t plan) ≡ bit (ltb 0 v && eqb plan v)
  unfolding count_if
  own_phase plan = by_plan (ltb 0 plan) refl
    where
      by_plan : (some : Bool) → ltb 0 plan ≡ some
          → count_if (is_entry t v) (cond some (record { phase = t; plan = plan } ∷ []) [])
          ≡ bit (ltb 0 v && eqb plan v)
      by_plan true e = by_equality plan v
          (λ same. rw (eq-eqb t t refl, ← same, e) (omega arith))
          (λ other. rw (eq-eqb t t refl, ne_eqb plan v other, and_false (ltb 0 v)) (omega arith))
      by_plan false e = by_equality plan v
          (λ same. rw (← same, e))
          (λ other. rw (ne_eqb plan v other, and_false (ltb 0 v)))

  other_phase : (from plan : ℕ) → from ≢ t → count_if (is_entry t v) (entry_of from plan) ≡ 0
  unfolding count_if
  other_phase from plan other = go (ltb 0 plan)
    where
      go : (some : Bool) → count_if (is_entry t v) (cond some (record { phase = from; plan = plan } ∷ []) []) ≡ 0
      go true = rw (ne_eqb from t other)
      go false = refl

  first_phase : (from count : ℕ) → times from (suc count)
      ≡ count_if (is_entry t v) (entry_of from (get_or row from 0)) + times (from + 1) count
  unfolding entries_from
  first_phase from count =
      count_append (is_entry t v) (entry_of from (get_or row from 0)) (entries_from row (from + 1) count)

  -- phases after it do not list it
  later_phases : (from count : ℕ) → t < from → times from count ≡ 0
  unfolding entries_from count_if
  later_phases from zero later = refl
  later_phases from (suc count) later = omega (
    arith,
    first_phase from count,
    other_phase from (get_or row from 0) (λ e. omega arith),
    later_phases (from + 1) count (omega arith),
  )

  times_listed : (from count : ℕ) → from ≤ t → times from count ≡ bit (ltb t (from + count) && stands)
  unfolding entries_from count_if
  times_listed from zero before = rw (le-ltb t (from + 0) (omega arith))
  times_listed from (suc count) before =
      by_equality from t
      (λ here.
      let all = lt-ltb t (from + suc count) (omega arith) in
      let own : count_if (is_entry t v) (entry_of from (get_or row from 0)) ≡ bit stands =
      rw here (own_phase (get_or row t 0)) in
      rw all (omega (arith, first_phase from count, own, later_phases (from + 1) count (omega arith))))
      (λ other.
      let next : from + 1 + count ≡ from + suc count = omega arith in
      let rest = rw next at (times_listed (from + 1) count (omega (arith, other))) in
      omega (arith, first_phase from count, other_phase from (get_or row from 0) other, rest))

-- the slot lists the plan at the phase where the plan stands at that place of the slot's row
pub place_lists : (read : Columns) (histories : List ℕ) (phases v t q : ℕ)
    → lists v t (ballot_from read (listed_in histories phases) q)
    ≡ ((ltb t phases && ltb 0 v) && eqb (get_or histories (phases * q + t) 0) v)
unfolding lists
place_lists read histories phases v t q =
    ap (ltb 0) (times_listed (row_at histories phases q) v t 0 phases (omega arith))
    ∙ positive (ltb t (0 + phases) && stands (row_at histories phases q) v t)
    ∙ rw (zero-add phases) (go (ltb t phases) refl)
  where
    positive : (b : Bool) → ltb 0 (bit b) ≡ b
    positive true = refl
    positive false = refl

    go : (inside : Bool) → ltb t phases ≡ inside
        → (inside && (ltb 0 v && eqb (get_or (row_at histories phases q) t 0) v))
        ≡ ((inside && ltb 0 v) && eqb (get_or histories (phases * q + t) 0) v)
    go true e =
        ap (λ plan. ltb 0 v && eqb plan v)
        (get_or-take phases (drop (phases * q) histories) t 0 (ltb-true t phases e)
        ∙ get_or-drop (phases * q) histories t 0)
    go false e = refl
