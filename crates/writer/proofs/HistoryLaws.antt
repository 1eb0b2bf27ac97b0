-- The entries listed from a history: that they keep their bounds, and what the loops over them go by.
use mathlib.Core.Path.{◌≡◌, refl, ap, ◌∙◌}
use mathlib.Core.Bool.{Bool, true, false, cond}
use mathlib.Core.List.{List, [], ◌∷◌, ◌++◌}
use Prim.Native.Nat.{ℕ, zero, suc, ◌+◌, ◌-◌, ◌<◌, ◌≤◌}
use native.Mathlib.Nat.{sub-zero}
use native.Mathlib.Omega.{arith}
use native.Mathlib.Numerals.{add-one}
use lib.Dec.{leb}
use lib.ListN.{length, get_or, length-append, take, drop}
use Rattle.std.specs.Prelude.{count_by, filter}
use Rattle.std.proofs.lemmas.List.Sums.{length-filter}
use Rattle.wire.specs.Plan.{plan_ok}
use lib.Seq.{sets, drop-cons}
use borrow.Author.Tests.{le-leb, lt-ltb}
use Rattle.wire.proofs.Stores.{sets_append}
use Rattle.wire.specs.Entry.{Entry, entry_of, entries_from}
use Rattle.message.specs.Bounds.{entries_ok}
use Rattle.message.specs.Encoding.{entry_bytes}
use Rattle.writer.specs.Promises.{Put}

pub entry_bytes_append : (es ks : List Entry) → entry_bytes (es ++ ks) ≡ entry_bytes es ++ entry_bytes ks
unfolding entry_bytes
entry_bytes_append [] ks = refl
entry_bytes_append (e ∷ es) ks = rw (entry_bytes_append es ks)

one_at_most : (phase plan : ℕ) → length (entry_of phase plan) ≤ 1
one_at_most phase plan = go (leb 1 plan) (record { phase = phase; plan = plan })
  where
    go : (full : Bool) (e : Entry) → length (cond full (e ∷ []) []) ≤ 1
    go true e = omega arith
    go false e = omega arith

-- of so many phases no more can have an entry
pub listed_count : (history : List ℕ) (from count : ℕ) → length (entries_from history from count) ≤ count
unfolding entries_from
listed_count history from zero = omega arith
listed_count history from (suc count) =
    let first = entry_of from (get_or history from 0) in
    let others = entries_from history (from + 1) count in
    omega (
      arith,
      length-append first others,
      one_at_most from (get_or history from 0),
      listed_count history (from + 1) count,
    )

-- there is an entry for each of the phases that has a plan
listed_plans : (history : List ℕ) (from count : ℕ) → from + count ≤ length history
    → length (entries_from history from count) ≡ length (filter plan_ok (take count (drop from history)))
unfolding entries_from
listed_plans history from zero h = refl
listed_plans history from (suc count) h =
    let here : from < length history = omega arith in
    rw (drop-cons history from 0 here, ← add-one from)
    (go (plan_ok (get_or history from 0)) (record { phase = from; plan = get_or history from 0 }) _ _ _
    (listed_plans history (from + 1) count (omega arith)))
  where
    go : (full : Bool) (e : Entry) (others : List Entry) (plan : ℕ) (plans : List ℕ) → length others ≡ length plans
        → length (cond full (e ∷ []) [] ++ others) ≡ length (cond full (plan ∷ plans) plans)
    go true e others plan plans same = ap suc same
    go false e others plan plans same = same

pub listed_counted : (history : List ℕ) (phases : ℕ) → phases ≤ length history
    → length (entries_from history 0 phases) ≡ count_by plan_ok (take phases history)
listed_counted history phases h =
    listed_plans history 0 phases (omega arith) ∙ length-filter plan_ok (take phases history)

-- an entry in front of others that keep their bounds
entry_ok : (from plan least phase : ℕ) (full : Bool) (others : List Entry) → leb 1 plan ≡ full → least ≤ from
    → from < phase
    → ((low : ℕ) → low ≤ from + 1 → entries_ok low phase others ≡ true)
    → entries_ok least phase (cond full (record { phase = from; plan = plan } ∷ []) [] ++ others) ≡ true
unfolding entries_ok
entry_ok from plan least phase true others e a b ok =
    simp (le-leb _ _ a, lt-ltb _ _ b, e, ok (from + 1) (omega arith))
entry_ok from plan least phase false others e a b ok = ok least (omega arith)

-- the entries listed keep the bounds of a message whose phase is past theirs
pub listed_ok : (history : List ℕ) (from count least phase : ℕ) → least ≤ from → from + count ≤ phase
    → entries_ok least phase (entries_from history from count) ≡ true
unfolding entries_ok entries_from
listed_ok history from zero least phase a b = refl
listed_ok history from (suc count) least phase a b =
    entry_ok from (get_or history from 0) least phase (leb 1 (get_or history from 0))
    (entries_from history (from + 1) count) refl a
    (omega arith) (λ low h. listed_ok history (from + 1) count low phase h (omega arith))

-- A turn of a loop over the phases: phase j is done, those after it are left.
module _ (history : List ℕ) (j phases : ℕ) (more : j < phases) where
  pub listed_turn : entries_from history j (phases - j)
      ≡ entry_of j (get_or history j 0) ++ entries_from history (j + 1) (phases - (j + 1))
  unfolding entries_from
  listed_turn = let left : phases - j ≡ suc (phases - (j + 1)) = omega arith in ap (entries_from history j) left

  pub bytes_turn : entry_bytes (entries_from history j (phases - j))
      ≡ entry_bytes (entry_of j (get_or history j 0)) ++ entry_bytes (entries_from history (j + 1) (phases - (j + 1)))
  bytes_turn = ap entry_bytes listed_turn ∙ entry_bytes_append (entry_of j (get_or history j 0)) _

pub listed_end : (history : List ℕ) (j phases : ℕ) → phases ≤ j → entries_from history j (phases - j) ≡ []
unfolding entries_from
listed_end history j phases h = let left : phases - j ≡ 0 = omega arith in ap (entries_from history j) left

-- While entries are put, those of the phases before this one are: the buffer is as long as it was, it has room for what
-- is left, and with that it is the buffer with the entries of all phases.
pub record Putting (buffer₀ : List ℕ) (place₀ : ℕ) (history : List ℕ) (phases : ℕ) (buffer : List ℕ) (place phase : ℕ)
    : Type 0 where
  pub early : phase ≤ phases
  pub long : length buffer ≡ length buffer₀
  pub room : place + length (entry_bytes (entries_from history phase (phases - phase))) ≤ length buffer
  pub whole : sets buffer place (entry_bytes (entries_from history phase (phases - phase)))
      ≡ sets buffer₀ place₀ (entry_bytes (entries_from history 0 phases))

pub putting_none : (buffer : List ℕ) (place : ℕ) (history : List ℕ) (phases : ℕ)
    → place + length (entry_bytes (entries_from history 0 phases)) ≤ length buffer
    → Putting buffer place history phases buffer place 0
putting_none buffer place history phases fits =
    record { early = omega arith; long = refl; room = simp sub-zero fits; whole = simp sub-zero }

module _ {buffer₀ : List ℕ} {place₀ : ℕ} {history : List ℕ} {phases : ℕ} {buffer : List ℕ} {place phase : ℕ}
    (putting : Putting buffer₀ place₀ history phases buffer place phase) where
  module _ (more : phase < phases) where
    abbrev first : List ℕ
    first = entry_bytes (entry_of phase (get_or history phase 0))

    abbrev others : List ℕ
    others = entry_bytes (entries_from history (phase + 1) (phases - (phase + 1)))

    fits : place + length first + length others ≤ length buffer
    fits = omega (arith, putting.room, length-append first others, ap length (bytes_turn history phase phases more))

    -- there is room for the entry of this phase
    pub room_here : place + length first ≤ length buffer
    room_here = omega (arith, fits)

    -- a turn of the loop puts it
    pub putting_more : {after : List ℕ} {next : ℕ}
        → Put buffer place (entry_of phase (get_or history phase 0)) after next
        → length after ≡ length buffer
        → Putting buffer₀ place₀ history phases after next (phase + 1)
    putting_more put kept = record {
      early = omega arith;
      long = kept ∙ putting.long;
      room = omega (arith, fits, kept, put.goes_on);
      whole =
          rw (put.goes_on, put.left, ← sets_append first others buffer place, ← bytes_turn history phase phases more)
          putting.whole;
    }

  -- no phase is left
  pub putting_all : phases ≤ phase → buffer ≡ sets buffer₀ place₀ (entry_bytes (entries_from history 0 phases))
  unfolding entry_bytes
  putting_all done = rw (listed_end history phase phases done) at putting.whole
