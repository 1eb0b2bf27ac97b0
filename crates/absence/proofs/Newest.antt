-- One record more, or one that is refused, and the newest 100 of those that were added.
use mathlib.Core.Path.{◌≡◌, refl}
use mathlib.Core.Bool.{Bool, true, false, not, cond}
use mathlib.Core.List.{List, [], ◌∷◌, ◌++◌}
use Prim.Native.Nat.{◌+◌, ◌-◌, ◌<◌, ◌≤◌}
use native.Mathlib.Omega.{arith}
use native.Mathlib.Decide.{dec_lt}
use lib.ListN.{length, length-drop, length-append}
use lib.Seq.{drop-append-le, drop-drop, get_or-drop}
use borrow.Author.Tests.{lt-ltb, le-ltb, le-leb, lt-leb}
use Rattle.wire.specs.Outcome.{accepted, require, value_or}
use Rattle.absence.specs.declared.Run.{Run}
use Rattle.absence.specs.Held.{most_held, newest, no_run, repeats, with_room, held_with}

module _ (added : List Run) (run : Run) where
  kept_long : length (newest most_held added) ≡ length added - (length added - most_held)
  kept_long = length-drop (length added - most_held) added

  -- the last of those kept is the last of all
  newest_repeats : repeats (newest most_held added) run ≡ repeats added run
  newest_repeats = go (dec_lt (length added) 1)
    where
      go : Dec (length added < 1) → repeats (newest most_held added) run ≡ repeats added run
      go (yes none) =
          let none_kept : length (newest most_held added) < 1 = omega (arith, kept_long) in
          rw (lt-leb 1 (length added) none, lt-leb 1 (length (newest most_held added)) none_kept)
      go (no some) =
          let one : 1 ≤ length added = omega arith in
          let one_kept : 1 ≤ length (newest most_held added) = omega (arith, kept_long) in
          let last : length added - most_held + (length (newest most_held added) - 1) ≡ length added - 1 =
          omega (arith, kept_long) in
          rw (
            le-leb 1 (length added) one,
            le-leb 1 (length (newest most_held added)) one_kept,
            get_or-drop (length added - most_held) added (length (newest most_held added) - 1) no_run,
            last,
          )

  -- one record more
  abbrev With : Type 0
  With = with_room (newest most_held added) ++ (run ∷ []) ≡ newest most_held (added ++ (run ∷ []))

  -- a window that is not full holds all
  with_more : length added < most_held → With
  with_more h =
      let all : length added - most_held ≡ 0 = omega arith in
      let all_then : length (added ++ (run ∷ [])) - most_held ≡ 0 = omega (arith, length-append added (run ∷ [])) in
      rw (all, all_then, lt-ltb (length added) most_held h)

  -- and a full one drops one more
  with_full : most_held ≤ length added → With
  with_full h =
      let full : most_held ≤ length (newest most_held added) = omega (arith, kept_long) in
      let gone : length (added ++ (run ∷ [])) - most_held ≡ length added - most_held + 1 =
      omega (arith, length-append added (run ∷ [])) in
      let inside : length added - most_held + 1 ≤ length added = omega arith in
      rw (
        le-ltb (length (newest most_held added)) most_held full,
        drop-drop 1 (length added - most_held) added,
        gone,
        drop-append-le (length added - most_held + 1) added (run ∷ []) inside,
      )

  newest_with : With
  newest_with = go (dec_lt (length added) most_held)
    where
      go : Dec (length added < most_held) → With
      go (yes h) = with_more h
      go (no h) = with_full (omega arith)

  -- so in either case, and where the record is refused
  pub newest_next : value_or (newest most_held added) (held_with (newest most_held added) run)
      ≡ newest most_held (cond (repeats added run) added (added ++ (run ∷ [])))
  unfolding held_with
  newest_next = rw newest_repeats (go (repeats added run))
    where
      go : (repeated : Bool)
          → value_or (newest most_held added)
          (require (not repeated) 23 (accepted (with_room (newest most_held added) ++ (run ∷ []))))
          ≡ newest most_held (cond repeated added (added ++ (run ∷ [])))
      go true = refl
      go false = newest_with
