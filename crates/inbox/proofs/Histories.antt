-- The flat array of histories: the walk makes it row by row, and after it slot q's row is what reading slot q made of
-- it.
use mathlib.Core.Path.{◌≡◌, sym, ◌∙◌}
use mathlib.Core.List.{List, ◌++◌, append_assoc}
use Prim.Native.Nat.{ℕ, zero, suc, ◌+◌, ◌*◌, ◌-◌, ◌<◌, ◌≤◌}
use native.Mathlib.Nat.{add-sub_cancel_left, mul-suc}
use native.Mathlib.Numerals.{add-one}
use native.Mathlib.Omega.{arith}
use lib.ListN.{length, take, drop, length-append, length-drop}
use lib.Seq.{length-take-le, take_at, drop_at, drop-drop}
use Rattle.wire.proofs.Tests.{by_equality}
use Rattle.message.specs.Laying.{row_after}
use Rattle.message.specs.declared.Header.{Header}
use Rattle.inbox.specs.Inbox.{slot_at}
use Rattle.inbox.specs.Columns.{row_at, rows_after, histories_after}
use Rattle.inbox.proofs.Rows.{row_length}

-- a row that is in the array has all its places, before the walk and after it
pub row_long : (before : List ℕ) (width q : ℕ) → width * suc q ≤ length before → length (row_at before width q) ≡ width
row_long before width q room =
    length-take-le width (drop (width * q) before) (omega (arith, length-drop (width * q) before))

module _ (coming : Header) (bytes before : List ℕ) (width : ℕ) where
  -- slot q's row, and the rows of the first n slots, after the walk over them
  abbrev row : ℕ → List ℕ
  row q = row_after coming (slot_at bytes q) (row_at before width q)

  abbrev rows : ℕ → List ℕ
  rows n = rows_after coming bytes before width n

  abbrev histories : ℕ → List ℕ
  histories n = histories_after coming bytes before width n

  read_long : (q : ℕ) → width * suc q ≤ length before → length (row q) ≡ width
  read_long q room = row_length coming (slot_at bytes q) (row_at before width q) ∙ row_long before width q room

  rows_long : (n : ℕ) → width * n ≤ length before → length (rows n) ≡ width * n
  unfolding rows_after
  rows_long zero room = omega arith
  rows_long (suc n) room =
      omega (arith, length-append (rows n) (row n), rows_long n (omega arith), read_long n room)

  pub histories_long : (n : ℕ) → width * n ≤ length before → length (histories n) ≡ length before
  histories_long n room = omega (
    arith,
    length-append (rows n) (drop (width * n) before),
    rows_long n room,
    length-drop (width * n) before,
  )

  -- slot q's row is its own, whatever stands behind the rows
  own_row : (n q : ℕ) (rest : List ℕ) → q < n → width * n ≤ length before → row_at (rows n ++ rest) width q ≡ row q
  unfolding rows_after
  own_row zero q rest less room = absurd (omega arith)
  own_row (suc n) q rest less room =
      rw (append_assoc (rows n) (row n) rest) (by_equality q n
      (λ same. rw (same, drop_at (rows n) (row n ++ rest) (width * n) (rows_long n (omega arith)))
      (take_at (row n) rest width (read_long n room)))
      (λ other. own_row n q (row n ++ rest) (omega (arith, other)) (omega arith)))

  -- so the walk leaves in it what reading slot q made of it
  pub own_history : (n q : ℕ) → q < n → width * n ≤ length before → row_at (histories n) width q ≡ row q
  own_history n q less room = own_row n q (drop (width * n) before) less room

  -- the row of slot q is lent, and comes back as reading the slot makes it
  pub histories_more : (q from : ℕ) (now new : List ℕ) → from ≡ width * q → width * suc q ≤ length before
      → now ≡ histories q
      → new ≡ row_after coming (slot_at bytes q) (take (from + width - from) (drop from now))
      → take from now ++ (new ++ drop (from + width - from) (drop from now)) ≡ histories (q + 1)
  unfolding rows_after
  histories_more q from now new start room is came =
      let rest : List ℕ = drop (width * q) before in
      let long = rows_long q (omega arith) in
      let front : take from now ≡ rows q = rw (start, is) (take_at (rows q) rest (width * q) long) in
      let back : drop from now ≡ rest = rw (start, is) (drop_at (rows q) rest (width * q) long) in
      let places : from + width - from ≡ width = add-sub_cancel_left from width in
      let new_row : new ≡ row q = rw (back, places) at came in
      let after : drop width rest ≡ drop (width * suc q) before =
      rw (mul-suc width q) (drop-drop width (width * q) before) in
      rw (front, back, places, new_row, after, add-one q) (sym (append_assoc (rows q) (row q) _))
