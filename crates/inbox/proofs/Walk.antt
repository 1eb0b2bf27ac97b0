-- What the walk over the slots goes by: what has been read when it stands before slot q, and one slot more.
use mathlib.Core.Path.{◌≡◌, refl, ap, ap₂, ◌∙◌}
use mathlib.Core.Bool.{Bool, true, false, cond}
use mathlib.Core.List.{List, ◌++◌}
use Prim.Native.Nat.{ℕ, suc, ◌+◌, ◌*◌, ◌-◌, ◌≤◌, ◌<◌}
use native.Mathlib.Nat.{add-sub_cancel_left, mul-zero, mul-le-mul_left}
use native.Mathlib.Numerals.{add-one}
use native.Mathlib.Omega.{arith}
use lib.Dec.{leb}
use lib.ListN.{length, take, drop}
use borrow.Author.Tests.{leb-true}
use Rattle.message.specs.Layout.{slot_size}
use Rattle.message.specs.Laying.{expected_as, ExpectedFrom}
use Rattle.message.specs.Reading.{read_of}
use Rattle.message.specs.declared.Header.{Header}
use Rattle.std.specs.Prelude.{Option as Answer}
use Rattle.message.specs.declared.Body.{Body as ReadBody}
use Rattle.inbox.specs.Inbox.{slot_at, counted, ballot_in}
use Rattle.inbox.specs.declared.Columns.{Columns}
use Rattle.inbox.specs.Columns.{put, ballot_if, filled, row_width, rows_after, histories_after}
use Rattle.inbox.proofs.Counted.{expected_counts}
use Rattle.inbox.proofs.Histories.{histories_long, histories_more}

-- n rows have room in the array
width_fits : (phase n places : ℕ) → row_width phase n places * n ≤ places
width_fits phase n places = by_room (leb (phase * n) places) refl
  where
    by_room : (b : Bool) → leb (phase * n) places ≡ b → cond b phase 0 * n ≤ places
    by_room true fits = leb-true _ _ fits
    by_room false none = omega arith

-- The walk over n slots stands before slot q, whose row starts at `from`: the slots before it are in the columns and
-- the rows.
pub record Walked (coming : Header) (bytes : List ℕ) (before : Columns) (blank : List ℕ) (n width : ℕ) (read : Columns)
    (histories : List ℕ) (from q : ℕ) : Type 0 where
  pub within : q ≤ n
  pub start : from ≡ width * q
  pub room : width * n ≤ length blank
  pub size : length histories ≡ length blank
  pub said : read ≡ filled before (ballot_in coming.run coming.phase coming.kind bytes) q
  pub listed : histories ≡ histories_after coming bytes blank width q

module _ {coming : Header} {bytes : List ℕ} {before : Columns} {blank : List ℕ} {n width : ℕ} where
  -- before the first slot nothing is read
  pub walked_none : width ≡ row_width coming.phase n (length blank)
      → Walked coming bytes before blank n width before blank 0 0
  unfolding filled rows_after
  walked_none is = record {
    within = omega arith;
    start = omega arith;
    room = rw is (width_fits coming.phase n (length blank));
    size = refl;
    said = refl;
    listed = rw (mul-zero width);
  }

  module _ {read : Columns} {histories : List ℕ} {from q : ℕ}
      (walked : Walked coming bytes before blank n width read histories from q) where
    -- slot q's row is in the array
    row_inside : q < n → width * suc q ≤ length blank
    row_inside less = omega (arith, mul-le-mul_left {m = suc q} {n = n} width less)

    -- slot q and its row are lent to the reader, and what it found is put into the columns
    abbrev slot : List ℕ
    slot = take (slot_size * q + slot_size - slot_size * q) (drop (slot_size * q) bytes)

    abbrev places : ℕ
    places = from + width - from

    pub walked_more : {expected : Answer ReadBody} {row : List ℕ} {after : Columns} → q < n
        → ExpectedFrom coming slot (take places (drop from histories)) expected row
        → after ≡ put read q (ballot_if (expected_as expected slot))
        → Walked coming bytes before blank n width after
        (take from histories ++ (row ++ drop places (drop from histories))) (from + width) (q + 1)
    unfolding filled
    walked_more less found is =
        let whole : slot ≡ slot_at bytes q =
        ap (λ size. take size (drop (slot_size * q) bytes)) (add-sub_cancel_left (slot_size * q) slot_size) in
        let ballot = ap ballot_if found.answer
        ∙ expected_counts coming (read_of slot)
        ∙ ap (λ s. counted coming.run coming.phase coming.kind (read_of s)) whole in
        let inside = row_inside less in
        let array = histories_more coming bytes blank width q from histories _ walked.start inside walked.listed
        (rw whole at found.lays) in
        record {
          within = omega arith;
          start = omega arith;
          room = walked.room;
          size = ap length array ∙ histories_long coming bytes blank width (q + 1) (omega arith);
          said = rw (add-one q) (is ∙ ap₂ (λ columns said. put columns q said) walked.said ballot);
          listed = array;
        }
