-- What is read at the front of a slice is, byte for byte, what its fields are written as, and keeps the bounds. Law 2
-- of the codec, in Padded.antt, is made of it.
use mathlib.Core.Path.{◌≡◌, refl, sym, ap, ◌∙◌, subst}
use mathlib.Core.Bool.{true, ◌&&◌}
use mathlib.Core.List.{List, ◌∷◌, ◌++◌}
use mathlib.Core.Logic.{◌⊎◌, inl, inr}
use Prim.Native.Nat.{ℕ, zero, suc, ◌+◌, ◌*◌, ◌≤◌}
use native.Mathlib.Omega.{arith}
use lib.Dec.{leb}
use lib.ListN.{length, get_or, drop, length-drop}
use lib.Seq.{drop-cons, drop-drop, get_or-drop}
use borrow.Author.Tests.{leb-true}
use Rattle.wire.specs.Outcome.{accepted}
use Rattle.wire.specs.Bytes.{number_at, bytes_of, AreBytes}
use Rattle.wire.proofs.Tests.{both_true}
use Rattle.wire.proofs.Numbers.{bytes_of_number, number_small}
use Rattle.wire.specs.Sizes.{plan_size, run_size}
use Rattle.message.specs.Fields.{Body, Message}
use Rattle.message.specs.Bounds.{within, PlansFit, BodyFits, Fits}
use Rattle.message.specs.Encoding.{kind_of, size_of, entry_bytes, body_bytes, header, encode}
use Rattle.message.specs.Reading.{length_at, kind_at, message_with, entries_in, selection_at, validation_at}
use Rattle.message.specs.Reading.{decision_at, body_at, kind_known, front_of}
use Rattle.message.proofs.EntryLaws.{entries_count}
use Rattle.message.proofs.ReadLaws.{front_passes, framed_long}
use Rattle.message.specs.Layout.{length_place, kind_place, run_place, phase_place, header_size}
use Rattle.message.specs.Layout.{plan_place, stamp_place, count_place, entries_place, entry_size}

module _ (s : List ℕ) (bytes : AreBytes s) where
  -- the header's bytes are those of its fields
  header_is : header_size ≤ length s
      → s
      ≡ header (length_at s) (kind_at s) (number_at run_size s run_place) (get_or s phase_place 0)
      ++ drop header_size s
  header_is long =
      bytes_of_number 2 s length_place bytes (omega arith)
      ∙ ap (λ rest. bytes_of 2 (length_at s) ++ rest)
      (bytes_of_number 2 s kind_place bytes (omega arith)
      ∙ ap (λ rest. bytes_of 2 (kind_at s) ++ rest)
      (bytes_of_number run_size s run_place bytes (omega arith)
      ∙ ap (λ rest. bytes_of run_size (number_at run_size s run_place) ++ rest)
      (drop-cons s phase_place 0 (omega arith))))

-- the bytes of k entries are those of the entries read there
entries_are : (k : ℕ) (s : List ℕ) → AreBytes s → entry_size * k ≤ length s
    → s ≡ entry_bytes (entries_in k s) ++ drop (entry_size * k) s
unfolding entries_in entry_bytes
entries_are zero s bytes long = refl
entries_are (suc k) s bytes long =
    let rest = drop entry_size s in
    let rest-bytes : AreBytes rest = λ place. rw (get_or-drop entry_size s place 0) (bytes (entry_size + place)) in
    let rest-long : entry_size * k ≤ length rest = rw (length-drop entry_size s) (omega arith) in
    let step : entry_size * suc k ≡ entry_size + entry_size * k = omega arith in
    drop-cons s 0 0 (omega arith)
    ∙ ap (λ others. get_or s 0 0 ∷ others) (bytes_of_number plan_size s 1 bytes (omega arith))
    ∙ ap (λ others. get_or s 0 0 ∷ (bytes_of plan_size (number_at plan_size s 1) ++ others))
    (entries_are k rest rest-bytes rest-long)
    ∙ rw (drop-drop, step)

plans_fit : (k : ℕ) (s : List ℕ) → AreBytes s → PlansFit (entries_in k s)
unfolding entries_in
plans_fit zero s bytes = tt
plans_fit (suc k) s bytes =
    let rest-bytes : AreBytes (drop entry_size s) =
    λ place. rw (get_or-drop entry_size s place 0) (bytes (entry_size + place)) in
    (number_small plan_size s 1 bytes, plans_fit k (drop entry_size s) rest-bytes)

-- a kind from 1 to 3 is one of three
kind_cases : (kind : ℕ) → leb 1 kind && leb kind 3 ≡ true → (kind ≡ 1) ⊎ ((kind ≡ 2) ⊎ (kind ≡ 3))
kind_cases kind e =
    let tests = both_true (leb 1 kind) (leb kind 3) e in
    go kind (leb-true 1 kind tests.0) (leb-true kind 3 tests.1)
  where
    go : (kind : ℕ) → 1 ≤ kind → kind ≤ 3 → (kind ≡ 1) ⊎ ((kind ≡ 2) ⊎ (kind ≡ 3))
    go zero low high = absurd (omega arith)
    go (suc zero) low high = inl refl
    go (suc (suc zero)) low high = inr (inl refl)
    go (suc (suc (suc kind))) low high = inr (inr (omega arith))

module _ (s : List ℕ) (bytes : AreBytes s) (long : header_size ≤ length s) (within-slice : length_at s ≤ length s) where
  -- A body stands after the header: its kind is the header's, its length the message's.
  record Stands (body : Body) : Type 0 where
    kind : kind_at s ≡ kind_of body
    size : length_at s ≡ size_of body
    body_is : drop header_size s ≡ body_bytes body ++ drop (size_of body) s
    fits : BodyFits body

  selection_stands : kind_at s ≡ 1 → length_at s ≡ size_of (selection_at s) → Stands (selection_at s)
  selection_stands kind size =
      let k = get_or s count_place 0 in
      let count = entries_count k (drop entries_place s) in
      let rest-bytes : AreBytes (drop entries_place s) =
      λ place. rw (get_or-drop entries_place s place 0) (bytes (entries_place + place)) in
      let rest-long : entry_size * k ≤ length (drop entries_place s) = rw (length-drop entries_place s) (omega arith) in
      record {
        kind = kind;
        size = size;
        body_is =
            bytes_of_number plan_size s plan_place bytes (omega arith)
            ∙ ap (λ rest. bytes_of plan_size (number_at plan_size s plan_place) ++ rest)
            (drop-cons s stamp_place 0 (omega arith)
            ∙ ap (λ rest. get_or s stamp_place 0 ∷ rest)
            (drop-cons s count_place 0 (omega arith)
            ∙ rw count (ap (λ rest. k ∷ rest)
            (entries_are k (drop entries_place s) rest-bytes rest-long ∙ rw drop-drop))));
        fits = (number_small plan_size s plan_place bytes, plans_fit k (drop entries_place s) rest-bytes);
      }

  validation_stands : kind_at s ≡ 2 → length_at s ≡ size_of (validation_at s) → Stands (validation_at s)
  validation_stands kind size = record {
    kind = kind;
    size = size;
    body_is = bytes_of_number plan_size s plan_place bytes (omega arith);
    fits = number_small plan_size s plan_place bytes;
  }

  decision_stands : kind_at s ≡ 3 → length_at s ≡ size_of (decision_at s) → Stands (decision_at s)
  decision_stands kind size = record {
    kind = kind;
    size = size;
    body_is =
        bytes_of_number plan_size s plan_place bytes (omega arith)
        ∙ ap (λ rest. bytes_of plan_size (number_at plan_size s plan_place) ++ rest)
        (drop-cons s stamp_place 0 (omega arith));
    fits = number_small plan_size s plan_place bytes;
  }

  body_stands : kind_known s ≡ true → length_at s ≡ size_of (body_at s) → Stands (body_at s)
  unfolding body_at
  body_stands known size = elim (kind_cases (kind_at s) known) [
    | inl one ↦ go (selection_at s) (rw one) (selection_stands one)
    | inr (inl two) ↦ go (validation_at s) (rw two) (validation_stands two)
    | inr (inr three) ↦ go (decision_at s) (rw three) (decision_stands three)
  ]
    where
      go : (body : Body) → body_at s ≡ body → (length_at s ≡ size_of body → Stands body) → Stands (body_at s)
      go body is stands = rw is (stands (size ∙ ap size_of is))

  -- a body that stands there makes the slice a message and what follows it
  slice_is : (body : Body) → Stands body → s ≡ encode (message_with s body) ++ drop (size_of body) s
  unfolding encode
  slice_is body stands =
      header_is s bytes long
      ∙ rw (stands.kind, stands.size)
      (ap
      (λ rest. header (size_of body) (kind_of body) (number_at run_size s run_place) (get_or s phase_place 0) ++ rest)
      stands.body_is)

-- For every slice whose front is read to a message: the slice begins with that message's encoding, and the message
-- keeps the bounds. That the slice holds bytes is the only premise.
pub encode_of_front : (s : List ℕ) (m : Message) → AreBytes s → front_of s ≡ accepted m
    → (s ≡ encode m ++ drop (size_of m.body) s) × (within m ≡ true) × Fits m
encode_of_front s m bytes e =
    let p = front_passes s m e in
    let long = framed_long s p.is_framed in
    let size = p.long ∙ ap (λ (k : Message). size_of k.body) (sym p.fields) in
    let stands = body_stands s bytes long.0 long.1 p.of_a_kind size in
    subst (λ (k : Message). (s ≡ encode k ++ drop (size_of k.body) s) × (within k ≡ true) × Fits k) p.fields (
      slice_is s bytes long.0 long.1 (body_at s) stands,
      ap within p.fields ∙ p.in_bounds,
      (number_small run_size s run_place bytes, stands.fits),
    )
