-- What reading tells of the bytes that were read, and the other way round: for all three kinds at once.
use mathlib.Core.Path.{◌≡◌, refl, sym, ap, ◌∙◌}
use mathlib.Core.Bool.{Bool, true, false, cond, true≢false}
use mathlib.Core.Logic.{◌≢◌}
use mathlib.Core.List.{List, []}
use Prim.Native.Nat.{ℕ, ◌+◌, ◌*◌, ◌≤◌}
use native.Mathlib.Omega.{arith}
use lib.Dec.{leb, eqb}
use lib.ListN.{length, get_or, take, drop}
use borrow.Author.Tests.{leb-true, eqb-true, eq-eqb, ne_eqb, le-leb}
use Rattle.wire.specs.Outcome.{Outcome, accepted, refused, require}
use Rattle.wire.specs.Sizes.{plan_size}
use Rattle.wire.proofs.Tests.{both_true}
use Rattle.wire.proofs.Outcomes.{refused_not_accepted, passed, same_value}
use Rattle.message.specs.Layout.{header_size, plan_place, count_place, entries_place, entry_size}
use Rattle.message.specs.Fields.{Body, selection, validation, decision, Message}
use Rattle.message.specs.Bounds.{within}
use Rattle.message.specs.Encoding.{size_of}
use Rattle.message.specs.Reading.{
  length_at,
  kind_at,
  message_with,
  selection_at,
  validation_at,
  decision_at,
  body_at,
  framed,
  is_kind,
  kind_known,
  tested,
  front_of,
  rest_of,
  all_zero,
  cleared,
  read_of,
  entries_counted,
  entries_part_of,
  count_in,
  body_as,
}
use Rattle.message.specs.Promises.{number_of, OfKind}
use Rattle.message.specs.declared.Kind.{Kind}
use Rattle.message.specs.declared.Kind.TheVariants.{Selection as Selecting, Validation as Validating}
use Rattle.message.specs.declared.Kind.TheVariants.{Decision as Deciding}
use Rattle.message.specs.declared.Body.{Body as ReadBody}
use Rattle.message.specs.declared.Body.TheVariants.{Selection, Validation, Decision}
use Rattle.message.proofs.EntryLaws.{entries_count}

-- a framed slice holds a header and the whole message
pub framed_long : (s : List ℕ) → framed s ≡ true → (header_size ≤ length s) × (length_at s ≤ length s)
framed_long s e =
    let h = both_true _ _ e in
    (leb-true _ _ (both_true _ _ h.0).0, leb-true _ _ h.1)

-- a selection's number picks a selection's body
pub kind_one : (s : List ℕ) → kind_at s ≡ 1 → body_at s ≡ selection_at s
unfolding body_at
kind_one s one = rw one

-- and of any other number than a selection's and a validation's, a decision's
pub kind_other : (s : List ℕ) → kind_at s ≢ 1 → kind_at s ≢ 2 → body_at s ≡ decision_at s
unfolding body_at
kind_other s not-one not-two = simp (ne_eqb _ _ not-one, ne_eqb _ _ not-two)

-- the kind picks the body
module _ {kind : Kind} {s : List ℕ} (is : OfKind s kind) where
  pub kind_number : (variant : Kind) → kind ≡ variant → kind_at s ≡ number_of variant
  kind_number variant e = sym is.same ∙ ap number_of e

  pub of_selection : kind ≡ Selecting → body_at s ≡ selection_at s
  of_selection one = kind_one s (kind_number Selecting one)

  pub of_validation : kind ≡ Validating → body_at s ≡ validation_at s
  unfolding body_at
  of_validation two = rw (kind_number Validating two)

  pub of_decision : kind ≡ Deciding → body_at s ≡ decision_at s
  unfolding body_at
  of_decision three = rw (kind_number Deciding three)

  -- how long a selection is, by the count that stands in it
  pub selection_size : kind ≡ Selecting → size_of (body_at s) ≡ entries_place + entry_size * get_or s count_place 0
  selection_size one = simp (of_selection one, entries_count)

-- a kind's number is known
number_known : (kind : Kind) → is_kind (number_of kind) ≡ true
number_known Selecting = refl
number_known Validating = refl
number_known Deciding = refl

pub known : {kind : Kind} {s : List ℕ} → OfKind s kind → kind_known s ≡ true
known {kind} is = rw is.same at (number_known kind)

-- a number of no kind is not a selection's
pub unknown_lem : (number : ℕ) → is_kind number ≡ false → eqb number 1 ≡ false
unknown_lem number other = ne_eqb number 1 (λ one. true≢false (rw one at other))

-- every kind has a plan after the header
pub plan_in_lem : (body : Body) → plan_place + plan_size ≤ size_of body
plan_in_lem (selection vote stamp entries) = omega arith
plan_in_lem (validation plan) = omega arith
plan_in_lem (decision vote stamp) = omega arith

-- a framed slice of the length that its kind asks for holds so many bytes
pub size_held : (s : List ℕ) → framed s ≡ true → eqb (length_at s) (size_of (body_at s)) ≡ true
    → size_of (body_at s) ≤ length s
size_held s frame size = omega (arith, (framed_long s frame).1, eqb-true (length_at s) (size_of (body_at s)) size)

-- the tests that a slice passes whose front is read to a message
pub record Passes (s : List ℕ) (m : Message) : Type 0 where
  pub is_framed : framed s ≡ true
  pub of_a_kind : kind_known s ≡ true
  pub long : length_at s ≡ size_of m.body
  pub in_bounds : within m ≡ true
  pub fields : message_with s (body_at s) ≡ m

pub front_passes : (s : List ℕ) (m : Message) → front_of s ≡ accepted m → Passes s m
unfolding front_of tested
front_passes s m e =
    let frame = passed (framed s) 10 _ e in
    let kind = passed (kind_known s) 11 _ frame.1 in
    let size = passed (eqb (length_at s) (size_of (body_at s))) 12 _ kind.1 in
    let bounds = passed (within (message_with s (body_at s))) 13 _ size.1 in
    let fields = same_value bounds.1 in
    record {
      is_framed = frame.0;
      of_a_kind = kind.0;
      long = eqb-true _ _ size.0 ∙ ap (λ (n : Message). size_of n.body) fields;
      in_bounds = ap within (sym fields) ∙ bounds.0;
      fields = fields;
    }

pub passes_front : (s : List ℕ) (m : Message) → Passes s m → front_of s ≡ accepted m
unfolding front_of tested
passes_front s m p =
    let size = eq-eqb _ _ (p.long ∙ ap (λ (n : Message). size_of n.body) (sym p.fields)) in
    let bounds = ap within p.fields ∙ p.in_bounds in
    simp (p.is_framed, p.of_a_kind, size, bounds) (ap accepted p.fields)

-- where the front of a slice is read, only the rest is left to answer
pub rest_left : (s : List ℕ) (m : Message) → front_of s ≡ accepted m
    → read_of s ≡ require (all_zero (rest_of s)) 16 (accepted m)
unfolding read_of
rest_left s m e = ap (cleared s) e

-- a front that is refused is refused with its own number, whatever follows
pub front_refused : (s : List ℕ) (number : ℕ) → front_of s ≡ refused number → read_of s ≡ refused number
unfolding read_of
front_refused s number e = ap (cleared s) e

-- a slice that is read is read at its front, and what follows is 0
pub read_front : (s : List ℕ) (m : Message) → read_of s ≡ accepted m
    → (front_of s ≡ accepted m) × (all_zero (rest_of s) ≡ true)
unfolding read_of
read_front s m e = go (front_of s) refl e
  where
    go : (o : Outcome Message) → front_of s ≡ o → cleared s o ≡ accepted m
        → (front_of s ≡ accepted m) × (all_zero (rest_of s) ≡ true)
    go (accepted k) front e =
        let rest = passed (all_zero (rest_of s)) 16 (accepted k) e in
        (front ∙ rest.1, rest.0)
    go (refused number) front e = absurd (refused_not_accepted number m e)

pub read_passes : (s : List ℕ) (m : Message) → read_of s ≡ accepted m → Passes s m
read_passes s m e = front_passes s m (read_front s m e).0

-- a message that is read lies within the slice
pub read_fits : (s : List ℕ) (m : Message) → read_of s ≡ accepted m → size_of m.body ≤ length s
read_fits s m e =
    let p = read_passes s m e in
    omega (arith, p.long, (framed_long s p.is_framed).1)

-- a message that counts no entries shows an empty part
none_shown : (s : List ℕ) → entries_counted s 0 ≡ []
none_shown s = go (leb (entries_place + entry_size * 0) (length s))
  where
    go : (room : Bool) → cond room (take 0 (drop entries_place s)) [] ≡ []
    go true = refl
    go false = refl

-- the part that is shown is that of as many entries as the message counts
pub part_shown : (s : List ℕ) (run phase : ℕ) (body : ReadBody)
    → read_of s ≡ accepted (record { run = run; phase = phase; body = body_as body s })
    → entries_counted s (count_in body) ≡ entries_part_of s (read_of s)
part_shown s run phase (Selection vote stamp count) e =
    let fits = simp entries_count at (read_fits s _ e) in
    simp (e, entries_count, le-leb _ _ fits)
part_shown s run phase (Validation plan) e = simp e (none_shown s)
part_shown s run phase (Decision vote stamp) e = simp e (none_shown s)
