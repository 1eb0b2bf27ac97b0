-- The columns mean the slots: what they say of a slot that was read is the ballot of that slot, with what it lists.
use mathlib.Core.Path.{◌≡◌, refl, ap, ap₂, ◌∙◌}
use mathlib.Core.Bool.{true, false}
use mathlib.Core.List.{List}
use mathlib.Core.Option.{Option, none, some}
use mathlib.Core.Logic.{◌≢◌}
use Prim.Native.Nat.{ℕ, zero, suc, ◌<◌, ◌≤◌}
use native.Mathlib.Omega.{arith}
use lib.ListN.{length, get_or, length-set}
use lib.Seq.{get_or-set_same, get_or-set_other}
use Rattle.wire.specs.Entry.{Entry}
use Rattle.wire.proofs.Arrays.{same_everywhere}
use Rattle.wire.proofs.Tests.{by_equality}
use Rattle.crew.specs.Parts.{most_nodes}
use Rattle.ballot.specs.Count.{gather, push}
use Rattle.ballot.specs.Ballot.{Ballot}
use Rattle.inbox.specs.declared.Columns.{Columns}
use Rattle.inbox.specs.Columns.{put, filled, slot_of, empty}

-- Columns of n slots: every column has its places, and later slots are absent.
record Shape (read : Columns) (n : ℕ) : Type 0 where
  present_long : length read.present ≡ most_nodes
  votes_long : length read.votes ≡ most_nodes
  stamps_long : length read.stamps ≡ most_nodes
  absent : (q : ℕ) → n ≤ q → get_or read.present q false ≡ false

empty_shape : Shape empty 0
empty_shape = record {
  present_long = refl;
  votes_long = refl;
  stamps_long = refl;
  absent = λ q more. same_everywhere most_nodes q false;
}

put_shape : (read : Columns) (n : ℕ) (slot : Option Ballot) → Shape read n → n < most_nodes
    → Shape (put read n slot) (suc n)
put_shape read n none shape room = record {
  present_long = shape.present_long;
  votes_long = shape.votes_long;
  stamps_long = shape.stamps_long;
  absent = λ q more. shape.absent q (omega arith);
}
put_shape read n (some m) shape room = record {
  present_long = length-set read.present n true ∙ shape.present_long;
  votes_long = length-set read.votes n m.vote ∙ shape.votes_long;
  stamps_long = length-set read.stamps n m.stamp ∙ shape.stamps_long;
  absent = λ q more.
      get_or-set_other read.present n q true false (λ e. omega arith) ∙ shape.absent q (omega arith);
}

-- These are the histories of those of the first n slots that count.
abbrev pub AreHistories : (ℕ → List Entry) → (ℕ → Option Ballot) → ℕ → Type 0
AreHistories histories slots n = (q : ℕ) (m : Ballot) → q < n → slots q ≡ some m → histories q ≡ m.entries

filled_shape : (slots : ℕ → Option Ballot) (n : ℕ) → n ≤ most_nodes → Shape (filled empty slots n) n
unfolding filled
filled_shape slots zero room = empty_shape
filled_shape slots (suc n) room =
    put_shape (filled empty slots n) n (slots n) (filled_shape slots n (omega arith)) (omega arith)

-- the slot that was put says its ballot
put_new : (histories : ℕ → List Entry) (read : Columns) (n : ℕ) → Shape read n → n < most_nodes → (slot : Option Ballot)
    → ((m : Ballot) → slot ≡ some m → histories n ≡ m.entries) → slot_of (put read n slot) histories n ≡ slot
put_new histories read n shape room none are = rw (shape.absent n (omega arith))
put_new histories read n shape room (some m) are =
    let here = get_or-set_same read.present n true false (omega (arith, shape.present_long)) in
    let vote = get_or-set_same read.votes n m.vote 0 (omega (arith, shape.votes_long)) in
    let stamp = get_or-set_same read.stamps n m.stamp 0 (omega (arith, shape.stamps_long)) in
    rw here (ap some (λ i. record { vote = vote i; stamp = stamp i; entries = are m refl i }))

-- slots before it say what they said
put_old : (histories : ℕ → List Entry) (read : Columns) (n : ℕ) (slot : Option Ballot) (q : ℕ) → q < n
    → slot_of (put read n slot) histories q ≡ slot_of read histories q
put_old histories read n none q less = refl
put_old histories read n (some m) q less =
    let other : q ≢ n = (λ e. omega arith) in
    rw (
      get_or-set_other read.present n q true false other,
      get_or-set_other read.votes n q m.vote 0 other,
      get_or-set_other read.stamps n q m.stamp 0 other,
    )

-- what the columns say of each slot is its ballot
pub filled_mean : (slots : ℕ → Option Ballot) (histories : ℕ → List Entry) (n : ℕ) → n ≤ most_nodes
    → AreHistories histories slots n → (q : ℕ) → q < n → slot_of (filled empty slots n) histories q ≡ slots q
unfolding filled
filled_mean slots histories zero room are q less = absurd (omega arith)
filled_mean slots histories (suc n) room are q less =
    let before = filled empty slots n in
    by_equality q n
    (λ e. rw e (put_new histories before n (filled_shape slots n (omega arith)) (omega arith) (slots n)
    (λ m. are n m (omega arith))))
    (λ e.
    put_old histories before n (slots n) q (omega (arith, e))
    ∙ filled_mean slots histories n (omega arith) (λ k m earlier. are k m (omega arith)) q (omega (arith, e)))

-- ballots gathered from slots that say the same are the same
pub gather_same : (a b : ℕ → Option Ballot) (n : ℕ) → ((q : ℕ) → q < n → a q ≡ b q) → gather a n ≡ gather b n
unfolding gather
gather_same a b zero same = refl
gather_same a b (suc n) same =
    ap₂ push (same n (omega arith)) (gather_same a b n (λ q less. same q (omega arith)))
