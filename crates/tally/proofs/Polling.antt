-- The ballots of the columns, counted: a count of ballots is a tally of marked slots, and so is every rule made of
-- counts.
use mathlib.Core.Path.{◌≡◌, refl, sym, ap, ap₂, ◌∙◌}
use mathlib.Core.Bool.{Bool, true, false, not, cond, ◌&&◌, ◌||◌, and_assoc}
use mathlib.Core.List.{List}
use mathlib.Core.Option.{Option, none, some}
use Prim.Native.Nat.{ℕ, zero, suc, ◌<◌}
use native.Mathlib.Omega.{arith}
use lib.Dec.{ltb}
use lib.ListN.{length, get_or}
use Rattle.wire.proofs.Tests.{and_true}
use Rattle.wire.specs.Entry.{Entry}
use Rattle.ballot.specs.Count.{tally, count_if, gather, push, holds}
use Rattle.ballot.specs.Ballot.{Ballot, votes}
use Rattle.ballot.specs.Least.{lower, least}
use Rattle.ballot.specs.Selection.{besides, backing}
use Rattle.ballot.proofs.Counting.{tally_same, count_gather, length_count}
use Rattle.inbox.specs.declared.Columns.{Columns}
use Rattle.inbox.specs.Columns.{ballot_from, slot_of, polled}
use Rattle.tally.specs.Marks.{Marks, marked, voting, supporting, told, least_marked, backing_marked}
use Rattle.tally.proofs.Backings.{beside_it, besides_marked, backing_told}

module _ (read : Columns) (h : ℕ → List Entry) where
  abbrev pub vote_at : ℕ → ℕ
  vote_at q = get_or read.votes q 0

  -- a test of ballots, on a slot: a slot that is absent passes none
  abbrev pub on_slot : (Ballot → Bool) → ℕ → Bool
  on_slot p q = holds p (slot_of read h q)

  pub on_slot_lem : (p : Ballot → Bool) (q : ℕ) → on_slot p q ≡ (marked read.present q && p (ballot_from read h q))
  on_slot_lem p q = go (marked read.present q)
    where
      go : (b : Bool) → holds p (cond b (some (ballot_from read h q)) none) ≡ (b && p (ballot_from read h q))
      go true = refl
      go false = refl

  -- a count of ballots is a tally of slots
  pub count_polled : (n : ℕ) (p : Ballot → Bool) (test : ℕ → Bool)
      → ((q : ℕ) → q < n → (marked read.present q && p (ballot_from read h q)) ≡ test q)
      → count_if p (polled read h n) ≡ tally test n
  count_polled n p test same =
      count_gather p (slot_of read h) n ∙ tally_same (on_slot p) test n (λ q less. on_slot_lem p q ∙ same q less)

  pub length_polled : (n : ℕ) → length (polled read h n) ≡ tally (marked read.present) n
  length_polled n =
      length_count (polled read h n) ∙ count_polled n (λ m. true) (marked read.present)
      (λ q less. and_true (marked read.present q))

  -- votes and stamps among the slots that are present
  pub supports_polled : (n vote below : ℕ)
      → count_if (λ k. votes vote k || ltb k.stamp below) (polled read h n)
      ≡ tally (supporting read.present read.votes read.stamps vote below) n
  supports_polled n vote below = count_polled n (λ k. votes vote k || ltb k.stamp below) _ (λ q less. refl)

  pub votes_polled : (n vote : ℕ)
      → count_if (votes vote) (polled read h n) ≡ tally (voting read.present read.votes vote) n
  votes_polled n vote = count_polled n (votes vote) _ (λ q less. refl)

  -- votes among the slots that pass a test, which marks single out
  pub marked_polled : (n vote : ℕ) (p : Ballot → Bool) (marks : List Bool) → Marks marks n (on_slot p)
      → count_if (λ k. p k && votes vote k) (polled read h n) ≡ tally (voting marks read.votes vote) n
  marked_polled n vote p marks are =
      count_polled n (λ k. p k && votes vote k) _
      (λ q less.
      sym (and_assoc (marked read.present q) (p (ballot_from read h q)) (votes vote (ballot_from read h q)))
      ∙ ap (λ b. b && votes vote (ballot_from read h q)) (sym (are q less ∙ on_slot_lem p q)))

  -- the least vote of the ballots that pass a test
  pub least_polled : (n : ℕ) (p : Ballot → Bool) → least p (polled read h n) ≡ least_marked (on_slot p) vote_at n
  unfolding gather least told
  least_polled zero p = refl
  least_polled (suc n) p =
      go (marked read.present n) ∙ ap (λ o. cond (on_slot p n) (lower (vote_at n) o) o) (least_polled n p)
    where
      go : (b : Bool) → least p (push (cond b (some (ballot_from read h n)) none) (polled read h n))
          ≡ cond (holds p (cond b (some (ballot_from read h n)) none)) (lower (vote_at n) (least p (polled read h n)))
          (least p (polled read h n))
      go true = refl
      go false = refl

  -- which votes the ballots that pass a test have
  pub backing_polled : (n : ℕ) (p : Ballot → Bool) → backing p (polled read h n) ≡ backing_marked (on_slot p) vote_at n
  unfolding backing
  backing_polled n p =
      ap (besides p (polled read h n)) (least_polled n p)
      ∙ go (least_marked (on_slot p) vote_at n)
      ∙ backing_told (on_slot p) vote_at n
    where
      others : (v : ℕ) → count_if (λ m. p m && not (votes v m)) (polled read h n)
          ≡ tally (beside_it (on_slot p) vote_at v) n
      others v =
          count_polled n (λ m. p m && not (votes v m)) _
          (λ q less.
          sym (and_assoc (marked read.present q) (p (ballot_from read h q)) (not (votes v (ballot_from read h q))))
          ∙ ap (λ b. b && not (votes v (ballot_from read h q))) (sym (on_slot_lem p q)))

      go : (o : Option ℕ) → besides p (polled read h n) o ≡ besides_marked (on_slot p) vote_at n o
      go none = refl
      go (some v) = rw (others v)

-- tests that agree below n tell the same
pub told_same : {S : Type 0} (more : S → ℕ → S) (start : S) (a b : ℕ → Bool) (value : ℕ → ℕ) (n : ℕ)
    → ((q : ℕ) → q < n → a q ≡ b q) → told more start a value n ≡ told more start b value n
unfolding told
told_same more start a b value zero same = refl
told_same more start a b value (suc n) same =
    ap₂ (λ here s. cond here (more s (value n)) s) (same n (omega arith))
    (told_same more start a b value n (λ q less. same q (omega arith)))
