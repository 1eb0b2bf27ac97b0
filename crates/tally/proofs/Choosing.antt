-- Selection from what is found: the plans that are backed, and whether enough slots count for 'any', make selection's
-- answer.
use mathlib.Core.Path.{◌≡◌, refl, sym, ap₂, ◌∙◌}
use mathlib.Core.Bool.{Bool, true, false, ◌&&◌}
use mathlib.Core.List.{List}
use Prim.Native.Nat.{ℕ, ◌+◌, ◌*◌, ◌<◌}
use lib.Dec.{T, leb, ltb}
use lib.ListN.{get_or}
use borrow.Author.Tests.{le-leb, eq-eqb}
use Rattle.wire.specs.Entry.{Entry}
use Rattle.crew.specs.declared.Crew.{Crew}
use Rattle.crew.specs.Thresholds.{Class, one, two, three, E}
use Rattle.ballot.specs.Count.{count_if}
use Rattle.ballot.specs.Ballot.{Ballot, votes}
use Rattle.ballot.specs.Selection.{Choice, possible, backed, backing, enough, answer, selection}
use Rattle.ballot.proofs.Counting.{tally_has}
use Rattle.inbox.specs.declared.Columns.{Columns}
use Rattle.inbox.specs.Columns.{polled}
use Rattle.tally.specs.declared.counts.Plans.{Plans}
use Rattle.tally.specs.Marks.{
  Marks,
  marked,
  voting,
  voters_of,
  stamped_with,
  reaching,
  joined,
  backing_as,
}
use Rattle.ballot.specs.Promises.{Counted}
use Rattle.tally.specs.Promises.{Bounded, Found}
use Rattle.tally.proofs.Polling.{vote_at, on_slot, backing_polled, told_same}
use Rattle.tally.proofs.Ruling.{counting, unstamped, backing_found, one_needs, two_needs}

-- a marked slot has at least its own vote
own_vote : (marks : List Bool) (votes : List ℕ) (n q : ℕ) → q < n → reaching marks marks votes n 1 q ≡ marked marks q
own_vote marks votes n q less = go (marked marks q) refl
  where
    itself : marked marks q ≡ true → T (voting marks votes (get_or votes q 0) q)
    itself e = rw (e, eq-eqb (get_or votes q 0) (get_or votes q 0) refl) tt

    go : (b : Bool) → marked marks q ≡ b → (b && leb 1 (voters_of marks votes n q)) ≡ b
    go true e = le-leb 1 _ (tally_has (voting marks votes (get_or votes q 0)) n q less (itself e))
    go false e = refl

module _ (crew : Crew) (read : Columns) (h : ℕ → List Entry) (n : ℕ) where
  abbrev ballots : List Ballot
  ballots = polled read h n

  pub selection_found : (class : Class) (plans : Plans) {slots : Bool} {choice : Choice}
      → choice ≡ answer class (backing_as plans) slots
      → backing_as plans ≡ backing (backed class crew ballots) ballots
      → slots ≡ enough class crew ballots
      → choice ≡ selection class crew ballots
  unfolding selection
  selection_found class plans is is-backed is-enough = is ∙ ap₂ (answer class) is-backed is-enough

  -- the plans that are backed, class by class
  pub backing_one : {e : ℕ} → Bounded crew e → {plans : Plans}
      → Found read.present read.present read.votes n (e + 1) plans
      → backing_as plans ≡ backing (backed one crew ballots) ballots
  unfolding backed
  backing_one bounded found =
      backing_found read h n (λ v. ltb (E crew) (count_if (votes v) ballots)) read.present _
      (one_needs read h n crew bounded) found

  pub backing_two : {e : ℕ} → Bounded crew e → (marks : List Bool)
      → Marks marks n (on_slot read h (possible crew ballots)) → {plans : Plans}
      → Found read.present marks read.votes n (crew.b + 1) plans
      → backing_as plans ≡ backing (backed two crew ballots) ballots
  unfolding backed
  backing_two bounded marks are found =
      backing_found read h n (λ v. ltb crew.b (count_if (λ k. possible crew ballots k && votes v k) ballots)) marks _
      (two_needs read h n crew bounded marks are) found

  pub backing_three : (marks : List Bool) → Marks marks n (on_slot read h (backed three crew ballots)) → {plans : Plans}
      → Found marks marks read.votes n 1 plans → backing_as plans ≡ backing (backed three crew ballots) ballots
  backing_three marks are found =
      found.votes
      ∙ told_same joined _ _ (on_slot read h (backed three crew ballots)) (vote_at read h) n
      (λ q less. own_vote marks read.votes n q less ∙ are q less)
      ∙ sym (backing_polled read h n (backed three crew ballots))

  -- whether there are enough slots for 'any', from the counts and the bound that the code goes by
  pub enough_one : {count e : ℕ} → Counted (marked read.present) n count → Bounded crew e
      → ltb (2 * e) count ≡ enough one crew (polled read h n)
  unfolding enough
  enough_one counted bounded =
      ap₂ (λ e count. ltb (2 * e) count) bounded.bound (counted.count ∙ sym (counting read h n))

  pub enough_two : {count e : ℕ} → Counted (marked read.present) n count → Bounded crew e
      → ltb (e + crew.b) count ≡ enough two crew (polled read h n)
  unfolding enough
  enough_two counted bounded =
      ap₂ (λ e count. ltb (e + crew.b) count) bounded.bound (counted.count ∙ sym (counting read h n))

  pub enough_three : {count e : ℕ} → Counted (stamped_with read.present read.stamps 0) n count → Bounded crew e
      → ltb e count ≡ enough three crew (polled read h n)
  unfolding enough
  enough_three counted bounded = ap₂ ltb bounded.bound (counted.count ∙ sym (unstamped read h n))
