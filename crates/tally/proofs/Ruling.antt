-- The three rules on the columns: which plans are backed, valid and decided, and which slots are possible, as tests of
-- slots. A plan's test holds the plan's votes against a number that is needed.
use mathlib.Core.Path.{◌≡◌, refl, sym, ap, ap₂, ◌∙◌}
use mathlib.Core.Bool.{Bool, true, false, cond, ◌&&◌}
use mathlib.Core.List.{List}
use Prim.Native.Nat.{ℕ, zero, suc, ◌+◌, ◌*◌, ◌/◌, ◌<◌, ◌≤◌, max}
use native.Mathlib.Nat.{zero-add}
use native.Mathlib.Numerals.{add-one}
use native.Mathlib.Omega.{arith}
use lib.Dec.{leb, ltb, eqb, leb-zero}
use lib.ListN.{length, get_or}
use borrow.Author.Tests.{leb-true, leb-false, ltb-true, ltb-false, le-leb, lt-leb, lt-ltb, le-ltb, ne_eqb}
use Rattle.wire.proofs.Tests.{and_true}
use Rattle.wire.specs.Entry.{Entry}
use Rattle.crew.specs.declared.Crew.{Crew}
use Rattle.crew.specs.Thresholds.{Class, one, two, three, E, valid_above}
use Rattle.ballot.specs.Count.{bit, tally, count_if}
use Rattle.ballot.specs.Ballot.{Ballot, votes, stamped, lists}
use Rattle.ballot.specs.Least.{least_of, or_zero}
use Rattle.ballot.specs.Selection.{possible, backed, backing, leading}
use Rattle.ballot.specs.Validation.{valid}
use Rattle.ballot.specs.Decision.{fresh, decides}
use Rattle.inbox.specs.declared.Columns.{Columns}
use Rattle.inbox.specs.Columns.{listed_in, ballot_from, polled}
use Rattle.tally.specs.declared.slots.Slots.{Slots}
use Rattle.tally.specs.declared.counts.Plans.{Plans}
use Rattle.tally.specs.Marks.{
  Marks,
  marked,
  voting,
  voters_of,
  is_lister,
  has_needed,
  supporters_of,
  listers_of,
  stamped_with,
  reaching,
  told,
  lowered,
  joined,
  highest,
  backing_as,
  least_in,
}
use Rattle.tally.specs.Promises.{Bounded, Found}
use Rattle.tally.proofs.Listing.{place_lists}
use Rattle.tally.proofs.Polling.{
  vote_at,
  on_slot,
  on_slot_lem,
  count_polled,
  length_polled,
  supports_polled,
  votes_polled,
  marked_polled,
  least_polled,
  backing_polled,
  told_same,
}

-- nobody passes a bound where the highest number does not
highest_within : (test : ℕ → Bool) (number : ℕ → ℕ) (bound n : ℕ)
    → eqb (tally (λ q. test q && ltb bound (number q)) n) 0 ≡ leb (highest test number n) bound
unfolding tally told
highest_within test number bound zero = sym (le-leb 0 bound (omega arith))
highest_within test number bound (suc n) =
    go (test n) (ltb bound (number n)) refl (highest_within test number bound n)
  where
    rest : ℕ
    rest = tally (λ q. test q && ltb bound (number q)) n

    lower : (h : ℕ) → number n ≤ bound → leb (max h (number n)) bound ≡ leb h bound
    lower h less = by (leb h bound) refl
      where
        by : (b : Bool) → leb h bound ≡ b → leb (max h (number n)) bound ≡ b
        by true e = le-leb _ bound (omega (arith, leb-true h bound e))
        by false e = lt-leb _ bound (omega (arith, leb-false h bound e))

    go : (here passes : Bool) → ltb bound (number n) ≡ passes → eqb rest 0 ≡ leb (highest test number n) bound
        → eqb (bit (here && passes) + rest) 0
        ≡ leb (cond here (max (highest test number n) (number n)) (highest test number n)) bound
    go false passes e same = rw (zero-add rest) same
    go true true e same =
        ne_eqb (1 + rest) 0 (λ z. omega arith)
        ∙ sym (lt-leb _ bound (omega (arith, ltb-true bound (number n) e)))
    go true false e same =
        rw (zero-add rest) (same ∙ sym (lower (highest test number n) (ltb-false bound (number n) e)))

-- twice a count passes a sum where the count passes half of it
half : (sum k : ℕ) → ltb sum (2 * k) ≡ ltb (sum / 2) k
half sum k = go (ltb (sum / 2) k) refl
  where
    go : (b : Bool) → ltb (sum / 2) k ≡ b → ltb sum (2 * k) ≡ b
    go true e = lt-ltb sum (2 * k) (omega (arith, ltb-true (sum / 2) k e))
    go false e = le-ltb sum (2 * k) (omega (arith, ltb-false (sum / 2) k e))

-- one more than so many is more than so many
more_than : (e k : ℕ) → leb (e + 1) k ≡ ltb e k
more_than e k = rw (add-one e)

module _ (read : Columns) (h : ℕ → List Entry) (n : ℕ) where
  abbrev ballots : List Ballot
  ballots = polled read h n

  -- how many slots 'any' counts
  pub counting : length ballots ≡ tally (marked read.present) n
  counting = length_polled read h n

  pub unstamped : count_if (stamped 0) ballots ≡ tally (stamped_with read.present read.stamps 0) n
  unstamped = count_polled read h n (stamped 0) _ (λ q less. refl)

  -- The plans that a test of plans singles out, where it holds their votes among the marked slots against a number.
  module _ (f : ℕ → Bool) (marks : List Bool) (needed : ℕ)
      (is : (v : ℕ) → leb needed (tally (voting marks read.votes v) n) ≡ f v) {plans : Plans}
      (found : Found read.present marks read.votes n needed plans) where
    slot : (q : ℕ) → q < n
        → reaching read.present marks read.votes n needed q ≡ on_slot read h (λ m. f m.vote) q
    slot q less =
        ap (λ b. marked read.present q && b) (is (vote_at read h q)) ∙ sym (on_slot_lem read h (λ m. f m.vote) q)

    -- the least of them is found, and whether there are none, one or more
    pub least_found : or_zero (least_in plans) ≡ least_of f ballots
    unfolding least_of
    least_found =
        ap or_zero (found.least
        ∙ told_same lowered _ _ _ (vote_at read h) n slot
        ∙ sym (least_polled read h n (λ m. f m.vote)))

    pub backing_found : backing_as plans ≡ backing (λ m. f m.vote) ballots
    backing_found =
        found.votes
        ∙ told_same joined _ _ _ (vote_at read h) n slot
        ∙ sym (backing_polled read h n (λ m. f m.vote))

  -- the slots whose votes count in a decision: in class 1 all, in the others those with the phase's stamp
  pub fresh_one : (phase : ℕ) → Marks read.present n (on_slot read h (fresh one phase))
  fresh_one phase q less = sym (on_slot_lem read h (fresh one phase) q ∙ and_true (marked read.present q))

  pub fresh_later : (second : Bool) (phase : ℕ) (marks : List Bool)
      → Marks marks n (stamped_with read.present read.stamps phase)
      → Marks marks n (on_slot read h (fresh (cond second two three) phase))
  fresh_later true phase marks are q less = are q less ∙ sym (on_slot_lem read h (fresh two phase) q)
  fresh_later false phase marks are q less = are q less ∙ sym (on_slot_lem read h (fresh three phase) q)

  -- a plan leads that has as many votes as any
  pub leading_needs : (v : ℕ)
      → leb (highest (marked read.present) (voters_of read.present read.votes n) n)
      (tally (voting read.present read.votes v) n)
      ≡ leading ballots v
  unfolding leading
  leading_needs v =
      sym (
      ap (λ k. eqb k 0)
      (count_polled read h n (λ k. ltb (count_if (votes v) ballots) (count_if (votes k.vote) ballots))
      (λ q. marked read.present q && ltb (votes_for v) (votes_for (vote_at read h q)))
      (λ q less. ap₂ (λ a b. marked read.present q && ltb a b)
      (votes_polled read h n v) (votes_polled read h n (vote_at read h q))))
      ∙ highest_within (marked read.present) (λ q. votes_for (vote_at read h q)) (votes_for v) n
      )
    where
      votes_for : ℕ → ℕ
      votes_for v = tally (voting read.present read.votes v) n

  -- the rules of a crew
  module _ (crew : Crew) where
    pub valid_needs : (v : ℕ) → leb (valid_above crew / 2 + 1) (tally (voting read.present read.votes v) n)
        ≡ valid crew ballots v
    unfolding valid
    valid_needs v =
        more_than (valid_above crew / 2) _
        ∙ ap (ltb (valid_above crew / 2)) (sym (votes_polled read h n v))
        ∙ sym (half (valid_above crew) _)

    pub decides_needs : (class : Class) (phase : ℕ) (marks : List Bool)
        → Marks marks n (on_slot read h (fresh class phase))
        → (v : ℕ) → leb crew.d (tally (voting marks read.votes v) n) ≡ decides class crew phase ballots v
    unfolding decides
    decides_needs class phase marks are v =
        ap (leb crew.d) (sym (marked_polled read h n v (fresh class phase) marks are))

    -- with 01's E
    module _ {e : ℕ} (bounded : Bounded crew e) where
      pub one_needs : (v : ℕ) → leb (e + 1) (tally (voting read.present read.votes v) n)
          ≡ ltb (E crew) (count_if (votes v) ballots)
      one_needs v = more_than e _ ∙ ap₂ ltb bounded.bound (sym (votes_polled read h n v))

      -- what a possible slot needs is told by as many supporters
      supported : (q : ℕ) → leb (e + 1) (supporters_of read.present read.votes read.stamps n q)
          ≡ possible crew ballots (ballot_from read h q)
      unfolding possible
      supported q =
          more_than e _
          ∙ ap₂ ltb bounded.bound (sym (supports_polled read h n (vote_at read h q) (get_or read.stamps q 0)))

      pub two_needs : (marks : List Bool) → Marks marks n (on_slot read h (possible crew ballots))
          → (v : ℕ) → leb (crew.b + 1) (tally (voting marks read.votes v) n)
          ≡ ltb crew.b (count_if (λ k. possible crew ballots k && votes v k) ballots)
      two_needs marks are v =
          more_than crew.b _ ∙ ap (ltb crew.b) (sym (marked_polled read h n v (possible crew ballots) marks are))

-- In class 2 marks single out the possible slots: none of them needs a lister.
pub possible_marks : (read : Columns) (h : ℕ → List Entry) (slots : Slots) (crew : Crew) {e : ℕ} → Bounded crew e
    → (histories : List ℕ) (phases : ℕ) (marks : List Bool)
    → Marks marks slots.count (has_needed read.present read.votes read.stamps histories
    (record { slots = slots; phases = phases; supporters = e + 1; listers = 0 }))
    → Marks marks slots.count (on_slot read h (possible crew (polled read h slots.count)))
possible_marks read h slots crew bounded histories phases marks are q less =
    let n = slots.count in
    are q less
    ∙ ap₂ (λ a b. marked read.present q && (a && b)) (supported read h n crew bounded q)
    (leb-zero (listers_of read.present read.votes read.stamps histories phases n q))
    ∙ ap (λ b. marked read.present q && b) (and_true _)
    ∙ sym (on_slot_lem read h (possible crew (polled read h n)) q)

-- In class 3 the histories are those of the flat array, and marks single out the slots that back their vote.
module _ (read : Columns) (histories : List ℕ) (slots : Slots) (phases : ℕ) (crew : Crew) {e : ℕ}
    (bounded : Bounded crew e) where
  abbrev h : ℕ → List Entry
  h = listed_in histories phases

  abbrev n : ℕ
  n = slots.count

  listed : (q : ℕ)
      → leb (crew.b + 1) (listers_of read.present read.votes read.stamps histories phases n q)
      ≡ ltb crew.b (count_if (lists (vote_at read h q) (get_or read.stamps q 0)) (polled read h n))
  listed q =
      more_than crew.b _
      ∙ ap (ltb crew.b) (sym (count_polled read h n (lists (vote_at read h q) (get_or read.stamps q 0))
      (is_lister read.present histories phases (vote_at read h q) (get_or read.stamps q 0))
      (λ k less. ap (λ b. marked read.present k && b)
      (place_lists read histories phases (vote_at read h q) (get_or read.stamps q 0) k))))

  pub three_marks : {b : ℕ} → b ≡ crew.b → (marks : List Bool)
      → Marks marks n (has_needed read.present read.votes read.stamps histories
      (record { slots = slots; phases = phases; supporters = e + 1; listers = b + 1 }))
      → Marks marks n (on_slot read h (backed three crew (polled read h n)))
  unfolding backed
  three_marks is marks are q less =
      are q less
      ∙ ap₂ (λ a b. marked read.present q && (a && b)) (supported read h n crew bounded q)
      (ap (λ b. leb (b + 1) (listers_of read.present read.votes read.stamps histories phases n q)) is ∙ listed q)
      ∙ sym (on_slot_lem read h (backed three crew (polled read h n)) q)
