-- What functions ask and promise in several parts, each part under its name.
-- Promises of private functions: no public contract cites this file.
use Rattle.std.specs.Prelude.{ℕ, ◌+◌, ◌<◌, ◌≤◌, ◌≡◌, Bool, true, List, get_or}
use Rattle.crew.specs.declared.Crew.{Crew}
use Rattle.crew.specs.Thresholds.{one, two, E}
use Rattle.ballot.specs.Least.{lower}
use Rattle.ballot.specs.Promises.{Counted}
use Rattle.ballot.specs.Selection.{Backing, Choice, answer}
use Rattle.tally.specs.declared.counts.Plans.{Plans}
use Rattle.tally.specs.Marks.{marked, reaching, least_marked, joined, backing_marked, backing_as, least_in}

-- slots q and p are there and say the same
pub record Alike (present : List Bool) (votes stamps : List ℕ) (q p : ℕ) : Type 0 where
  pub here : marked present q ≡ true
  pub there : marked present p ≡ true
  pub vote : get_or votes p 0 ≡ get_or votes q 0
  pub stamp : get_or stamps p 0 ≡ get_or stamps q 0

-- slot r is slot q, or one before it that says the same
pub record FirstAlike (present : List Bool) (votes stamps : List ℕ) (q r : ℕ) : Type 0 where
  pub until : r ≤ q
  pub alike : r < q → Alike present votes stamps q r

-- So many slots below n pass any test whose answer each call gives: `Answers q b` says that the call at slot q may
-- answer b.
abbrev pub CountedBy : (ℕ → Bool → Type 0) → ℕ → ℕ → Type 0
CountedBy Answers n count =
    (test : ℕ → Bool) → ((q : ℕ) (b : Bool) → q < n → Answers q b → b ≡ test q) → Counted test n count

-- one plan more
pub record WithPlan (before : Plans) (plan : ℕ) (after : Plans) : Type 0 where
  pub votes : backing_as after ≡ joined (backing_as before) plan
  pub least : least_in after ≡ lower plan (least_in before)

-- the plans that the first q slots vote for, where they pass a test
pub record Holds (test : ℕ → Bool) (vote : ℕ → ℕ) (q : ℕ) (r : Plans) : Type 0 where
  pub votes : backing_as r ≡ backing_marked test vote q
  pub least : least_in r ≡ least_marked test vote q

-- the plans that slots vote for and that so many marked slots have
abbrev pub Found : List Bool → List Bool → List ℕ → ℕ → ℕ → Plans → Type 0
Found present marks votes n needed = Holds (reaching present marks votes n needed) (λ q. get_or votes q 0) n

-- 01's E; twice E and E + b have room in 16 bits
pub record Bounded (crew : Crew) (r : ℕ) : Type 0 where
  pub bound : r ≡ E crew
  pub room : r ≤ 255 + 255

-- classes 1 and 2 answer alike
pub record AnsweredAlike (votes : Backing) (slots : Bool) (r : Choice) : Type 0 where
  pub in_one : r ≡ answer one votes slots
  pub in_two : r ≡ answer two votes slots
