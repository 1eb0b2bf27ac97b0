-- Selection, round 1 of a phase: document 01, 'The three rounds'; source document 000, Algorithms 5 to 7.
-- What is possible, what is backed, what is answered and, last, what a node takes.
use Rattle.std.specs.Prelude.{Bool, true, false, not, cond, ◌&&◌, ◌||◌, List, ℕ, length, ltb, eqb}
use Rattle.std.proofs.Math.Option.{Option, none, some}
use Rattle.crew.specs.declared.Crew.{Crew}
use Rattle.crew.specs.Thresholds.{Class, one, two, three, E, any_above}
use Rattle.ballot.specs.Count.{count_if}
use Rattle.ballot.specs.Ballot.{Ballot, votes, stamped, lists}
use Rattle.ballot.specs.Least.{least, least_of}

-- slot k has the vote of m, or a stamp below its own
abbrev pub supports : Ballot → Ballot → Bool
supports m k = votes m.vote k || ltb k.stamp m.stamp

-- 01: "a slot is possible if more than E slots have its vote or a stamp below its own"
unfoldable pub possible : Crew → List Ballot → Ballot → Bool
possible crew ballots m = ltb (E crew) (count_if (supports m) ballots)

-- The ballot's vote is backed; in class 3 it is backed through this ballot's stamp.
-- 01, class 1: "backed are the plans voted by more than E slots"
-- 01, class 2: "backed are votes of more than b possible slots"
-- 01, class 3: "backed is the vote v of a possible slot with stamp t where more than b slots list v at phase t"
unfoldable pub backed : Class → Crew → List Ballot → Ballot → Bool
backed one crew ballots m = ltb (E crew) (count_if (votes m.vote) ballots)
backed two crew ballots m = ltb crew.b (count_if (λ k. possible crew ballots k && votes m.vote k) ballots)
backed three crew ballots m =
    possible crew ballots m && ltb crew.b (count_if (lists m.vote m.stamp) ballots)

-- how many plans are backed: none, exactly one, or more
pub data Backing : Type 0 where
  nobody : Backing
  sole : ℕ → Backing
  several : Backing

-- a plan backed through several ballots counts once: the least one, and whether there is another
abbrev pub besides : (Ballot → Bool) → List Ballot → Option ℕ → Backing
besides p ballots none = nobody
besides p ballots (some v) = cond (eqb (count_if (λ m. p m && not (votes v m)) ballots) 0) (sole v) several

-- the votes of the ballots that pass a test
unfoldable pub backing : (Ballot → Bool) → List Ballot → Backing
backing p ballots = besides p ballots (least p ballots)

-- 01: "Selection answers a plan, 'any' or 'none'."; Option has the name `none`
pub data Choice : Type 0 where
  plan : ℕ → Choice
  any nothing : Choice

-- 01, class 1: "'any' if more than 2E slots count"; class 2: "if more than E + b slots count";
-- class 3: "if more than E slots have stamp 0"
unfoldable pub enough : Class → Crew → List Ballot → Bool
enough one crew ballots = ltb (any_above one crew) (length ballots)
enough two crew ballots = ltb (any_above two crew) (length ballots)
enough three crew ballots = ltb (any_above three crew) (count_if (stamped 0) ballots)

abbrev pub any_if : Bool → Choice
any_if true = any
any_if false = nothing

-- 01, classes 1 and 2: "Exactly one: that plan. Otherwise 'any' if .., else 'none'."
-- 01, class 3: "Exactly one plan: that plan. More: 'any'. None: 'any' if .., else 'none'."
abbrev pub answer : Class → Backing → Bool → Choice
answer class (sole v) many = plan v
answer class nobody many = any_if many
answer one several many = any_if many
answer two several many = any_if many
answer three several many = any

-- the answer: by the plans that are backed, and by the slots that count
unfoldable pub selection : Class → Crew → List Ballot → Choice
selection class crew ballots = answer class (backing (backed class crew ballots) ballots) (enough class crew ballots)

-- no vote has more slots than v
unfoldable pub leading : List Ballot → ℕ → Bool
leading ballots v =
    eqb (count_if (λ k. ltb (count_if (votes v) ballots) (count_if (votes k.vote) ballots)) ballots) 0

-- the vote of most slots, the least plan on a tie
unfoldable pub most_voted : List Ballot → ℕ
most_voted ballots = least_of (leading ballots) ballots

-- What a node of this crew takes for 'any'.
-- 01: "For 'any' the node takes the vote of most slots, the least plan on a tie"
unfoldable pub any_plan : Crew → List Ballot → ℕ
any_plan crew ballots = most_voted ballots

-- what a node takes on an answer, 0 for 'none'
abbrev pub taken_on : Crew → List Ballot → Choice → ℕ
taken_on crew ballots (plan v) = v
taken_on crew ballots any = any_plan crew ballots
taken_on crew ballots nothing = 0

-- the plan that a node takes from its inbox, 0 where it takes none
unfoldable pub taken : Class → Crew → List Ballot → ℕ
taken class crew ballots = taken_on crew ballots (selection class crew ballots)
