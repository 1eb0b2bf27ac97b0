-- How a budget of current is split among shuttles: document 02, C-19. All amounts are in mA, and a shuttle's number is
-- its place in the list, from 0 on.
use Rattle.std.specs.Prelude.{ℕ, ◌+◌, ◌-◌, ◌*◌, ◌/◌, ◌%◌, ◌≡◌}
use Rattle.std.specs.Prelude.{Bool, cond, ◌&&◌, ◌||◌, List, leb, ltb, eqb, length, get_or, Result}
use Rattle.wire.specs.Outcome.{Outcome, accepted, require, verdict, value_or, outcome_of}
use Rattle.wire.specs.Below.{every_below, table}
use Rattle.ballot.specs.Count.{bit, tally}
use Rattle.current.specs.Sums.{sum}
use Rattle.current.specs.declared.SplitRefusal.{SplitRefusal}
use Rattle.current.specs.declared.SplitRefusal.TheVariants.{Count, Amount}

-- 02: "1 to 64 shuttle demands of 0 to 100,000 mA and a budget of 0 to 1,000,000 mA"
abbrev pub most_shuttles : ℕ
most_shuttles = 64

abbrev pub most_demand : ℕ
most_demand = 100000

abbrev pub most_budget : ℕ
most_budget = 1000000

-- what shuttle i has in a list of amounts; nothing where there is no such shuttle
abbrev pub amount : List ℕ → ℕ → ℕ
amount amounts i = get_or amounts i 0

-- the sum of a list of amounts; of the demands it is 02's T
abbrev pub total : List ℕ → ℕ
total amounts = sum (amount amounts) (length amounts)

-- Shuttle j goes before shuttle i where the mA left over are given out: its remainder is larger or, on a tie, its
-- number is lower.
abbrev pub ahead_of : (ℕ → ℕ) → ℕ → ℕ → Bool
ahead_of remainder i j = ltb (remainder i) (remainder j) || (eqb (remainder j) (remainder i) && ltb j i)

module _ (demands : List ℕ) (budget : ℕ) where
  -- demand × B / T, rounded down
  unfoldable pub whole_part : ℕ → ℕ
  whole_part i = amount demands i * budget / total demands

  -- what the division leaves
  unfoldable pub remainder : ℕ → ℕ
  remainder i = amount demands i * budget % total demands

  -- the mA left over: what the whole parts leave of the budget
  unfoldable pub left_over : ℕ
  left_over = budget - sum whole_part (length demands)

  -- how many shuttles go before shuttle i
  unfoldable pub rank : ℕ → ℕ
  rank i = tally (ahead_of remainder i) (length demands)

  -- one each, as far as they go: shuttle i gets one where fewer shuttles go before it than mA are left over
  abbrev pub gets_one : ℕ → Bool
  gets_one i = ltb (rank i) left_over

  -- 02: "if the demands' sum T is at most the budget B, each gets its demand. Otherwise each gets demand × B / T
  -- rounded down, and the mA left over go one each to the largest remainders, lower shuttle number on a tie."
  unfoldable pub share : ℕ → ℕ
  share i = cond (leb (total demands) budget) (amount demands i) (whole_part i + bit (gets_one i))

  unfoldable pub shares_of : List ℕ
  shares_of = table share (length demands)

-- 1 to 64 demands, and as many shares
abbrev pub right_count : ℕ → ℕ → Bool
right_count count room = leb 1 count && leb count most_shuttles && eqb room count

-- every demand in its range, and the budget
abbrev pub in_range : List ℕ → ℕ → Bool
in_range demands budget =
    every_below (λ i. leb (amount demands i) most_demand) (length demands) && leb budget most_budget

-- A split of a budget among demands, into a buffer of so many shares.
-- 02: "It refuses with 18 a count outside 1 to 64 or a share buffer of another length, then with 19 a number out of
-- range, writing nothing."
unfoldable pub split_of : List ℕ → ℕ → ℕ → Outcome (List ℕ)
split_of demands budget room =
    require (right_count (length demands) room) 18
    (require (in_range demands budget) 19
    (accepted (shares_of demands budget)))

-- 02's number of each refusal
abbrev pub split_number : SplitRefusal → ℕ
split_number Count = 18
split_number Amount = 19

-- what an answer of `split` says in 02's terms
abbrev pub split_answer : Result (Unit {0}) SplitRefusal → Outcome (Unit {0})
split_answer answer = outcome_of split_number answer

-- What splitting answers, and what stands in the share buffer then: the shares, or what stood there before.
pub record SplitInto (demands : List ℕ) (budget : ℕ) (shares : List ℕ) (answer : Result (Unit {0}) SplitRefusal)
    (shares' : List ℕ) : Type 0 where
  pub answered : split_answer answer ≡ verdict (split_of demands budget (length shares))
  pub left : shares' ≡ value_or shares (split_of demands budget (length shares))
