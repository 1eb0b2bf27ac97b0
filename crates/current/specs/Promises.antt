-- What private functions ask for and promise: no public contract cites this file.
use Rattle.std.specs.Prelude.{◌≡◌, Bool, List, ℕ, suc, ◌+◌, ◌-◌, ◌*◌, ◌/◌, ◌%◌, ◌≤◌, ◌<◌, ltb, length, get_or}
use Rattle.wire.specs.Below.{table}
use Rattle.ballot.specs.Count.{bit, tally}
use Rattle.current.specs.Shares.{most_shuttles, most_demand, amount, total, whole_part, remainder}
use Rattle.current.specs.declared.Part.{Part}

-- the largest number of 32 bits, and the largest product of two
abbrev pub largest : ℕ
largest = 4294967295

abbrev pub most_product : ℕ
most_product = largest * largest

-- what two numbers of 32 bits come to, times each other
pub record Multiplied (a b r : ℕ) : Type 0 where
  pub product : r ≡ a * b
  pub low : r ≤ most_product

-- what a division gives, and what it leaves
pub record Divided (product all : ℕ) (part : Part) : Type 0 where
  pub whole : part.whole ≡ product / all
  pub rest : part.rest ≡ product % all

-- no demands sum to more
abbrev pub most_total : ℕ
most_total = most_shuttles * most_demand

-- amounts as few and as low as a split that is accepted has demands
pub record Small (amounts : List ℕ) : Type 0 where
  pub few : length amounts ≤ most_shuttles
  pub low : (i : ℕ) → amount amounts i ≤ most_demand

-- such demands, and a budget that is not enough for all: it has to be shared out
pub record Scarce (demands : List ℕ) (budget all : ℕ) : Type 0 where
  pub small : Small demands
  pub is_total : all ≡ total demands
  pub over : budget < all

-- A remainder and its shuttle's number below a base, as one number: the larger remainder has the higher key and, on a
-- tie, the lower number. So no two shuttles have the same.
abbrev pub key : ℕ → ℕ → ℕ → ℕ
key base rest i = base * rest + (base - suc i)

abbrev pub priority_of : ℕ → ℕ → ℕ
priority_of rest i = key most_shuttles rest i

-- shuttle j has a higher priority than this
abbrev pub is_above : List ℕ → ℕ → ℕ → Bool
is_above priorities own j = ltb own (get_or priorities j 0)

-- a share and what its shuttle gets of the mA left over, by how many are above it
abbrev pub with_extra : List ℕ → ℕ → List ℕ → ℕ → ℕ
with_extra priorities left shares i =
    amount shares i + bit (ltb (tally (is_above priorities (get_or priorities i 0)) (length shares)) left)

-- the priorities of all shuttles stand in an array
abbrev pub Prioritised : List ℕ → ℕ → List ℕ → Type 0
Prioritised demands budget priorities =
    (i : ℕ) → i < length demands → get_or priorities i 0 ≡ priority_of (remainder demands budget i) i

-- there is room for a whole part and a priority of each shuttle
pub record Room (demands shares priorities : List ℕ) : Type 0 where
  pub as_many : length shares ≡ length demands
  pub places : length priorities ≡ length demands

-- the whole parts in the shares, and the priorities beside them
pub record LaidParts (demands : List ℕ) (budget : ℕ) (shares priorities : List ℕ) : Type 0 where
  pub wholes : shares ≡ table (whole_part demands budget) (length demands)
  pub order : Prioritised demands budget priorities
