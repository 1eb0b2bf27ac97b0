-- What document 02 says of the shares, C-19. proofs/Fair.antt shows it of any number of demands and every budget, in
-- and out of their ranges.
use Rattle.std.specs.Prelude.{ℕ, ◌+◌, ◌≤◌, ◌<◌, ◌≡◌, List}
use Rattle.current.specs.Shares.{amount, total, shares_of}

pub record Fair (demands : List ℕ) (budget : ℕ) : Type 0 where
  -- T ≤ B: each has its demand
  pub met : total demands ≤ budget → shares_of demands budget ≡ demands
  -- 02: "The shares then sum to exactly B"
  pub spent : budget < total demands → total (shares_of demands budget) ≡ budget
  -- 02: "none passes its demand"
  pub within : (i : ℕ) → amount (shares_of demands budget) i ≤ amount demands i
  -- 02: "One mA more of budget lowers or raises no share by more than 1.", also where it is what was missing
  pub raised : (i : ℕ) → amount (shares_of demands (budget + 1)) i ≤ amount (shares_of demands budget) i + 1
  pub lowered : (i : ℕ) → amount (shares_of demands budget) i ≤ amount (shares_of demands (budget + 1)) i + 1
