-- What private functions of the crates above promise that count. No public contract cites this file.
use Rattle.std.specs.Prelude.{ℕ, ◌≤◌, ◌≡◌, Bool}
use Rattle.ballot.specs.Count.{tally}

-- so many of the numbers below n pass the test
pub record Counted (test : ℕ → Bool) (n r : ℕ) : Type 0 where
  pub count : r ≡ tally test n
  pub at_most_all : r ≤ n
