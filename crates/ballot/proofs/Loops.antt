-- What loops over the numbers below n go by, and among them those that count the numbers that pass a test.
use mathlib.Core.Path.{◌≡◌, refl, subst}
use mathlib.Core.Bool.{Bool}
use Prim.Native.Nat.{ℕ, ◌+◌, ◌≤◌}
use native.Mathlib.Numerals.{add-one}
use native.Mathlib.Omega.{arith}
use Rattle.ballot.specs.Count.{bit, tally}
use Rattle.ballot.specs.Promises.{Counted}
use Rattle.ballot.proofs.Counting.{bit_le}

-- A loop over n numbers stands before q: what it says of the first q holds.
pub record Through (n : ℕ) (Said : ℕ → Type 0) (q : ℕ) : Type 0 where
  pub within : q ≤ n
  pub so_far : Said q

-- a loop that has ended has gone through all
pub through_all : {n q : ℕ} {Said : ℕ → Type 0} → Through n Said q → n ≤ q → Said n
through_all {Said = Said} at ended = subst Said (omega arith) at.so_far

-- none is counted before the first, and then one more
pub counted_none : {test : ℕ → Bool} → Counted test 0 0
unfolding tally
counted_none = record { count = refl; at_most_all = omega arith }

pub counted_more : {test : ℕ → Bool} {q count one : ℕ} → Counted test q count → one ≡ bit (test q)
    → Counted test (q + 1) (count + one)
unfolding tally
counted_more {test} {q = q} counted here =
    let most = bit_le (test q) in
    record { count = rw (add-one q) (omega arith); at_most_all = omega arith }
