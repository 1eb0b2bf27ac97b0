-- Counting: how many elements of a list, or how many numbers below n, pass a test. Every rule of document 01 goes by
-- counts of slots.
use Rattle.std.specs.Prelude.{Bool, true, false, List, [], ◌∷◌, ℕ, zero, suc, ◌+◌}
use Rattle.std.proofs.Math.Option.{Option, none, some}

abbrev pub bit : Bool → ℕ
bit true = 1
bit false = 0

-- how many numbers below n pass the test
unfoldable pub tally : (ℕ → Bool) → ℕ → ℕ
tally p zero = 0
tally p (suc n) = bit (p n) + tally p n

module _ {A : Type 0} where
  -- how many elements of the list pass the test
  unfoldable pub count_if : (A → Bool) → List A → ℕ
  count_if p [] = 0
  count_if p (x ∷ xs) = bit (p x) + count_if p xs

  -- the test, on a slot that may be empty
  abbrev pub holds : (A → Bool) → Option A → Bool
  holds p none = false
  holds p (some a) = p a

  -- one slot more
  abbrev pub push : Option A → List A → List A
  push none xs = xs
  push (some a) xs = a ∷ xs

  -- what stands in the first n slots
  unfoldable pub gather : (ℕ → Option A) → ℕ → List A
  gather slots zero = []
  gather slots (suc n) = push (slots n) (gather slots n)
