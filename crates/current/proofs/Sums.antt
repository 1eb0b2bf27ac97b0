-- The laws of sums over the numbers below n, counts among them.
use mathlib.Core.Path.{◌≡◌, refl, sym, ap, ◌∙◌}
use mathlib.Core.Bool.{Bool, true, false, cond}
use mathlib.Core.List.{List}
use Prim.Native.Nat.{ℕ, zero, suc, ◌+◌, ◌*◌, ◌≤◌, ◌<◌}
use native.Mathlib.Omega.{arith}
use native.Mathlib.Nat.{add-mul, suc-mul}
use lib.ListN.{length, get_or, take}
use lib.Seq.{take-length}
use native.Mathlib.Numerals.{add-one}
use Rattle.std.specs.List.{sum_by, count_by}
use Rattle.std.proofs.lemmas.List.Sums.{sum_by_more}
use Rattle.wire.proofs.Tests.{by_equality}
use Rattle.ballot.specs.Count.{bit, tally}
use Rattle.current.specs.Sums.{sum}

pub sum_le : (f g : ℕ → ℕ) (n : ℕ) → ((i : ℕ) → i < n → f i ≤ g i) → sum f n ≤ sum g n
unfolding sum
sum_le f g zero h = omega arith
sum_le f g (suc n) h = omega (arith, h n (omega arith), sum_le f g n (λ i l. h i (omega arith)))

pub sum_same : (f g : ℕ → ℕ) (n : ℕ) → ((i : ℕ) → i < n → f i ≡ g i) → sum f n ≡ sum g n
unfolding sum
sum_same f g zero h = refl
sum_same f g (suc n) h = omega (arith, h n (omega arith), sum_same f g n (λ i l. h i (omega arith)))

pub sum_add : (f g : ℕ → ℕ) (n : ℕ) → sum (λ i. f i + g i) n ≡ sum f n + sum g n
unfolding sum
sum_add f g zero = refl
sum_add f g (suc n) = omega (arith, sum_add f g n)

pub sum_mul : (f : ℕ → ℕ) (k n : ℕ) → sum (λ i. f i * k) n ≡ sum f n * k
unfolding sum
sum_mul f k zero = omega arith
sum_mul f k (suc n) = omega (arith, sum_mul f k n, add-mul (sum f n) (f n) k)

-- a count is a sum of bits
pub sum_tally : (p : ℕ → Bool) (n : ℕ) → sum (λ i. bit (p i)) n ≡ tally p n
unfolding sum tally
sum_tally p zero = refl
sum_tally p (suc n) = omega (arith, sum_tally p n)

-- n numbers that are at most k
pub sum_most : (f : ℕ → ℕ) (k n : ℕ) → ((i : ℕ) → f i ≤ k) → sum f n ≤ n * k
unfolding sum
sum_most f k zero h = omega arith
sum_most f k (suc n) h = omega (arith, sum_most f k n h, h n, suc-mul n k)

-- what a number below n gives is at most the sum
pub sum_has : (f : ℕ → ℕ) (n i : ℕ) → i < n → f i ≤ sum f n
unfolding sum
sum_has f zero i l = absurd (omega arith)
sum_has f (suc n) i l =
    by_equality i n (λ e. omega (arith, ap f e)) (λ e. omega (arith, e, sum_has f n i (omega (arith, e))))

-- one number more, as a loop goes
pub sum_next : (f : ℕ → ℕ) (i : ℕ) → sum f (i + 1) ≡ sum f i + f i
unfolding sum
sum_next f i = rw add-one

-- The library sums up and counts the elements of a list, here it is the numbers below the list's length.
module _ (f : ℕ → ℕ) (xs : List ℕ) where
  next : (i : ℕ) → i < length xs → sum_by f (take (suc i) xs) ≡ sum_by f (take i xs) + f (get_or xs i 0)
  next i inside = let more = sum_by_more {X = ℕ} f xs i 0 inside in rw add-one at more

  sum_of_front : (i : ℕ) → i ≤ length xs → sum_by f (take i xs) ≡ sum (λ k. f (get_or xs k 0)) i
  unfolding sum
  sum_of_front zero inside = refl
  sum_of_front (suc i) inside =
      omega (arith, next i (omega arith), sum_of_front i (omega arith))

  pub sum_of_all : sum_by f xs ≡ sum (λ k. f (get_or xs k 0)) (length xs)
  sum_of_all = ap (sum_by f) (sym (take-length xs)) ∙ sum_of_front (length xs) (omega arith)

pub count_of_all : (p : ℕ → Bool) (xs : List ℕ) → count_by p xs ≡ tally (λ k. p (get_or xs k 0)) (length xs)
count_of_all p xs =
    sum_of_all (λ x. cond (p x) 1 0) xs
    ∙ sum_same (λ k. cond (p (get_or xs k 0)) 1 0) (λ k. bit (p (get_or xs k 0))) (length xs)
    (λ k inside. as_bit (p (get_or xs k 0)))
    ∙ sum_tally (λ k. p (get_or xs k 0)) (length xs)
  where
    as_bit : (b : Bool) → cond b 1 0 ≡ bit b
    as_bit true = refl
    as_bit false = refl
