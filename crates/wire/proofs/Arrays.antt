-- Arrays: one value in every place, and what a loop that fills an array place by place goes by.
use mathlib.Core.Path.{◌≡◌, refl, sym, ◌∙◌}
use mathlib.Core.List.{List}
use Prim.Native.Nat.{ℕ, zero, suc, ◌+◌, ◌≤◌, ◌<◌}
use native.Mathlib.Omega.{arith}
use lib.ListN.{length, get_or, set, replicate, length-set}
use lib.Seq.{get_or-set_same, get_or-set_other, ext_get_or}
use Rattle.wire.proofs.Tests.{by_equality}

-- an array of one value has it at each place, and beyond its end where that value stands for no place
pub same_everywhere : {A : Type 0} (n i : ℕ) (a : A) → get_or (replicate n a) i a ≡ a
same_everywhere zero i a = refl
same_everywhere (suc n) zero a = refl
same_everywhere (suc n) (suc i) a = same_everywhere n i a

-- Place k is to hold f k; `other` stands beyond the end.
module _ {A : Type 0} (f : ℕ → A) (other : A) where
  -- the first i places hold what they should
  abbrev pub Filled : List A → ℕ → Type 0
  Filled l i = (k : ℕ) → k < i → get_or l k other ≡ f k

  pub filled_none : (l : List A) → Filled l 0
  filled_none l k less = absurd (omega arith)

  -- a turn of the loop
  pub filled_more : (l : List A) (i : ℕ) (a : A) → i < length l → Filled l i → a ≡ f i → Filled (set l i a) (i + 1)
  filled_more l i a room so_far here k less =
      by_equality k i
      (λ same. rw same (get_or-set_same l i a other room ∙ here))
      (λ apart. get_or-set_other l i k a other apart ∙ so_far k (omega (arith, apart)))

  -- an array whose places are all filled is the list of what they hold
  pub filled_all : (l whole : List A) (i : ℕ) → length l ≡ length whole → length l ≤ i → Filled l i
      → Filled whole (length whole) → l ≡ whole
  filled_all l whole i long done so_far is =
      ext_get_or other l whole long λ k less.
      so_far k (omega (arith, done, less)) ∙ sym (is k (omega (arith, long, less)))

-- A loop that fills an array of `size` places stands before place i.
pub record Filling {A : Type 0} (other : A) (f : ℕ → A) (size : ℕ) (l : List A) (i : ℕ) : Type 0 where
  pub inside : i ≤ size
  pub long : length l ≡ size
  pub so_far : Filled f other l i

module _ {A : Type 0} {other : A} {f : ℕ → A} {size : ℕ} where
  -- before the first place, one place more, and behind the last of n places
  pub filling_none : (l : List A) → length l ≡ size → Filling other f size l 0
  filling_none l long = record { inside = omega arith; long = long; so_far = filled_none f other l }

  pub filling_more : {l : List A} {i : ℕ} (a : A) → i < size → Filling other f size l i → a ≡ f i
      → Filling other f size (set l i a) (i + 1)
  filling_more {l} {i} a less filling e = record {
    inside = omega arith;
    long = length-set l i a ∙ filling.long;
    so_far = filled_more f other l i a (omega (arith, filling.long)) filling.so_far e;
  }

  pub filling_until : {l : List A} {i n : ℕ} → Filling other f size l i → n ≤ i → Filled f other l n
  filling_until filling ended k less = filling.so_far k (omega arith)
