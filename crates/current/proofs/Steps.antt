-- What the functions that share a budget out go by: a demand's part, and what the shares come to.
use mathlib.Core.Path.{◌≡◌, sym, ap, ap₂, ◌∙◌}
use mathlib.Core.List.{List}
use Prim.Native.Nat.{ℕ, ◌-◌, ◌*◌, ◌≤◌, ◌<◌}
use native.Mathlib.Omega.{arith}
use native.Mathlib.Nat.{mul-le-mul_right}
use native.Mathlib.Decide.{dec_lt}
use lib.Dec.{ltb}
use lib.ListN.{length, get_or, get_or-eq_default}
use Rattle.wire.specs.Below.{table}
use Rattle.wire.proofs.Tables.{table_long, table_filled, table_same}
use Rattle.ballot.specs.Count.{tally}
use Rattle.ballot.proofs.Counting.{tally_same}
use Rattle.current.specs.Sums.{sum}
use Rattle.current.specs.Shares.{most_shuttles, most_demand, amount, total}
use Rattle.current.specs.Shares.{whole_part, remainder, left_over, rank, share, shares_of}
use Rattle.current.specs.Promises.{most_total, Divided, Small, Scarce, is_above, with_extra, LaidParts}
use Rattle.current.specs.declared.Part.{Part}
use Rattle.current.proofs.Sums.{sum_same, sum_most}
use Rattle.current.proofs.Keys.{key_in, rank_key}
use Rattle.current.proofs.Parts.{whole_within, wholes_within, remainder_low}
use Rattle.current.proofs.Fair.{share_over}

-- A part of a demand.
module _ (demands : List ℕ) (budget all i product : ℕ) (is : product ≡ amount demands i * budget)
    (is_total : all ≡ total demands) {part : Part} (divided : Divided product all part) where
  pub whole_is : part.whole ≡ whole_part demands budget i
  unfolding whole_part
  whole_is = divided.whole ∙ rw (is, is_total)

  pub rest_is : part.rest ≡ remainder demands budget i
  unfolding remainder
  rest_is = divided.rest ∙ rw (is, is_total)

-- Where the budget is not enough, all numbers are low.
module _ {demands : List ℕ} {budget all : ℕ} (scarce : Scarce demands budget all) where
  pub over : budget < total demands
  over = omega (arith, scarce.over, scarce.is_total)

  pub total_low : all ≤ most_total
  total_low =
      let low = sum_most (amount demands) most_demand (length demands) scarce.small.low in
      omega (arith, low, scarce.is_total, mul-le-mul_right most_demand scarce.small.few)

  pub whole_low : (i : ℕ) → whole_part demands budget i ≤ most_demand
  whole_low i = omega (arith, whole_within demands budget over i, scarce.small.low i)

  pub rest_low : (i : ℕ) → remainder demands budget i < most_total
  rest_low i = omega (arith, remainder_low demands budget over i, total_low, scarce.is_total)

-- The shares, from the whole parts and the priorities.
module _ {demands : List ℕ} {budget all : ℕ} (scarce : Scarce demands budget all) {shares priorities : List ℕ}
    (laid : LaidParts demands budget shares priorities) where
  pub as_long : length shares ≡ length demands
  as_long = ap length laid.wholes ∙ table_long (whole_part demands budget) (length demands)

  whole_at : (i : ℕ) → i < length demands → amount shares i ≡ whole_part demands budget i
  whole_at i inside = rw laid.wholes (table_filled (whole_part demands budget) 0 (length demands) i inside)

  pub small_shares : Small shares
  small_shares = record {
    few = omega (arith, as_long, scarce.small.few);
    low = λ i. go i (dec_lt i (length demands));
  }
    where
      go : (i : ℕ) → Dec (i < length demands) → amount shares i ≤ most_demand
      go i (yes inside) = omega (arith, whole_at i inside, whole_low scarce i)
      go i (no outside) = omega (arith, get_or-eq_default shares 0 {n = i} (omega (arith, as_long)))

  pub wholes_total : total shares ≡ sum (whole_part demands budget) (length demands)
  wholes_total =
      ap (sum (amount shares)) as_long
      ∙ sum_same (amount shares) (whole_part demands budget) (length demands) whole_at

  pub wholes_low : total shares ≤ budget
  wholes_low = omega (arith, wholes_total, wholes_within demands budget (over scarce))

  rank_is : (i : ℕ) → i < length demands
      → tally (is_above priorities (get_or priorities i 0)) (length demands) ≡ rank demands budget i
  unfolding rank
  rank_is i inside =
      let n = length demands in
      let m = remainder demands budget in
      tally_same (is_above priorities (get_or priorities i 0))
      (λ j. ltb (key_in most_shuttles m i) (key_in most_shuttles m j)) n
      (λ j less. ap₂ ltb (laid.order i inside) (laid.order j less))
      ∙ sym (rank_key most_shuttles m n i scarce.small.few inside)

  pub shared_out : (left : ℕ) → left ≡ budget - total shares
      → table (with_extra priorities left shares) (length shares) ≡ shares_of demands budget
  unfolding shares_of left_over
  shared_out left is =
      rw as_long
      (table_same (with_extra priorities left shares) (share demands budget) (length demands) λ i inside.
      rw (as_long, whole_at i inside, rank_is i inside, is, wholes_total)
      (sym (share_over demands budget (over scarce) i)))
