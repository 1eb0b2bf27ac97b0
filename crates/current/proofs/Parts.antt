-- Whole parts and remainders of demands under a budget below their sum: the remainders make up what is left over, and
-- what one mA more does to each.
use mathlib.Core.Path.{◌≡◌, ap, ◌∙◌}
use mathlib.Core.Bool.{Bool}
use mathlib.Core.List.{List}
use mathlib.Core.Logic.{◌⊎◌, inl, inr}
use Prim.Native.Nat.{ℕ, zero, suc, ◌+◌, ◌-◌, ◌*◌, ◌/◌, ◌%◌, ◌≤◌, ◌<◌}
use native.Mathlib.Omega.{arith}
use native.Mathlib.Decide.{dec_lt}
use native.Mathlib.Nat.{mul-le-mul_left, add-mul, mul_comm, mul-suc, div-add-mod', mod-lt, mod-eq_of_lt, mod-eq-sub-mod}
use native.Mathlib.Nat.{div-eq_of_lt, div-eq_of_lt-le, mul-div_cancel, mul-add-div_right, mul-add-mod_self_right}
use native.Mathlib.Nat.{le_of_mul-le-mul_right, lt_of_mul-lt-mul_right, mul-lt-mul_of_pos_left}
use lib.Dec.{ltb}
use lib.ListN.{length}
use Rattle.wire.proofs.Tests.{tests}
use Rattle.ballot.specs.Count.{bit, tally}
use Rattle.ballot.proofs.Counting.{bit_T, tally_le, tally_all, all_of}
use Rattle.current.specs.Sums.{sum}
use Rattle.current.specs.Shares.{amount, total, whole_part, remainder, left_over}
use Rattle.current.proofs.Sums.{sum_le, sum_same, sum_add, sum_mul, sum_tally, sum_has}

module _ (demands : List ℕ) (budget : ℕ) (over : budget < total demands) where
  -- the parts of a product
  pub parts : (i : ℕ)
      → whole_part demands budget i * total demands + remainder demands budget i ≡ amount demands i * budget
  unfolding whole_part remainder
  parts i = div-add-mod' (amount demands i * budget) (total demands)

  pub remainder_low : (i : ℕ) → remainder demands budget i < total demands
  unfolding remainder
  remainder_low i = mod-lt (amount demands i * budget) (omega arith)

  parts_sum : (let wholes = sum (whole_part demands budget) (length demands) in
      wholes * total demands + sum (remainder demands budget) (length demands) ≡ budget * total demands)
  parts_sum =
      let w = whole_part demands budget in
      let r = remainder demands budget in
      let t = total demands in
      let n = length demands in
      omega (
        arith,
        sum_mul w t n,
        sum_add (λ i. w i * t) r n,
        sum_same (λ i. w i * t + r i) (λ i. amount demands i * budget) n (λ i l. parts i),
        sum_mul (amount demands) budget n,
        mul_comm t budget,
      )

  -- the whole parts never pass the budget
  pub wholes_within : sum (whole_part demands budget) (length demands) ≤ budget
  wholes_within = le_of_mul-le-mul_right {k = total demands} (omega (arith, parts_sum)) (omega arith)

  pub left_and_wholes : left_over demands budget + sum (whole_part demands budget) (length demands) ≡ budget
  unfolding left_over
  left_and_wholes = omega (arith, wholes_within)

  -- what is left over, times T, is the sum of the remainders
  left_times : left_over demands budget * total demands ≡ sum (remainder demands budget) (length demands)
  left_times =
      let wholes = sum (whole_part demands budget) (length demands) in
      let both = ap (λ (k : ℕ). k * total demands) left_and_wholes in
      omega (arith, both, add-mul (left_over demands budget) wholes (total demands), parts_sum)

  -- a shuttle has a remainder
  abbrev pub has_rest : ℕ → Bool
  has_rest i = ltb 0 (remainder demands budget i)

  -- each remainder is below T, so at least as many shuttles have one as mA are left over
  pub left_few : left_over demands budget ≤ tally has_rest (length demands)
  left_few =
      let r = remainder demands budget in
      let t = total demands in
      let n = length demands in
      le_of_mul-le-mul_right {k = t}
      (omega (
        arith,
        left_times,
        sum_le r (λ i. bit (has_rest i) * t) n (λ i l. at_most (r i) (remainder_low i)),
        sum_mul (λ i. bit (has_rest i)) t n,
        ap (λ (k : ℕ). k * t) (sum_tally has_rest n),
      ))
      (omega arith)
    where
      at_most : (x : ℕ) → x < total demands → x ≤ bit (ltb 0 x) * total demands
      at_most zero h = omega arith
      at_most (suc x) h =
          let one : bit (ltb 0 (suc x)) ≡ 1 = bit_T (ltb 0 (suc x)) (omega tests) in
          rw one (omega arith)

  pub left_most : left_over demands budget ≤ length demands
  left_most =
      let n = length demands in
      omega (arith, left_few, tally_le has_rest all_of n (λ q l t. tt), tally_all n)

  -- a demand that is not 0 has a whole part below it
  pub whole_below : (i : ℕ) → 0 < amount demands i → whole_part demands budget i < amount demands i
  whole_below i some =
      lt_of_mul-lt-mul_right (total demands)
      (omega (arith, parts i, mul-lt-mul_of_pos_left {k = amount demands i} over some))

  -- a demand of 0 has no whole part and no remainder
  pub nothing_asked : (i : ℕ) → amount demands i ≡ 0
      → (whole_part demands budget i ≡ 0) × (remainder demands budget i ≡ 0)
  nothing_asked i none =
      let product = ap (λ (k : ℕ). k * budget) none in
      let whole : whole_part demands budget i ≤ 0 =
      le_of_mul-le-mul_right {k = total demands} (omega (arith, parts i, product)) (omega arith) in
      (omega arith, omega (arith, parts i, product))

  pub whole_within : (i : ℕ) → whole_part demands budget i ≤ amount demands i
  whole_within i =
      le_of_mul-le-mul_right {k = total demands}
      (omega (arith, parts i, mul-le-mul_left {m = budget} {n = total demands} (amount demands i) (omega arith)))
      (omega arith)

-- from a product to its whole part and remainder
whole_of : (demands : List ℕ) (budget i x : ℕ) → amount demands i * budget ≡ x
    → whole_part demands budget i ≡ x / total demands
unfolding whole_part
whole_of demands budget i x e = rw e

rest_of : (demands : List ℕ) (budget i x : ℕ) → amount demands i * budget ≡ x
    → remainder demands budget i ≡ x % total demands
unfolding remainder
rest_of demands budget i x e = rw e

-- What one mA more does to shuttle i: its whole part stays and its remainder grows by its demand, or its whole part
-- rises by 1 and its remainder falls.
pub record Stays (demands : List ℕ) (budget i : ℕ) : Type 0 where
  pub low : remainder demands budget i + amount demands i < total demands
  pub whole : whole_part demands (suc budget) i ≡ whole_part demands budget i
  pub rest : remainder demands (suc budget) i ≡ remainder demands budget i + amount demands i

pub record Rises (demands : List ℕ) (budget i : ℕ) : Type 0 where
  pub high : total demands ≤ remainder demands budget i + amount demands i
  pub whole : whole_part demands (suc budget) i ≡ whole_part demands budget i + 1
  pub rest : remainder demands (suc budget) i + total demands ≡ remainder demands budget i + amount demands i

module _ (demands : List ℕ) (budget : ℕ) (over : budget < total demands) (i : ℕ) (inside : i < length demands) where
  -- the remainder with one demand more
  abbrev grown : ℕ
  grown = remainder demands budget i + amount demands i

  next_product : amount demands i * suc budget ≡ whole_part demands budget i * total demands + grown
  next_product = omega (arith, parts demands budget over i, mul-suc (amount demands i) budget)

  next_whole : whole_part demands (suc budget) i ≡ whole_part demands budget i + grown / total demands
  next_whole =
      whole_of demands (suc budget) i _ next_product
      ∙ mul-add-div_right (omega arith) (whole_part demands budget i) grown

  next_rest : remainder demands (suc budget) i ≡ grown % total demands
  next_rest =
      rest_of demands (suc budget) i _ next_product
      ∙ mul-add-mod_self_right (whole_part demands budget i) (total demands) grown

  pub one_more : Stays demands budget i ⊎ Rises demands budget i
  one_more = go (dec_lt grown (total demands))
    where
      go : Dec (grown < total demands) → Stays demands budget i ⊎ Rises demands budget i
      go (yes low) = inl (record {
        low = low;
        whole = omega (arith, next_whole, div-eq_of_lt low);
        rest = next_rest ∙ mod-eq_of_lt low;
      })
      go (no not_low) =
          let high : total demands ≤ grown = omega arith in
          let own = sum_has (amount demands) (length demands) i inside in
          let below : grown < 2 * total demands = omega (arith, own, remainder_low demands budget over i) in
          let once : grown / total demands ≡ 1 =
          div-eq_of_lt-le {k = 1} (total demands) (omega arith) (omega arith) in
          let back = next_rest ∙ mod-eq-sub-mod high
          ∙ mod-eq_of_lt {n = grown - total demands} {m = total demands} (omega arith) in
          inr (record { high = high; whole = omega (arith, next_whole, once); rest = omega (arith, back) })

  -- a budget one short of T leaves the whole part at most 1 below the demand
  pub whole_near : suc budget ≡ total demands → amount demands i ≤ whole_part demands budget i + 1
  whole_near last =
      let all : whole_part demands (suc budget) i ≡ amount demands i =
      whole_of demands (suc budget) i (amount demands i * total demands) (rw last)
      ∙ mul-div_cancel (amount demands i) (omega arith) in
      elim one_more [ inl s ↦ omega (arith, s.whole) | inr s ↦ omega (arith, s.whole) ]
