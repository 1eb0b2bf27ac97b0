-- What 02 says of the shares holds of any demands and every budget: `fair` at the end.
use mathlib.Core.Path.{◌≡◌, ap, ◌∙◌}
use mathlib.Core.Bool.{Bool, ◌||◌}
use mathlib.Core.List.{List}
use mathlib.Core.Logic.{◌⊎◌, inl, inr}
use Prim.Native.Nat.{ℕ, suc, ◌+◌, ◌≤◌, ◌<◌}
use native.Mathlib.Omega.{arith}
use native.Mathlib.Nat.{mul-le-mul_left}
use native.Mathlib.Decide.{dec_lt, dec_le}
use native.Mathlib.Numerals.{add-one}
use lib.Dec.{T, leb, ltb, eqb, eqb_refl}
use lib.ListN.{length, get_or-eq_default}
use lib.Seq.{ext_get_or}
use borrow.Author.Tests.{le-leb, lt-leb}
use Rattle.wire.proofs.Tests.{tests, or_T, T-or-l, T-or-r}
use Rattle.wire.proofs.Tables.{table_long, table_filled}
use Rattle.ballot.specs.Count.{bit, tally}
use Rattle.ballot.proofs.Counting.{bit_T, bit_F, bit_le, bit_mono, tally_le, tally_same}
use Rattle.ballot.proofs.Counting.{tally_meet, tally_join, tally_has, tally_none, nobody_of}
use Rattle.current.specs.Sums.{sum}
use Rattle.current.specs.Shares.{amount, total, whole_part, remainder, left_over, rank, gets_one, share, shares_of}
use Rattle.current.specs.Fair.{Fair}
use Rattle.current.proofs.Sums.{sum_same, sum_add, sum_tally, sum_has}
use Rattle.current.proofs.Ranks.{above_it, ranks_count}
use Rattle.current.proofs.Keys.{key_in, step, rank_key, distinct_keys}
use Rattle.current.proofs.Parts.{left_and_wholes, has_rest, left_few, left_most}
use Rattle.current.proofs.Parts.{whole_below, nothing_asked, Stays, Rises, one_more, whole_near}

module _ (demands : List ℕ) (budget : ℕ) where
  pub share_enough : total demands ≤ budget → (i : ℕ) → share demands budget i ≡ amount demands i
  unfolding share
  share_enough enough i = rw (le-leb (total demands) budget enough)

  pub share_over : budget < total demands → (i : ℕ)
      → share demands budget i ≡ whole_part demands budget i + bit (gets_one demands budget i)
  unfolding share
  share_over over i = rw (lt-leb (total demands) budget over)

  -- a shuttle's place in the order, as one number, and its rank by it
  abbrev key_of : ℕ → ℕ
  key_of = key_in (length demands) (remainder demands budget)

  ranked : (i : ℕ) → i < length demands → rank demands budget i ≡ above_it key_of (length demands) i
  unfolding rank
  ranked i inside = rank_key (length demands) (remainder demands budget) (length demands) i (omega arith) inside

-- The budget is not enough for all.
module _ (demands : List ℕ) (budget : ℕ) (over : budget < total demands) where
  -- just as many shuttles get one as mA are left over
  extras : tally (gets_one demands budget) (length demands) ≡ left_over demands budget
  extras =
      let n = length demands in
      let left = left_over demands budget in
      tally_same (gets_one demands budget) (λ i. ltb (above_it (key_of demands budget) n i) left) n
      (λ i inside. ap (λ (k : ℕ). ltb k left) (ranked demands budget i inside))
      ∙ ranks_count (key_of demands budget) n (distinct_keys n (remainder demands budget) n (omega arith)) left
      (left_most demands budget over)

  pub shares_sum : sum (share demands budget) (length demands) ≡ budget
  shares_sum =
      let w = whole_part demands budget in
      let e = gets_one demands budget in
      let n = length demands in
      omega (
        arith,
        sum_same (share demands budget) (λ i. w i + bit (e i)) n (λ i l. share_over demands budget over i),
        sum_add w (λ i. bit (e i)) n,
        sum_tally e n,
        extras,
        left_and_wholes demands budget over,
      )

  -- a shuttle without a remainder gets none: all that have one go before it, and they are enough
  none_without : (i : ℕ) → i < length demands → remainder demands budget i ≡ 0 → bit (gets_one demands budget i) ≡ 0
  none_without i inside none =
      let r = remainder demands budget in
      let n = length demands in
      let higher = tally_le (has_rest demands budget over)
      (λ j. ltb (key_of demands budget i) (key_of demands budget j)) n
      (λ j l t. omega (tests, step n (r i) (r j) (omega tests))) in
      bit_F (gets_one demands budget i)
      (λ t. omega (tests, higher, ranked demands budget i inside, left_few demands budget over))

  within_over : (i : ℕ) → i < length demands → share demands budget i ≤ amount demands i
  within_over i inside = go (dec_lt 0 (amount demands i))
    where
      go : Dec (0 < amount demands i) → share demands budget i ≤ amount demands i
      go (yes some) =
          omega (
            arith,
            share_over demands budget over i,
            whole_below demands budget over i some,
            bit_le (gets_one demands budget i),
          )
      go (no not_some) =
          let none = nothing_asked demands budget over i (omega arith) in
          omega (arith, share_over demands budget over i, none.0, none_without i inside none.1)

pub share_within : (demands : List ℕ) (budget i : ℕ) → i < length demands → share demands budget i ≤ amount demands i
share_within demands budget i inside = go (dec_le (total demands) budget)
  where
    go : Dec (total demands ≤ budget) → share demands budget i ≤ amount demands i
    go (yes enough) = omega (arith, share_enough demands budget enough i)
    go (no scarce) = within_over demands budget (omega arith) i inside

-- One mA more, where neither budget is enough.
module _ (demands : List ℕ) (budget : ℕ) (over : suc budget < total demands) where
  -- shuttle i's whole part rises
  abbrev rises : ℕ → Bool
  rises i = leb (total demands) (remainder demands budget i + amount demands i)

  below : budget < total demands
  below = omega arith

  whole_next : (i : ℕ) → i < length demands
      → whole_part demands (suc budget) i ≡ whole_part demands budget i + bit (rises i)
  whole_next i inside =
      elim (one_more demands budget below i inside) [
        | inl s ↦ omega (arith, s.whole, bit_F (rises i) (λ t. omega (tests, s.low)))
        | inr s ↦ omega (arith, s.whole, bit_T (rises i) (omega (tests, s.high)))
      ]

  -- with the one that came, as many mA fewer are left over as whole parts rise
  left_next : left_over demands (suc budget) + tally rises (length demands) ≡ left_over demands budget + 1
  left_next =
      let w = whole_part demands budget in
      let n = length demands in
      omega (
        arith,
        sum_same (whole_part demands (suc budget)) (λ i. w i + bit (rises i)) n whole_next,
        sum_add w (λ i. bit (rises i)) n,
        sum_tally rises n,
        left_and_wholes demands budget below,
        left_and_wholes demands (suc budget) over,
      )

  -- where i rises, its key falls, and the key of a shuttle that stays does not: it still goes before i if it did
  still_ahead : (i j : ℕ) → i < length demands → Rises demands budget i → Stays demands budget j
      → T (ltb (key_of demands budget i) (key_of demands budget j))
      → T (ltb (key_of demands (suc budget) i) (key_of demands (suc budget) j))
  still_ahead i j inside up s t =
      let n = length demands in
      let own : remainder demands (suc budget) i ≤ remainder demands budget i = omega (arith, up.rest, demand_low) in
      let other : remainder demands budget j ≤ remainder demands (suc budget) j = omega (arith, s.rest) in
      omega (tests, mul-le-mul_left n own, mul-le-mul_left n other)
    where
      demand_low : amount demands i ≤ total demands
      demand_low = sum_has (amount demands) (length demands) i inside

  module _ (i : ℕ) (inside : i < length demands) (up : Rises demands budget i) where
    -- so i itself, and each that went before it, rises or still goes before i: counted, no shuttle is both
    rank_next : rank demands budget i + 1 ≤ rank demands (suc budget) i + tally rises (length demands)
    rank_next =
        let n = length demands in
        let old : ℕ → Bool = λ j. ltb (key_of demands budget i) (key_of demands budget j) in
        let new : ℕ → Bool = λ j. ltb (key_of demands (suc budget) i) (key_of demands (suc budget) j) in
        let is : ℕ → Bool = λ j. eqb j i in
        let either : ℕ → Bool = λ j. new j || rises j in
        omega (
          arith,
          tally_meet old is either nobody_of n
              (λ j l t. elim (one_more demands budget below j l) [
                | inl s ↦ T-or-l (new j) (rises j) (still_ahead i j inside up s t)
                | inr s ↦ T-or-r (new j) (rises j) (omega (tests, s.high))
              ])
              (λ j l t. let same : j ≡ i = omega tests in T-or-r (new j) (rises j) (rw same (omega (tests, up.high))))
              (λ j l t k. let same : j ≡ i = omega tests in omega (tests, ap (key_of demands budget) same)),
          tally_join either new rises n (λ j l t. or_T (new j) (rises j) t),
          tally_has is n i inside (eqb_refl i),
          tally_none n,
          ranked demands budget i inside,
          ranked demands (suc budget) i inside,
        )

    -- a shuttle whose whole part rises gets none of the mA left over that it did not get before
    no_second : bit (gets_one demands (suc budget) i) ≤ bit (gets_one demands budget i)
    no_second =
        bit_mono (gets_one demands (suc budget) i) (gets_one demands budget i)
        (λ t. omega (tests, rank_next, left_next))

-- two shares differ by at most 1
abbrev Near : ℕ → ℕ → Type 0
Near a b = (a ≤ b + 1) × (b ≤ a + 1)

near_over : (demands : List ℕ) (budget i : ℕ) → suc budget < total demands → i < length demands
    → Near (share demands (suc budget) i) (share demands budget i)
near_over demands budget i over inside = go (one_more demands budget (below demands budget over) i inside)
  where
    now : share demands budget i ≡ whole_part demands budget i + bit (gets_one demands budget i)
    now = share_over demands budget (below demands budget over) i

    next : share demands (suc budget) i ≡ whole_part demands (suc budget) i + bit (gets_one demands (suc budget) i)
    next = share_over demands (suc budget) over i

    go : Stays demands budget i ⊎ Rises demands budget i → Near (share demands (suc budget) i) (share demands budget i)
    go s =
        let a = bit_le (gets_one demands budget i) in
        let b = bit_le (gets_one demands (suc budget) i) in
        elim s [
          | inl x ↦ (omega (arith, now, next, b, x.whole), omega (arith, now, next, a, x.whole))
          | inr x ↦ (
            omega (arith, now, next, no_second demands budget over i inside x, x.whole),
            omega (arith, now, next, a, x.whole),
          )
        ]

-- The same where both budgets are enough, and where the one mA more is what was missing.
pub share_near : (demands : List ℕ) (budget i : ℕ) → i < length demands
    → Near (share demands (suc budget) i) (share demands budget i)
share_near demands budget i inside = go (dec_le (total demands) budget) (dec_le (total demands) (suc budget))
  where
    go : Dec (total demands ≤ budget) → Dec (total demands ≤ suc budget)
        → Near (share demands (suc budget) i) (share demands budget i)
    go (yes enough) k =
        let now = share_enough demands budget enough i in
        let next = share_enough demands (suc budget) (omega arith) i in
        (omega arith, omega arith)
    go (no scarce) (yes enough) =
        let over : budget < total demands = omega arith in
        let now = share_over demands budget over i in
        let next = share_enough demands (suc budget) enough i in
        let within = share_within demands budget i inside in
        (omega (arith, whole_near demands budget over i inside (omega arith)), omega arith)
    go (no scarce) (no k) = near_over demands budget i (omega arith) inside

-- The same of the list of shares.
module _ (demands : List ℕ) (budget : ℕ) where
  pub length_shares : length (shares_of demands budget) ≡ length demands
  unfolding shares_of
  length_shares = table_long (share demands budget) (length demands)

  pub share_at : (i : ℕ) → i < length demands → amount (shares_of demands budget) i ≡ share demands budget i
  unfolding shares_of
  share_at i inside = table_filled (share demands budget) 0 (length demands) i inside

  -- a number that no shuttle has
  behind : (i : ℕ) → length demands ≤ i → amount (shares_of demands budget) i ≡ 0
  behind i outside = get_or-eq_default (shares_of demands budget) 0 {n = i} (omega (arith, length_shares))

  pub each_its_demand : total demands ≤ budget → shares_of demands budget ≡ demands
  each_its_demand enough =
      ext_get_or 0 (shares_of demands budget) demands length_shares
      (λ i l. share_at i (omega (arith, length_shares)) ∙ share_enough demands budget enough i)

  whole_budget : budget < total demands → total (shares_of demands budget) ≡ budget
  whole_budget over =
      ap (sum (amount (shares_of demands budget))) length_shares
      ∙ sum_same (amount (shares_of demands budget)) (share demands budget) (length demands) share_at
      ∙ shares_sum demands budget over

pub fair : (demands : List ℕ) (budget : ℕ) → Fair demands budget
fair demands budget =
    record {
      met = each_its_demand demands budget;
      spent = whole_budget demands budget;
      within = λ i. within i (dec_lt i (length demands));
      raised = λ i. (near i (dec_lt i (length demands))).0;
      lowered = λ i. (near i (dec_lt i (length demands))).1;
    }
  where
    within : (i : ℕ) → Dec (i < length demands) → amount (shares_of demands budget) i ≤ amount demands i
    within i (yes inside) = rw (share_at demands budget i inside) (share_within demands budget i inside)
    within i (no outside) = omega (arith, behind demands budget i (omega arith))

    near : (i : ℕ) → Dec (i < length demands)
        → Near (amount (shares_of demands (budget + 1)) i) (amount (shares_of demands budget) i)
    near i (yes inside) =
        rw (add-one budget, share_at demands budget i inside, share_at demands (suc budget) i inside)
        (share_near demands budget i inside)
    near i (no outside) =
        let now = behind demands budget i (omega arith) in
        let next = behind demands (budget + 1) i (omega arith) in
        (omega arith, omega arith)
