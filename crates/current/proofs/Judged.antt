-- What the tests of a split show, and what splitting answers and leaves by them.
use mathlib.Core.Path.{◌≡◌, refl, sym, ap, ◌∙◌}
use mathlib.Core.Bool.{Bool, true, false, ◌&&◌, and_assoc}
use mathlib.Core.List.{List, [], ◌∷◌}
use Prim.Native.Nat.{ℕ, zero, suc, ◌≤◌, ◌<◌}
use native.Mathlib.Omega.{arith}
use native.Mathlib.Decide.{dec_lt}
use native.Mathlib.Numerals.{add-one}
use lib.Dec.{T, leb, eqb}
use lib.ListN.{length, get_or, get_or-eq_default, take}
use lib.Seq.{take-length}
use borrow.Author.Tests.{leb-true, eqb-true}
use Rattle.std.specs.Prelude.{Ok, Err}
use Rattle.std.specs.List.{fold, list_all}
use Rattle.std.proofs.Math.Bool.{and_comm}
use Rattle.std.proofs.lemmas.List.Folds.{list_all_more}
use Rattle.wire.specs.Outcome.{Outcome, accepted, refused, require, verdict, value_or}
use Rattle.wire.specs.Below.{every_below}
use Rattle.wire.proofs.Tests.{tests, both_true, and_true, every_below_lem}
use Rattle.wire.proofs.Outcomes.{refused_not_accepted}
use Rattle.current.specs.Shares.{most_shuttles, most_demand, most_budget, amount, shares_of}
use Rattle.current.specs.Shares.{right_count, in_range, split_number, split_of, SplitInto}
use Rattle.current.specs.declared.SplitRefusal.{SplitRefusal}
use Rattle.current.specs.Promises.{Small}

-- The library tests the elements of a list, here it is the numbers below the list's length.
module _ (p : ℕ → Bool) (xs : List ℕ) where
  next : (i : ℕ) → i < length xs → list_all p (take (suc i) xs) ≡ (list_all p (take i xs) && p (get_or xs i 0))
  next i inside = let more = list_all_more {X = ℕ} p xs i 0 inside in rw add-one at more

  test_of_front : (i : ℕ) → i ≤ length xs → list_all p (take i xs) ≡ every_below (λ k. p (get_or xs k 0)) i
  unfolding every_below
  test_of_front zero inside = refl
  test_of_front (suc i) inside =
      next i (omega arith)
      ∙ ap (λ b. b && p (get_or xs i 0)) (test_of_front i (omega arith))
      ∙ and_comm (every_below (λ k. p (get_or xs k 0)) i) (p (get_or xs i 0))

  test_of_all : list_all p xs ≡ every_below (λ k. p (get_or xs k 0)) (length xs)
  test_of_all = ap (list_all p) (sym (take-length xs)) ∙ test_of_front (length xs) (omega arith)

-- testing the elements from the front on, with no early end, tells whether all of them pass
pub all_tested : (p : ℕ → Bool) (good : Bool) (xs : List ℕ)
    → fold (λ b x. b && p x) good xs ≡ (good && list_all p xs)
all_tested p good [] = sym (and_true good)
all_tested p good (x ∷ xs) = all_tested p (good && p x) xs ∙ and_assoc good (p x) (list_all p xs)

pub range_of_all : (demands : List ℕ) (budget : ℕ)
    → in_range demands budget ≡ (leb budget most_budget && list_all (λ x. leb x most_demand) demands)
range_of_all demands budget =
    ap (λ b. b && leb budget most_budget) (sym (test_of_all (λ x. leb x most_demand) demands))
    ∙ and_comm (list_all (λ x. leb x most_demand) demands) (leb budget most_budget)

-- What a split comes to, by the tests.
module _ (demands : List ℕ) (budget room : ℕ) where
  pub judged_accepted : right_count (length demands) room ≡ true → in_range demands budget ≡ true
      → split_of demands budget room ≡ accepted (shares_of demands budget)
  unfolding split_of
  judged_accepted count amounts = rw (count, amounts)

  pub judged_amount : right_count (length demands) room ≡ true → in_range demands budget ≡ false
      → split_of demands budget room ≡ refused 19
  unfolding split_of
  judged_amount count amounts = rw (count, amounts)

  pub judged_count : right_count (length demands) room ≡ false → split_of demands budget room ≡ refused 18
  unfolding split_of
  judged_count count = rw count

  -- and what an accepted one has shown
  pub passed_both : verdict (split_of demands budget room) ≡ accepted tt
      → (right_count (length demands) room ≡ true) × (in_range demands budget ≡ true)
  unfolding split_of
  passed_both e = go (right_count (length demands) room) (in_range demands budget) e
    where
      go : (count amounts : Bool)
          → verdict (require count 18 (require amounts 19 (accepted (shares_of demands budget)))) ≡ accepted tt
          → (count ≡ true) × (amounts ≡ true)
      go true true e = (refl, refl)
      go true false e = absurd (refused_not_accepted 19 tt e)
      go false amounts e = absurd (refused_not_accepted 18 tt e)

  module _ (is_accepted : verdict (split_of demands budget room) ≡ accepted tt) where
    pub as_many : room ≡ length demands
    as_many =
        let few = leb 1 (length demands) && leb (length demands) most_shuttles in
        eqb-true room (length demands) (both_true few (eqb room (length demands)) (passed_both is_accepted).0).1

    pub small : Small demands
    small = record {
      few = leb-true _ _ (both_true (leb 1 (length demands)) (leb (length demands) most_shuttles) counted).1;
      low = λ i. go i (dec_lt i (length demands));
    }
      where
        counted : leb 1 (length demands) && leb (length demands) most_shuttles ≡ true
        counted =
            (both_true (leb 1 (length demands) && leb (length demands) most_shuttles) (eqb room (length demands))
            (passed_both is_accepted).0).0

        is_low : ℕ → Bool
        is_low i = leb (amount demands i) most_demand

        all_low : T (every_below is_low (length demands))
        all_low =
            rw (both_true (every_below is_low (length demands)) (leb budget most_budget) (passed_both is_accepted).1).0
            tt

        go : (i : ℕ) → Dec (i < length demands) → amount demands i ≤ most_demand
        go i (yes inside) =
            let here = every_below_lem is_low (length demands) all_low i inside in omega (tests, here)
        go i (no outside) = omega (arith, get_or-eq_default demands 0 {n = i} (omega arith))

-- What splitting comes to, by how it was judged.
module _ (demands : List ℕ) (budget : ℕ) (shares : List ℕ) where
  pub shares_written : accepted tt ≡ verdict (split_of demands budget (length shares))
      → {shares' : List ℕ} → shares' ≡ shares_of demands budget → SplitInto demands budget shares (Ok tt) shares'
  shares_written is e =
      let passed = passed_both demands budget (length shares) (sym is) in
      let value = judged_accepted demands budget (length shares) passed.0 passed.1 in
      record { answered = is; left = rw value e }

  -- one that is refused leaves the shares as they were
  pub shares_kept : (why : SplitRefusal) → refused (split_number why) ≡ verdict (split_of demands budget (length shares))
      → SplitInto demands budget shares (Err why) shares
  shares_kept why is = record { answered = is; left = go (split_of demands budget (length shares)) is }
    where
      go : (outcome : Outcome (List ℕ)) → refused (split_number why) ≡ verdict outcome
          → shares ≡ value_or shares outcome
      go (accepted value) e = absurd (refused_not_accepted (split_number why) tt e)
      go (refused number) e = refl
