-- Which votes the slots have that pass a test: told by the least vote and by a count of those with another, and told
-- one slot after the other.
use mathlib.Core.Path.{◌≡◌, refl, ap, sym, ◌∙◌}
use mathlib.Core.Bool.{Bool, true, false, not, cond, ◌&&◌}
use mathlib.Core.Logic.{◌≢◌}
use mathlib.Core.Option.{Option, none, some, none-ne-some, some-ne-none, some-injective}
use Prim.Native.Nat.{ℕ, zero, suc, ◌+◌, ◌<◌, min}
use native.Mathlib.Omega.{arith}
use lib.Dec.{eqb}
use borrow.Author.Tests.{eqb-true, eqb-false, eq-eqb, ne_eqb}
use Rattle.wire.proofs.Tests.{by_equality}
use Rattle.ballot.specs.Count.{bit, tally}
use Rattle.ballot.specs.Least.{lower}
use Rattle.ballot.specs.Selection.{Backing, nobody, sole, several}
use Rattle.tally.specs.Marks.{told, least_marked, joined, backing_marked}

-- a slot that passes the test has another vote
abbrev pub beside_it : (ℕ → Bool) → (ℕ → ℕ) → ℕ → ℕ → Bool
beside_it test vote v q = test q && not (eqb (vote q) v)

-- the votes as crate ballot tells them: by the least one, and by a count of the slots with another
abbrev pub besides_marked : (ℕ → Bool) → (ℕ → ℕ) → ℕ → Option ℕ → Backing
besides_marked test vote n none = nobody
besides_marked test vote n (some v) = cond (eqb (tally (beside_it test vote v) n) 0) (sole v) several

-- The votes of the marked slots, told one slot after the other.
module _ (test : ℕ → Bool) (vote : ℕ → ℕ) where
  -- how many marked slots have another vote
  abbrev beside : ℕ → ℕ → ℕ
  beside v n = tally (beside_it test vote v) n

  beside_more : (v n : ℕ) → beside v (suc n) ≡ bit (test n && not (eqb (vote n) v)) + beside v n
  unfolding tally
  beside_more v n = refl

  -- with no vote there is no marked slot
  none_beside : (v n : ℕ) → least_marked test vote n ≡ none → beside v n ≡ 0
  unfolding told tally
  none_beside v zero e = refl
  none_beside v (suc n) e = go (test n) (least_marked test vote n) refl (none_beside v n) e
    where
      go : (here : Bool) (o : Option ℕ) → least_marked test vote n ≡ o
          → (least_marked test vote n ≡ none → beside v n ≡ 0)
          → cond here (lower (vote n) o) o ≡ none → bit (here && not (eqb (vote n) v)) + beside v n ≡ 0
      go true none is earlier e = absurd (some-ne-none _ e)
      go true (some u) is earlier e = absurd (some-ne-none _ e)
      go false o is earlier e = omega (arith, earlier (is ∙ e))

  -- a slot with the least vote has another vote than any other plan
  least_beside : (u w n : ℕ) → least_marked test vote n ≡ some u → w ≢ u → 0 < beside w n
  unfolding told tally
  least_beside u w zero e other = absurd (none-ne-some _ e)
  least_beside u w (suc n) e other =
      go (test n) (least_marked test vote n) refl (λ k. least_beside k w n) e
    where
      differ : vote n ≢ w → 0 < bit (not (eqb (vote n) w)) + beside w n
      differ apart = rw (ne_eqb _ _ apart) (omega arith)

      go : (here : Bool) (o : Option ℕ) → least_marked test vote n ≡ o
          → ((k : ℕ) → least_marked test vote n ≡ some k → w ≢ k → 0 < beside w n)
          → cond here (lower (vote n) o) o ≡ some u → 0 < bit (here && not (eqb (vote n) w)) + beside w n
      go true none is earlier e = differ (λ same. other (sym same ∙ some-injective _ _ e))
      go true (some k) is earlier e =
          by_equality (vote n) w
          (λ same.
          let found = earlier k is (λ z. other (omega (arith, some-injective _ _ e, same, z))) in
          omega (arith, found))
          differ
      go false o is earlier e = let found = earlier u (is ∙ e) other in omega (arith, found)

  -- of votes that differ, none is all: where the slot's vote is not the least one, or another one was there already
  apart_beside : (u n : ℕ) → test n ≡ true → least_marked test vote n ≡ some u
      → (u ≡ vote n → beside u n ≢ 0) → beside (min (vote n) u) (suc n) ≢ 0
  apart_beside u n here is others alone =
      by_equality (min (vote n) u) u
      (λ same. by_equality (vote n) u
      (λ equal. others (sym equal) (omega (arith, rw (same, here, eq-eqb _ _ equal) at more)))
      (λ differ. omega (arith, rw (same, here, ne_eqb _ _ differ) at more)))
      (λ lower-one. omega (arith, more, least_beside u (min (vote n) u) n is lower-one))
    where
      more : 0 ≡ bit (test n && not (eqb (vote n) (min (vote n) u))) + beside (min (vote n) u) n
      more = sym alone ∙ beside_more (min (vote n) u) n

  step : (n : ℕ) (here : Bool) → test n ≡ here → (o : Option ℕ) → least_marked test vote n ≡ o
      → besides_marked test vote (suc n) (cond here (lower (vote n) o) o)
      ≡ cond here (joined (besides_marked test vote n o) (vote n)) (besides_marked test vote n o)
  step n false is none least = refl
  step n false is (some u) least =
      let same : beside u (suc n) ≡ beside u n = rw (beside_more u n, is) (omega arith) in
      rw same
  step n true is none least =
      let alone : beside (vote n) (suc n) ≡ 0 =
      rw (beside_more (vote n) n, is, eq-eqb (vote n) (vote n) refl) (omega (arith, none_beside (vote n) n least)) in
      rw (eq-eqb _ 0 alone)
  step n true is (some u) least = by_others (eqb (beside u n) 0) refl (eqb u (vote n)) refl
    where
      by_others : (alone : Bool) → eqb (beside u n) 0 ≡ alone → (same : Bool) → eqb u (vote n) ≡ same
          → cond (eqb (beside (min (vote n) u) (suc n)) 0) (sole (min (vote n) u)) several
          ≡ joined (cond alone (sole u) several) (vote n)
      by_others true e true same =
          let equal = eqb-true u (vote n) same in
          let least_is : min (vote n) u ≡ u = omega arith in
          let none : beside u (suc n) ≡ 0 =
          rw (beside_more u n, is, eq-eqb (vote n) u (sym equal)) (omega (arith, eqb-true (beside u n) 0 e)) in
          rw (least_is, eq-eqb _ 0 none, same)
      by_others true e false same =
          rw (ne_eqb _ 0 (apart_beside u n is least (λ equal. absurd (eqb-false u (vote n) same equal))), same)
      by_others false e same is_same = rw (ne_eqb _ 0 (apart_beside u n is least (λ equal. eqb-false _ _ e)))

  -- both ways tell the same
  pub backing_told : (n : ℕ) → besides_marked test vote n (least_marked test vote n) ≡ backing_marked test vote n
  unfolding told
  backing_told zero = refl
  backing_told (suc n) =
      step n (test n) refl (least_marked test vote n) refl
      ∙ ap (λ votes. cond (test n) (joined votes (vote n)) votes) (backing_told n)
