-- What the loops over slots go by that mark possible slots, find plans and look for the highest count: a slot that says
-- what an earlier one said has its mark, and adds nothing to what is found.
use mathlib.Core.Path.{◌≡◌, refl, sym, ap, ◌∙◌}
use mathlib.Core.Bool.{Bool, true, false, cond, ◌&&◌}
use mathlib.Core.List.{List}
use mathlib.Core.Option.{none}
use Prim.Native.Nat.{ℕ, ◌+◌, max}
use lib.ListN.{get_or}
use Rattle.wire.proofs.Tests.{both_true}
use Rattle.ballot.specs.Count.{tally}
use Rattle.ballot.specs.Selection.{nobody}
use Rattle.tally.specs.declared.counts.Needed.{Needed}
use Rattle.tally.specs.declared.counts.Plans.{Plans}
use Rattle.tally.specs.declared.counts.Plans.TheVariants.{Nothing}
use Rattle.tally.specs.Marks.{
  marked,
  voting,
  voters_of,
  has_needed,
  is_new,
  reaching,
  told,
  lowered,
  joined,
  highest,
}
use Rattle.tally.specs.Promises.{Alike, WithPlan, Holds}
use Rattle.tally.proofs.Telling.{told_new, lowered_settles, joined_settles, max_settles}

-- a slot that says what an earlier one said is possible as that one is
pub alike_needed : {present : List Bool} {votes stamps : List ℕ} (histories : List ℕ) (needed : Needed) {q p : ℕ}
    → Alike present votes stamps q p
    → has_needed present votes stamps histories needed p ≡ has_needed present votes stamps histories needed q
alike_needed histories needed alike = rw (alike.here, alike.there, alike.vote, alike.stamp)

-- The plans that slots vote for and that so many marked slots have, found one slot after the other.
module _ (present marks : List Bool) (votes : List ℕ) (n needed : ℕ) where
  abbrev test : ℕ → Bool
  test = reaching present marks votes n needed

  abbrev vote : ℕ → ℕ
  vote q = get_or votes q 0

  there : (q : ℕ) → marked present q ≡ false → test q ≡ false
  there q absent = rw absent

  alike : (p q : ℕ) → marked present p ≡ true → marked present q ≡ true → vote p ≡ vote q
      → (test p ≡ test q) × (vote p ≡ vote q)
  alike p q first second same = (rw (first, second, same), same)

  pub holds_none : Holds test vote 0 Nothing
  unfolding told
  holds_none = record { votes = refl; least = refl }

  -- one slot more: it is new and so many have its vote, or it adds nothing
  module _ {q : ℕ} {before : Plans} (held : Holds test vote q before) where
    pub holds_more : {after : Plans} → (is_new present votes q && test q) ≡ true → WithPlan before (vote q) after
        → Holds test vote (q + 1) after
    holds_more reached more = record {
      votes = more.votes ∙ ap (λ b. joined b (vote q)) held.votes
          ∙ rw reached at (told_new joined joined_settles nobody test vote present votes there alike q);
      least = more.least ∙ ap (λ o. lowered o (vote q)) held.least
          ∙ rw reached at (told_new lowered lowered_settles none test vote present votes there alike q);
    }

    pub holds_same : (is_new present votes q && test q) ≡ false → Holds test vote (q + 1) before
    holds_same other = record {
      votes = held.votes ∙ rw other at (told_new joined joined_settles nobody test vote present votes there alike q);
      least = held.least ∙ rw other at (told_new lowered lowered_settles none test vote present votes there alike q);
    }

-- the highest count of votes, with one slot more: that of its vote, where the slot is the first with it
pub most_more : (present : List Bool) (votes : List ℕ) (n q most : ℕ)
    → most ≡ highest (marked present) (voters_of present votes n) q
    → cond (is_new present votes q) (max most (voters_of present votes n q)) most
    ≡ highest (marked present) (voters_of present votes n) (q + 1)
most_more present votes n q most is =
    go (is_new present votes q) refl
    ∙ told_new max max_settles 0 (marked present) voters present votes (λ k e. e)
    (λ a b first second same. (first ∙ sym second, ap (λ v. tally (voting present votes v) n) same)) q
  where
    voters : ℕ → ℕ
    voters = voters_of present votes n

    -- a slot that is new is there
    go : (new : Bool) → is_new present votes q ≡ new
        → cond (is_new present votes q) (max most (voters q)) most
        ≡ cond (is_new present votes q && marked present q) (max (highest (marked present) voters q) (voters q))
        (highest (marked present) voters q)
    go true e = rw (e, (both_true (marked present q) _ e).0, is)
    go false e = rw (e, is)
