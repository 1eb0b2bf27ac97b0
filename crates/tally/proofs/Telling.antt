-- What is told of slots one after the other: a slot that says what an earlier one said adds nothing, where saying a
-- thing again changes nothing and the order does not matter. So it is with the least vote, with the votes that are
-- backed, and with the highest count.
use mathlib.Core.Path.{◌≡◌, refl, sym, ap, ◌∙◌}
use mathlib.Core.Bool.{Bool, true, false, not, cond, ◌&&◌, false≢true}
use mathlib.Core.List.{List}
use mathlib.Core.Option.{Option, none, some}
use Prim.Native.Nat.{ℕ, zero, suc, ◌+◌, ◌<◌, max}
use native.Mathlib.Numerals.{add-one}
use native.Mathlib.Omega.{arith}
use lib.Dec.{T, eqb, eqb→eq}
use lib.ListN.{get_or}
use borrow.Author.Tests.{ltb-true, eq-eqb, ne_eqb}
use Rattle.wire.proofs.Tests.{by_equality, and_T}
use Rattle.ballot.specs.Selection.{Backing, nobody, sole, several}
use Rattle.ballot.proofs.Counting.{tally_some}
use Rattle.tally.specs.Marks.{marked, voting, voters_of, repeated, is_new, told, lowered, joined}

is_true : (b : Bool) → T b → b ≡ true
is_true true t = refl
is_true false t = absurd t

-- saying a thing again changes nothing, and the order does not matter
pub record Settles {S : Type 0} (more : S → ℕ → S) : Type 0 where
  pub again : (s : S) (v : ℕ) → more (more s v) v ≡ more s v
  pub either : (s : S) (v w : ℕ) → more (more s v) w ≡ more (more s w) v

pub lowered_settles : Settles lowered
lowered_settles = record { again = again; either = either }
  where
    again : (o : Option ℕ) (v : ℕ) → lowered (lowered o v) v ≡ lowered o v
    again none v = ap some (omega arith)
    again (some u) v = ap some (omega arith)

    either : (o : Option ℕ) (v w : ℕ) → lowered (lowered o v) w ≡ lowered (lowered o w) v
    either none v w = ap some (omega arith)
    either (some u) v w = ap some (omega arith)

pub max_settles : Settles max
max_settles = record { again = λ s v. omega arith; either = λ s v w. omega arith }

pub joined_settles : Settles joined
joined_settles = record { again = again; either = either }
  where
    again : (b : Backing) (v : ℕ) → joined (joined b v) v ≡ joined b v
    again nobody v = rw (eq-eqb v v refl)
    again (sole u) v = go (eqb u v) refl
      where
        go : (same : Bool) → eqb u v ≡ same → joined (cond same (sole u) several) v ≡ cond same (sole u) several
        go true e = rw e
        go false e = refl
    again several v = refl

    either : (b : Backing) (v w : ℕ) → joined (joined b v) w ≡ joined (joined b w) v
    either nobody v w =
        by_equality v w
        (λ e. rw e)
        (λ e. rw (ne_eqb v w e, ne_eqb w v (λ f. e (sym f))))
    either (sole u) v w = go (eqb u v) refl (eqb u w) refl
      where
        go : (a : Bool) → eqb u v ≡ a → (b : Bool) → eqb u w ≡ b
            → joined (cond a (sole u) several) w ≡ joined (cond b (sole u) several) v
        go true e true f = rw (e, f)
        go true e false f = rw f
        go false e true f = rw e
        go false e false f = refl
    either several v w = refl

module _ {S : Type 0} (more : S → ℕ → S) (settles : Settles more) (start : S) (test : ℕ → Bool) (value : ℕ → ℕ) where
  abbrev so_far : ℕ → S
  so_far = told more start test value

  -- what an earlier slot told adds nothing
  told_known : (n p : ℕ) → p < n → test p ≡ true → more (so_far n) (value p) ≡ so_far n
  unfolding told
  told_known zero p less here = absurd (omega arith)
  told_known (suc n) p less here =
      by_equality p n
      (λ same. rw (ap test (sym same) ∙ here, same) (settles.again (so_far n) (value n)))
      (λ apart. go (test n) (told_known n p (omega (arith, apart)) here))
    where
      go : (b : Bool) → more (so_far n) (value p) ≡ so_far n
          → more (cond b (more (so_far n) (value n)) (so_far n)) (value p)
          ≡ cond b (more (so_far n) (value n)) (so_far n)
      go true known =
          settles.either (so_far n) (value n) (value p) ∙ ap (λ s. more s (value n)) known
      go false known = known

  -- The test goes by presence and vote, and so does what a slot tells.
  module _ (present : List Bool) (votes : List ℕ)
      (there : (q : ℕ) → marked present q ≡ false → test q ≡ false)
      (alike : (p q : ℕ) → marked present p ≡ true → marked present q ≡ true → get_or votes p 0 ≡ get_or votes q 0
      → (test p ≡ test q) × (value p ≡ value q)) where
    -- one slot more, told where it is the first with its vote
    pub told_new : (q : ℕ)
        → cond (is_new present votes q && test q) (more (so_far q) (value q)) (so_far q) ≡ so_far (q + 1)
    unfolding told
    told_new q = rw (add-one q) (go (marked present q) refl (repeated present votes q) refl (test q) refl)
      where
        go : (here : Bool) → marked present q ≡ here → (again : Bool) → repeated present votes q ≡ again
            → (passes : Bool) → test q ≡ passes
            → cond ((here && not again) && passes) (more (so_far q) (value q)) (so_far q)
            ≡ cond passes (more (so_far q) (value q)) (so_far q)
        go here e again f false g = by_false (here && not again)
          where
            by_false : (b : Bool) → cond (b && false) (more (so_far q) (value q)) (so_far q) ≡ so_far q
            by_false true = refl
            by_false false = refl
        go false e again f true g = absurd (false≢true (sym (there q e) ∙ g))
        go true e false f true g = refl
        go true e true f true g =
            known (tally_some (voting present votes (get_or votes q 0)) q (ltb-true 0 (voters_of present votes q q) f))
          where
            known : (p : ℕ) × (p < q) × T (voting present votes (get_or votes q 0) p)
                → so_far q ≡ more (so_far q) (value q)
            known (p, less, says) = sym (ap (more (so_far q)) (sym same.1) ∙ told_known q p less (same.0 ∙ g))
              where
                both : T (marked present p) × T (eqb (get_or votes p 0) (get_or votes q 0))
                both = and_T (marked present p) (eqb (get_or votes p 0) (get_or votes q 0)) says

                same : (test p ≡ test q) × (value p ≡ value q)
                same = alike p q (is_true (marked present p) both.0) e (eqb→eq _ _ both.1)
