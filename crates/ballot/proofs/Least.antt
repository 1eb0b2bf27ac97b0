-- What the least vote is, said by counts. Builds on specs/Least.antt.
use mathlib.Core.Path.{◌≡◌, refl, ap, ◌∙◌, fun_ext}
use mathlib.Core.Bool.{Bool, true, false, cond, ◌&&◌}
use mathlib.Core.List.{List, [], ◌∷◌}
use mathlib.Core.Logic.{◌⊎◌, inl, inr, ◌≢◌}
use mathlib.Core.Option.{Option, none, some}
use Prim.Native.Nat.{ℕ, ◌≤◌, ◌<◌}
use native.Mathlib.Omega.{arith}
use native.Mathlib.Decide.{dec_le, dec_lt}
use lib.Dec.{T, ltb, eqb→eq, eqb_refl}
use Rattle.wire.proofs.Tests.{tests, and_T, T_and, T-dec}
use Rattle.ballot.specs.Count.{bit, count_if}
use Rattle.ballot.specs.Ballot.{Ballot, votes}
use Rattle.ballot.specs.Least.{lower, least, or_zero, least_of}
use Rattle.ballot.proofs.Counting.{bit_T, bit_F, count_le, count_none, Same}

-- passes p and has the vote v; passes p and has a vote below v
abbrev pub with_vote : (Ballot → Bool) → ℕ → Ballot → Bool
with_vote p v m = p m && votes v m

abbrev pub below_vote : (Ballot → Bool) → ℕ → Ballot → Bool
below_vote p v m = p m && ltb m.vote v

pub data Least (p : Ballot → Bool) (ballots : List Ballot) : Option ℕ → Type 0 where
  nowhere : count_if p ballots ≡ 0 → Least p ballots none
  found : (v : ℕ) → 0 < count_if (with_vote p v) ballots → count_if (below_vote p v) ballots ≡ 0
      → Least p ballots (some v)

pub least_is : (p : Ballot → Bool) (ballots : List Ballot) → Least p ballots (least p ballots)
unfolding count_if least
least_is p [] = nowhere refl
least_is p (m ∷ ms) = go (p m) refl (least p ms) (least_is p ms)
  where
    off : (b : Bool) → p m ≡ false → bit (p m && b) ≡ 0
    off b e = bit_F (p m && b) (λ t. rw e at (and_T (p m) b t).0)

    on : (b : Bool) → p m ≡ true → T b → bit (p m && b) ≡ 1
    on b e t = bit_T (p m && b) (T_and (p m) b (rw e tt) t)

    own : p m ≡ true → bit (with_vote p m.vote m) ≡ 1
    own e = on (votes m.vote m) e (eqb_refl m.vote)

    low : (v w : ℕ) → w ≤ v → count_if (below_vote p w) ms ≤ count_if (below_vote p v) ms
    low v w h = count_le (below_vote p w) (below_vote p v) ms λ k t.
        let d = and_T (p k) (ltb k.vote w) t in T_and (p k) (ltb k.vote v) d.0 (omega tests)

    under : (v : ℕ) → v ≤ m.vote → bit (below_vote p v m) ≡ 0
    under v h = bit_F (below_vote p v m) λ t. let d = and_T (p m) (ltb m.vote v) t in omega tests

    lowest : (v : ℕ) → p m ≡ true → 0 < count_if (with_vote p v) ms → count_if (below_vote p v) ms ≡ 0
        → Dec (m.vote ≤ v) → Least p (m ∷ ms) (lower m.vote (some v))
    lowest v e i z (yes l) =
        let x : lower m.vote (some v) ≡ some m.vote = ap some (omega arith) in
        rw x (found m.vote (omega (arith, own e)) (omega (arith, under m.vote (omega arith), low v m.vote l)))
    lowest v e i z (no l) =
        let x : lower m.vote (some v) ≡ some v = ap some (omega arith) in
        rw x (found v (omega arith) (omega (arith, under v (omega arith))))

    go : (a : Bool) → p m ≡ a → (o : Option ℕ) → Least p ms o → Least p (m ∷ ms) (cond a (lower m.vote o) o)
    go false e none (nowhere z) = nowhere (rw e (omega arith))
    go false e (some v) (found _ i z) =
        found v (omega (arith, off (votes v m) e)) (omega (arith, off (ltb m.vote v) e))
    go true e none (nowhere z) =
        let part = count_le (below_vote p m.vote) p ms (λ k t. (and_T (p k) (ltb k.vote m.vote) t).0) in
        found m.vote (omega (arith, own e)) (omega (arith, under m.vote (omega arith)))
    go true e (some v) (found _ i z) = lowest v e i z (dec_le m.vote v)

-- a vote that passes is a vote
pub with_vote_votes : (p : Ballot → Bool) (v : ℕ) (ballots : List Ballot)
    → count_if (with_vote p v) ballots ≤ count_if (votes v) ballots
with_vote_votes p v ballots = count_le (with_vote p v) (votes v) ballots (λ m t. (and_T (p m) (votes v m) t).1)

pub with_vote_passes : (p : Ballot → Bool) (v : ℕ) (ballots : List Ballot)
    → count_if (with_vote p v) ballots ≤ count_if p ballots
with_vote_passes p v ballots = count_le (with_vote p v) p ballots (λ m t. (and_T (p m) (votes v m) t).0)

-- a vote is below every higher one
with_vote_below : (p : Ballot → Bool) (v w : ℕ) (ballots : List Ballot) → v < w
    → count_if (with_vote p v) ballots ≤ count_if (below_vote p w) ballots
with_vote_below p v w ballots h = count_le (with_vote p v) (below_vote p w) ballots λ m t.
    let x = and_T (p m) (votes v m) t in T_and (p m) (ltb m.vote w) x.0 (omega tests)

-- Two tests have the same least vote, be it in two lists, where the same votes pass.
pub least_agree : (p q : Ballot → Bool) (l k : List Ballot)
    → ((v : ℕ) → 0 < count_if (with_vote p v) l → 0 < count_if (with_vote q v) k)
    → ((v : ℕ) → 0 < count_if (with_vote q v) k → 0 < count_if (with_vote p v) l)
    → least p l ≡ least q k
least_agree p q l k there back = go (least p l) (least q k) (least_is p l) (least_is q k)
  where
    meet : (v w : ℕ) → 0 < count_if (with_vote p v) l → count_if (below_vote p v) l ≡ 0
        → 0 < count_if (with_vote q w) k → count_if (below_vote q w) k ≡ 0 → Dec (v < w) → Dec (w < v) → v ≡ w
    meet v w a b c d (yes h) x = omega (arith, with_vote_below q v w k h, there v a)
    meet v w a b c d (no h) (yes x) = omega (arith, with_vote_below p w v l x, back w c)
    meet v w a b c d (no h) (no x) = omega arith

    go : (x y : Option ℕ) → Least p l x → Least q k y → x ≡ y
    go none none a b = refl
    go none (some w) (nowhere z) (found _ i j) = absurd (omega (arith, with_vote_passes p w l, back w i))
    go (some v) none (found _ i j) (nowhere z) = absurd (omega (arith, with_vote_passes q v k, there v i))
    go (some v) (some w) (found _ a b) (found _ c d) = ap some (meet v w a b c d (dec_lt v w) (dec_lt w v))

-- the least vote does not depend on the order
pub least_same : (p : Ballot → Bool) (l k : List Ballot) → Same l k → least p l ≡ least p k
least_same p l k s =
    least_agree p p l k (λ v h. omega (arith, s (with_vote p v))) (λ v h. omega (arith, s (with_vote p v)))

pub least_of_same : (f g : ℕ → Bool) (l k : List Ballot) → Same l k → ((v : ℕ) → f v ≡ g v)
    → least_of f l ≡ least_of g k
unfolding least_of
least_of_same f g l k s h =
    ap or_zero (least_same (λ m. f m.vote) l k s ∙ ap (λ p. least p k) (fun_ext (λ m. h m.vote)))

-- The least vote that passes a test of plans.

-- 0, or some ballot's vote
abbrev pub Voted : ℕ → List Ballot → Type 0
Voted v ballots = (v ≡ 0) ⊎ (0 < count_if (votes v) ballots)

module _ (f : ℕ → Bool) (ballots : List Ballot) where
  abbrev test : Ballot → Bool
  test m = f m.vote

  -- a ballot that votes for a plan that passes is there
  voter_passes : (v : ℕ) → T (f v) → count_if (votes v) ballots ≤ count_if test ballots
  voter_passes v t = count_le (votes v) test ballots λ m x. rw (eqb→eq m.vote v x) t

  -- a vote that some ballot passes with, passes
  pub passes : (w : ℕ) → 0 < count_if (with_vote test w) ballots → T (f w)
  passes w h = elim (T-dec (f w)) [
    | inl t ↦ t
    | inr t ↦ absurd (omega (
      arith,
      count_none (with_vote test w) ballots λ m x.
          let d = and_T (f m.vote) (votes w m) x in t (rw (eqb→eq m.vote w d.1) at d.0),
    ))
  ]

  pub least_of_passes : least_of f ballots ≢ 0 → T (f (least_of f ballots))
  unfolding least_of
  least_of_passes = go (least test ballots) (least_is test ballots)
    where
      go : (o : Option ℕ) → Least test ballots o → or_zero o ≢ 0 → T (f (or_zero o))
      go none z d = absurd (d refl)
      go (some v) (found _ i z) d = passes v i

  pub least_of_voted : Voted (least_of f ballots) ballots
  unfolding least_of
  least_of_voted = go (least test ballots) (least_is test ballots)
    where
      go : (o : Option ℕ) → Least test ballots o → Voted (or_zero o) ballots
      go none (nowhere z) = inl refl
      go (some v) (found _ i z) = inr (omega (arith, with_vote_votes test v ballots))

  -- where a ballot passes, the least is a ballot's vote
  pub least_of_some : 0 < count_if test ballots → 0 < count_if (votes (least_of f ballots)) ballots
  unfolding least_of
  least_of_some h = go (least test ballots) (least_is test ballots)
    where
      go : (o : Option ℕ) → Least test ballots o → 0 < count_if (votes (or_zero o)) ballots
      go none (nowhere z) = absurd (omega arith)
      go (some v) (found _ i z) = omega (arith, with_vote_votes test v ballots)

  -- the least is not above any vote that passes
  pub least_of_least : (v : ℕ) → 0 < count_if (votes v) ballots → T (f v) → least_of f ballots ≤ v
  unfolding least_of
  least_of_least v i t = go (least test ballots) (least_is test ballots)
    where
      go : (o : Option ℕ) → Least test ballots o → or_zero o ≤ v
      go none (nowhere z) = absurd (omega (arith, voter_passes v t))
      go (some w) (found _ j z) = elim (dec_lt v w) [
        | yes l ↦ absurd (omega (
          arith,
          count_le (votes v) (below_vote test w) ballots λ m x.
              T_and (f m.vote) (ltb m.vote w) (rw (eqb→eq m.vote v x) t) (omega tests),
        ))
        | no l ↦ omega arith
      ]

  -- the only vote that passes is the least
  pub least_of_only : (v : ℕ) → 0 < count_if (votes v) ballots → T (f v) → ((w : ℕ) → T (f w) → w ≡ v)
      → least_of f ballots ≡ v
  unfolding least_of
  least_of_only v i t u = go (least test ballots) (least_is test ballots)
    where
      go : (o : Option ℕ) → Least test ballots o → or_zero o ≡ v
      go none (nowhere z) = absurd (omega (arith, voter_passes v t))
      go (some w) (found _ j z) = u w (passes w j)
