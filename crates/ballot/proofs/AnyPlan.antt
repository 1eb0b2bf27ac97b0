-- The laws of the choice for 'any'. No other proof looks into `any_plan`: what is taken for 'any' is settled by its
-- definition and these laws alone.
use mathlib.Core.Path.{◌≡◌, ap}
use mathlib.Core.List.{List, [], ◌∷◌}
use mathlib.Core.Logic.{◌≢◌}
use Prim.Native.Nat.{ℕ, ◌≤◌, ◌<◌}
use native.Mathlib.Omega.{arith}
use native.Mathlib.Decide.{ℕ_discrete}
use lib.ListN.{length}
use lib.Dec.{T, ltb, eqb→eq}
use Rattle.wire.proofs.Tests.{tests, eq→eqb}
use Rattle.crew.specs.declared.Crew.{Crew}
use Rattle.ballot.specs.Count.{count_if}
use Rattle.ballot.specs.Ballot.{Ballot, votes}
use Rattle.ballot.specs.Selection.{leading, most_voted, any_plan}
use Rattle.ballot.proofs.Counting.{count_le, count_none, count_peak, Same}
use Rattle.ballot.proofs.Least.{Voted, least_of_same, least_of_only, least_of_voted, least_of_some}

-- it depends on how often each ballot is there, and on nothing else
pub any_same : (crew : Crew) (l k : List Ballot) → Same l k → any_plan crew l ≡ any_plan crew k
unfolding any_plan most_voted leading
any_same crew l k s = least_of_same (leading l) (leading k) l k s (λ v. simp s)

-- a plan with more than b slots, and more than any rival, is taken
pub any_leader : (crew : Crew) (ballots : List Ballot) (v : ℕ) → crew.b < count_if (votes v) ballots
    → ((w : ℕ) → w ≢ v → count_if (votes w) ballots < count_if (votes v) ballots) → any_plan crew ballots ≡ v
unfolding any_plan most_voted leading
any_leader crew ballots v more h =
    least_of_only (leading ballots) ballots v (omega arith) (eq→eqb _ _ (count_none _ ballots unbeaten)) λ w t.
    elim (ℕ_discrete w v) [ yes e ↦ e | no e ↦ absurd (omega (tests, h w e, beaten w e)) ]
  where
    unbeaten : (k : Ballot) → T (ltb (count_if (votes v) ballots) (count_if (votes k.vote) ballots)) → ⊥
    unbeaten k x = elim (ℕ_discrete k.vote v) [
      | yes e ↦ omega (tests, ap (λ y. count_if (votes y) ballots) e)
      | no e ↦ omega (tests, h k.vote e)
    ]

    -- every slot of v beats a rival
    beaten : (w : ℕ) → w ≢ v
        → count_if (votes v) ballots ≤ count_if
        (λ k. ltb (count_if (votes w) ballots) (count_if (votes k.vote) ballots)) ballots
    beaten w e = count_le (votes v) _ ballots λ k x.
        omega (tests, h w e, ap (λ y. count_if (votes y) ballots) (eqb→eq k.vote v x))

-- it is some ballot's vote, or 0
pub any_voted : (crew : Crew) (ballots : List Ballot) → Voted (any_plan crew ballots) ballots
unfolding any_plan most_voted
any_voted crew ballots = least_of_voted (leading ballots) ballots

-- where slots count and none votes 0, it is a plan
pub any_plan_lem : (crew : Crew) (ballots : List Ballot) → 0 < length ballots → count_if (votes 0) ballots ≡ 0
    → any_plan crew ballots ≢ 0
unfolding any_plan most_voted leading
any_plan_lem crew [] h z e = omega arith
any_plan_lem crew (m ∷ ms) h z e =
    let ballots = m ∷ ms in
    let top = count_peak (λ k. count_if (votes k.vote) ballots) m ms in
    let leads = top.1.1 (λ k. leading ballots k.vote) (eq→eqb _ _ top.1.0) in
    omega (arith, least_of_some (leading ballots) ballots leads, ap (λ v. count_if (votes v) ballots) e)
