-- Class 2: where several plans are backed, more than E + b slots count, and so the answer is 'any' and never 'none'.
-- Stated of any list of ballots, for any crew. Builds on Counting.antt and Selection.antt.
use mathlib.Core.Path.{◌≡◌, refl, ap, ◌∙◌}
use mathlib.Core.Bool.{Bool, true, false, not, ◌&&◌}
use mathlib.Core.List.{List}
use mathlib.Core.Logic.{inl, inr, ◌≢◌}
use Prim.Native.Nat.{ℕ, ◌+◌, ◌≤◌, ◌<◌}
use native.Mathlib.Omega.{arith}
use native.Mathlib.Decide.{dec_le, dec_lt}
use lib.ListN.{length}
use lib.Dec.{T, leb, eqb→eq, not_T}
use Rattle.wire.proofs.Tests.{tests, and_T}
use Rattle.crew.specs.declared.Crew.{Crew}
use Rattle.crew.specs.Thresholds.{two, E}
use Rattle.ballot.specs.Count.{count_if}
use Rattle.ballot.specs.Ballot.{Ballot, votes}
use Rattle.ballot.specs.Selection.{supports, possible, backed, several, backing}
use Rattle.ballot.specs.Selection.{any, any_if, enough, answer, selection}
use Rattle.ballot.proofs.Counting.{count_le, count_none, count_not, Lowest, count_lowest}
use Rattle.ballot.proofs.Least.{with_vote}
use Rattle.ballot.proofs.Selection.{other_vote, Backs, by_more, backing_is, supports_is}

module _ (crew : Crew) (ballots : List Ballot) where
  -- the ballot is possible and votes v
  abbrev possible_for : ℕ → Ballot → Bool
  possible_for v = with_vote (possible crew ballots) v

  -- more than E slots support a possible ballot: where more than b do not, more than E + b count
  possible_beside : (m : Ballot) (p : Ballot → Bool) → T (possible crew ballots m)
      → ((k : Ballot) → T (p k) → T (supports m k) → ⊥) → crew.b < count_if p ballots
      → E crew + crew.b < length ballots
  unfolding possible
  possible_beside m p h apart more =
      let others = count_le p (λ k. not (supports m k)) ballots (λ k t. not_T (supports m k) (apart k t)) in
      omega (tests, count_not (supports m) ballots)

  -- m has the lowest stamp of the possible ballots that vote v
  abbrev LowestFor : ℕ → Ballot → Type 0
  LowestFor v m = Lowest (possible_for v) (λ k. k.stamp) ballots m

  -- where v's lowest stamp is not above w's, no possible ballot of w supports that of v: more than E + b slots count
  lower_rival : (v w : ℕ) → v ≢ w → (m o : Ballot) → LowestFor v m → LowestFor w o → m.stamp ≤ o.stamp
      → crew.b < count_if (possible_for w) ballots → E crew + crew.b < length ballots
  lower_rival v w d m o low lowest le more =
      let x = and_T (possible crew ballots m) (votes v m) low.0 in
      possible_beside m (λ k. possible_for w k && leb o.stamp k.stamp) x.0
      (λ k t s.
      let y = and_T (possible_for w k) (leb o.stamp k.stamp) t in
      let z = and_T (possible crew ballots k) (votes w k) y.0 in
      elim (supports_is m k s) [ inl e ↦ omega tests | inr e ↦ omega tests ])
      (omega (arith, lowest.1))

  -- where two plans have more than b possible slots each, more than E + b slots count
  rivals_count : (v w : ℕ) → v ≢ w → crew.b < count_if (possible_for v) ballots
      → crew.b < count_if (possible_for w) ballots → E crew + crew.b < length ballots
  rivals_count v w d i j =
      let x = count_lowest (possible_for v) (λ k. k.stamp) ballots (omega arith) in
      let y = count_lowest (possible_for w) (λ k. k.stamp) ballots (omega arith) in
      go x.0 y.0 x.1 y.1 (dec_le x.0.stamp y.0.stamp)
    where
      go : (m o : Ballot) → LowestFor v m → LowestFor w o → Dec (m.stamp ≤ o.stamp)
          → E crew + crew.b < length ballots
      go m o low lowest (yes h) = lower_rival v w d m o low lowest h j
      go m o low lowest (no h) = lower_rival w v (λ e. d (omega arith)) o m lowest low (omega arith) i

  -- a plan that is backed has more than b possible slots
  backed_possible : (v : ℕ) → 0 < count_if (with_vote (backed two crew ballots) v) ballots
      → crew.b < count_if (possible_for v) ballots
  unfolding backed
  backed_possible v i = elim (dec_lt crew.b (count_if (possible_for v) ballots)) [
    | yes h ↦ h
    | no h ↦ absurd (omega (
      arith,
      count_none (with_vote (backed two crew ballots) v) ballots λ m t.
          let x = and_T (backed two crew ballots m) (votes v m) t in
          omega (tests, ap (λ w. count_if (possible_for w) ballots) (eqb→eq m.vote v x.1)),
    ))
  ]

  -- where several plans are backed, slots enough for 'any' count: more than E + b
  pub several_enough : backing (backed two crew ballots) ballots ≡ several → T (enough two crew ballots)
  unfolding enough backed
  several_enough e = go (rw e at (backing_is test ballots))
    where
      test : Ballot → Bool
      test = backed two crew ballots

      go : Backs test ballots several → T (enough two crew ballots)
      go (by_more v i j) = elim (dec_lt (E crew + crew.b) (length ballots)) [
        | yes h ↦ omega tests
        | no h ↦ absurd (omega (
          arith,
          count_none (other_vote test v) ballots λ m t.
              let x = and_T (test m) (not (votes v m)) t in
              h (rivals_count v m.vote (λ e. omega tests) (backed_possible v i) (omega tests)),
        ))
      ]

  -- where several plans are backed, the answer is 'any'
  pub several_any : backing (backed two crew ballots) ballots ≡ several → selection two crew ballots ≡ any
  unfolding selection
  several_any e =
      ap (λ b. answer two b (enough two crew ballots)) e ∙ open_choice (enough two crew ballots) (several_enough e)
    where
      open_choice : (many : Bool) → T many → any_if many ≡ any
      open_choice true t = refl
      open_choice false t = absurd t
