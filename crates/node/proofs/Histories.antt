-- The empty entries of a history: the test of all of them at once, and the test as a fact and back.
use mathlib.Core.Path.{◌≡◌, refl, ap, ◌∙◌}
use mathlib.Core.Bool.{true, ◌&&◌}
use mathlib.Core.List.{List}
use Prim.Native.Nat.{ℕ, zero, suc, ◌+◌, ◌-◌, ◌≤◌, ◌<◌}
use native.Mathlib.Omega.{arith}
use native.Mathlib.Decide.{ℕ_discrete}
use native.Mathlib.Numerals.{add-one}
use lib.ListN.{length, get_or, drop, drop_of_length-le}
use lib.Seq.{drop-cons}
use lib.Dec.{eqb}
use borrow.Author.Tests.{eq-eqb, eqb-true}
use Rattle.wire.proofs.Tests.{both_true}
use Rattle.message.specs.Reading.{all_zero}
use Rattle.node.specs.Soundness.{empty_from}

-- the test of all entries from a phase on
pub empty_rest : (history : List ℕ) (from count : ℕ) → count ≡ length history - from
    → all_zero (drop from history) ≡ empty_from history from count
unfolding empty_from all_zero
empty_rest history from zero h = let past : length history ≤ from = omega arith in rw (drop_of_length-le history past)
empty_rest history from (suc count) h =
    let here : from < length history = omega arith in
    let rest = rw add-one at (empty_rest history (from + 1) count (omega arith)) in
    rw (drop-cons history from 0 here, add-one from) (ap (λ b. eqb (get_or history from 0) 0 && b) rest)

-- entries that are 0 pass the test
pub empty_is : (history : List ℕ) (from count : ℕ)
    → ((phase : ℕ) → from ≤ phase → phase < from + count → get_or history phase 0 ≡ 0)
    → empty_from history from count ≡ true
unfolding empty_from
empty_is history from zero f = refl
empty_is history from (suc count) f =
    simp (
      eq-eqb (get_or history from 0) 0 (f from (omega arith) (omega arith)),
      empty_is history (from + 1) count (λ phase a b. f phase (omega arith) (omega arith)),
    )

-- entries that pass the test are 0
pub is_empty : (history : List ℕ) (from count : ℕ) → empty_from history from count ≡ true
    → (phase : ℕ) → from ≤ phase → phase < from + count → get_or history phase 0 ≡ 0
unfolding empty_from
is_empty history from zero e phase a b = absurd (omega arith)
is_empty history from (suc count) e phase a b =
    let tests = both_true (eqb (get_or history from 0) 0) (empty_from history (from + 1) count) e in
    elim (ℕ_discrete phase from) [
      | yes same ↦ ap (λ k. get_or history k 0) same ∙ eqb-true (get_or history from 0) 0 tests.0
      | no other ↦ is_empty history (from + 1) count tests.1 phase (omega arith) (omega arith)
    ]
