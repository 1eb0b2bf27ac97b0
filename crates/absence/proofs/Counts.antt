-- One count, and all of them: what bringing the counts up to date leaves at each node.
use mathlib.Core.Path.{◌≡◌, refl, ap, ◌∙◌}
use mathlib.Core.Logic.{◌≢◌}
use mathlib.Core.Bool.{Bool, true, false}
use mathlib.Core.List.{List}
use Prim.Native.Nat.{ℕ, zero, suc, ◌+◌, ◌-◌, ◌%◌, ◌<◌, ◌≤◌}
use native.Mathlib.Omega.{arith}
use native.Mathlib.Numerals.{add-one}
use lib.ListN.{length, get_or, set, length-set}
use lib.Seq.{get_or-set_same, get_or-set_other}
use Rattle.wire.proofs.Tests.{by_equality}
use Rattle.ballot.specs.Count.{bit}
use Rattle.absence.specs.Held.{misses}
use Rattle.absence.specs.Ring.{changed, recounted_to}

-- one count, first for the record that comes and then for the one that goes
changed_in_turn : (count : ℕ) (comes goes : Bool)
    → ((count + bit comes) % 256 + (256 - bit goes)) % 256 ≡ changed count comes goes
changed_in_turn count comes true = omega arith
changed_in_turn count comes false = omega arith

module _ (counts : List ℕ) (comes goes : ℕ) where
  pub recounted_long : (n : ℕ) → length (recounted_to n counts comes goes) ≡ length counts
  unfolding recounted_to
  recounted_long zero = refl
  recounted_long (suc q) = simp length-set (recounted_long q)

  -- the counts from node n on are as they were
  later_kept : (n q : ℕ) → n ≤ q → get_or (recounted_to n counts comes goes) q 0 ≡ get_or counts q 0
  unfolding recounted_to
  later_kept zero q h = refl
  later_kept (suc n) q h =
      let other : q ≢ n = λ e. omega arith in
      get_or-set_other (recounted_to n counts comes goes) n q _ 0 other ∙ later_kept n q (omega arith)

  -- one node more, as the loop works it out
  pub recount_step : (q : ℕ) {up down : ℕ} {so_far : List ℕ}
      → so_far ≡ recounted_to q counts comes goes
      → up ≡ bit (misses q comes)
      → down ≡ bit (misses q goes)
      → set so_far q (((get_or so_far q 0 + up) % 256 + (256 - down)) % 256) ≡ recounted_to (q + 1) counts comes goes
  unfolding recounted_to
  recount_step q {up} {down} {so_far} done u d =
      let kept : get_or so_far q 0 ≡ get_or counts q 0 =
      ap (λ (l : List ℕ). get_or l q 0) done ∙ later_kept q q (omega arith) in
      let value : ((get_or so_far q 0 + up) % 256 + (256 - down)) % 256
      ≡ changed (get_or counts q 0) (misses q comes) (misses q goes) =
      rw (kept, u, d) (changed_in_turn (get_or counts q 0) (misses q comes) (misses q goes)) in
      rw (add-one, value, done)

  -- those below n are brought up to date
  pub recounted_at : (n q : ℕ) → q < n → n ≤ length counts
      → get_or (recounted_to n counts comes goes) q 0 ≡ changed (get_or counts q 0) (misses q comes) (misses q goes)
  unfolding recounted_to
  recounted_at zero q l h = absurd (omega arith)
  recounted_at (suc n) q l h =
      by_equality q n
      (λ e.
      let inside : n < length (recounted_to n counts comes goes) = omega (arith, recounted_long n) in
      rw e (get_or-set_same (recounted_to n counts comes goes) n _ 0 inside))
      (λ e.
      get_or-set_other (recounted_to n counts comes goes) n q _ 0 e
      ∙ recounted_at n q (omega (arith, e)) (omega arith))
