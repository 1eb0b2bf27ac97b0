-- The invariant of `lay_parts`: the first i whole parts stand in the shares, and their priorities in
-- the array.
use mathlib.Core.List.{List}
use Prim.Native.Nat.{ℕ}
use lib.ListN.{length}
use Rattle.wire.proofs.Arrays.{Filling}
use Rattle.current.specs.Shares.{whole_part, remainder}
use Rattle.current.specs.Promises.{priority_of}
use Rattle.current.proofs.lay_parts.Given as goal

pub record Laid (demands : List ℕ) (budget : ℕ) (shares priorities : List ℕ) (i : ℕ) : Type 0 where
  pub wholes : Filling 0 (whole_part demands budget) (length demands) shares i
  pub order : Filling 0 (λ k. priority_of (remainder demands budget k) k) (length demands) priorities i

abbrev pub invariant-loop-i : goal.invariant-loop-i
invariant-loop-i l = Laid l.demands l.budget l.shares l.priorities l.i
