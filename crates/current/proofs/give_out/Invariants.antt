-- The invariant of `give_out`: the first i shares have what their shuttles get of the mA left over,
-- the others are as they were.
use mathlib.Core.Path.{◌≡◌}
use mathlib.Core.List.{List}
use Prim.Native.Nat.{ℕ, ◌≤◌}
use lib.ListN.{length, get_or}
use Rattle.wire.proofs.Arrays.{Filling}
use Rattle.current.specs.Promises.{with_extra}
use Rattle.current.proofs.give_out.Given as goal

pub record Given (priorities : List ℕ) (left : ℕ) (shares₀ shares : List ℕ) (i : ℕ) : Type 0 where
  pub given : Filling 0 (with_extra priorities left shares₀) (length shares₀) shares i
  pub kept : (k : ℕ) → i ≤ k → get_or shares k 0 ≡ get_or shares₀ k 0

abbrev pub invariant-loop-i : goal.invariant-loop-i
invariant-loop-i l = Given l.priorities l.left l.initial.shares l.shares l.i
