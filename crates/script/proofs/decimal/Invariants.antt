-- `decimal` meets its contract.
use mathlib.Core.Path.{◌≡◌}
use mathlib.Core.List.{List}
use Prim.Native.Nat.{ℕ, ◌≤◌}
use lib.ListN.{drop}
use Rattle.script.specs.Fields.{value_from, number_of}
use Rattle.script.proofs.decimal.Given as goal

-- the digits before place i have the value v, and with those left they give the number of the whole field
pub record Read (most : ℕ) (s : List ℕ) (v i : ℕ) : Type 0 where
  pub low : v ≤ most
  pub rest : value_from most v (drop i s) ≡ number_of most s

abbrev pub invariant-loop-byte : goal.invariant-loop-byte
invariant-loop-byte l = Read l.most l.s l.value l.byte-index
