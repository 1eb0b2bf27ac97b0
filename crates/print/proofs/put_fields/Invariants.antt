-- `put_fields` meets its contract.
use mathlib.Core.Path.{◌≡◌}
use mathlib.Core.Bool.{Bool}
use mathlib.Core.List.{List}
use lib.ListN.{length}
use Prim.Native.Nat.{ℕ, ◌≤◌, ◌+◌, ◌*◌, ◌-◌}
use Rattle.print.specs.Texts.{field_most, fields_from}
use Rattle.print.proofs.Writing.{Completes}
use Rattle.print.proofs.put_fields.Given as goal

-- i nodes' fields are laid, up to `at`; those of the nodes left complete the fields of all.
pub record Laying (buf₀ : List ℕ) (start n : ℕ) (results : List ℕ) (honest : List Bool) (buf : List ℕ) (at i : ℕ)
    : Type 0 where
  pub near : at ≤ start + field_most * i
  pub same_size : length buf ≡ length buf₀
  pub left : Completes (fields_from results honest i (n - i)) buf at (fields_from results honest 0 n) buf₀ start

abbrev pub invariant-loop-i : goal.invariant-loop-i
invariant-loop-i l = Laying l.initial.buf l.start l.n l.results l.honest l.buf l.at l.i
