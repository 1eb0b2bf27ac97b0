-- `Cursor::note_all` meets its contract.
use mathlib.Core.Path.{◌≡◌}
use mathlib.Core.List.{List}
use Prim.Native.Nat.{ℕ, ◌-◌}
use lib.ListN.{length}
use Rattle.drill.specs.declared.Cursor.{Cursor}
use Rattle.drill.specs.Stepping.{lines_from, step_later}
use Rattle.drill.specs.Promises.{Standing}
use Rattle.drill.proofs.Cursor.note_all.Given as goal

-- The lines passed so far are noted: the step from here is the whole step.
pub record Noted (input : List ℕ) (c now : Cursor) : Type 0 where
  pub same : step_later c (lines_from input c.at) ≡ step_later now (lines_from input now.at)
  pub standing : Standing input now

abbrev pub invariant-loop-line : goal.invariant-loop-line
invariant-loop-line l = Noted l.input l.initial.self l.self

abbrev pub decreases-loop-line : goal.decreases-loop-line
decreases-loop-line l = length l.input - l.self.at
