-- `run` meets its contract, and ends: every step goes on in the script.
use mathlib.Core.Path.{◌≡◌}
use mathlib.Core.List.{List}
use Prim.Native.Nat.{ℕ}
use lib.ListN.{length}
use Rattle.print.specs.Texts.{line_most}
use Rattle.drill.specs.declared.Cursor.{Cursor}
use Rattle.drill.specs.Stepping.{way}
use Rattle.console.proofs.Showing.{Shows}
use Rattle.console.proofs.run.Given as goal

-- the buffer has room for a line, and so much has been handed out
pub record Handed (input : List ℕ) (cursor : Cursor) (text : List ℕ) (size : ℕ) : Type 0 where
  pub room : length text ≡ line_most
  pub shows : Shows input cursor size

abbrev pub invariant-loop-cursor : goal.invariant-loop-cursor
invariant-loop-cursor g l = Handed l.input l.cursor l.text l.size

abbrev pub decreases-loop-cursor : goal.decreases-loop-cursor
decreases-loop-cursor g l = way l.input l.cursor
