-- `put` meets its contract.
use mathlib.Core.Path.{sym}
use lib.Seq.{set_out}
use Rattle.print.proofs.put.Goals as goal

pub returns-else-at-buf : goal.returns-else-at-buf
returns-else-at-buf c = sym (set_out _ _ _ c.if-at-buf.false)
