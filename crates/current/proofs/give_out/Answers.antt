-- `give_out` meets its contract.
use borrow.Author.Rules.{rules}
use Rattle.wire.proofs.Tables.{filled_table}
use Rattle.current.proofs.give_out.Goals as goal

pub returns : goal.returns
returns c = filled_table c.loop-i.invariant.given (search rules)
