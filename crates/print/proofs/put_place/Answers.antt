-- `put_place` meets its contract.
use borrow.Author.Tests.{le-leb, lt-leb}
use Rattle.print.proofs.Writing.{within_none, within_one}
use Rattle.print.proofs.put_place.Goals as goal

pub returns-then-p-v : goal.returns-then-p-v
returns-then-p-v c = rw (le-leb _ _ c.if-p-v.true) (within_one _ _ _ _ c.put.ensures)

pub returns-else-p-v : goal.returns-else-p-v
returns-else-p-v c = rw (lt-leb _ _ c.if-p-v.false) (within_none 1 _ _)
