-- `Pending::empty` meets its contract.
use Rattle.pending.specs.Pairs.{nothing}
use Rattle.pending.proofs.Pending.empty.Goals as goal

pub returns : goal.returns
unfolding nothing
returns c = rw c.nothing.ensures
