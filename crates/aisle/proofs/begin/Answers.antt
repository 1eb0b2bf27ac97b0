-- `begin` meets its contract.
use Rattle.aisle.specs.Start.{begun_of}
use Rattle.aisle.proofs.begin.Goals as goal

pub returns : goal.returns
unfolding begun_of
returns c = rw (c.honest_of.ensures, c.start_nodes.ensures, c.empty.ensures)
