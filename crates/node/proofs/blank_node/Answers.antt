-- The record of a refused start is all 0.
use Rattle.node.specs.Record.{blank}
use Rattle.node.proofs.blank_node.Goals as goal

pub returns : goal.returns
unfolding blank
returns c = simp c.blank_crew.ensures
