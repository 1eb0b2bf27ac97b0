-- A turn of `start_nodes` starts one node more, and at the end all have started.
use Rattle.wire.proofs.Tables.{filled_table}
use Rattle.aisle.proofs.start_nodes.Goals as goal

pub returns : goal.returns
returns c = filled_table c.loop-i.invariant c.loop-i-test.false
