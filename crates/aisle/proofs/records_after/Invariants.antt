-- `records_after` meets its contract. The invariant: the first receivers' records are those after the round, the others
-- are as they were.
use Rattle.aisle.proofs.Records.{Taking}
use Rattle.aisle.proofs.records_after.Given as goal

abbrev pub invariant-loop-receiver : goal.invariant-loop-receiver
invariant-loop-receiver l = Taking l.setup l.moment l.node-items l.receiver
