-- `start_nodes` meets its contract. The invariant: the first i nodes have started.
use Rattle.aisle.proofs.Tables.{Tabled}
use Rattle.node.specs.Starting.{start_of}
use Rattle.node.specs.Record.{blank}
use Rattle.wire.specs.Outcome.{value_or}
use lib.ListN.{get_or}
use Rattle.crew.specs.Parts.{most_nodes}
use Rattle.aisle.proofs.start_nodes.Given as goal

abbrev pub invariant-loop-i : goal.invariant-loop-i
invariant-loop-i l =
    Tabled (λ j. value_or blank (start_of l.crew j 1 (get_or l.plans j 0))) most_nodes l.node-items l.i
