-- `results_of` meets its contract. The invariant: the results of the first i nodes are gathered.
use Rattle.aisle.proofs.Results.{Gathered}
use Rattle.aisle.proofs.results_of.Given as goal

abbrev pub invariant-loop-i : goal.invariant-loop-i
invariant-loop-i l = Gathered l.nodes l.n l.results l.i
