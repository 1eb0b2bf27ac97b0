-- `mark_stamped` meets its contract. The invariant: the first q slots are marked as they should be.
use mathlib.Core.Bool.{false}
use Rattle.crew.specs.Parts.{most_nodes}
use Rattle.wire.proofs.Arrays.{Filling}
use Rattle.tally.specs.Marks.{stamped_with}
use Rattle.tally.proofs.counts.mark_stamped.Given as goal

abbrev pub invariant-loop-q : goal.invariant-loop-q
invariant-loop-q l =
    Filling false (stamped_with l.columns.present l.columns.stamps l.stamp) most_nodes l.marks l.q
