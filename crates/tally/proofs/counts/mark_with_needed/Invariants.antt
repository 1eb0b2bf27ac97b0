-- `mark_with_needed` meets its contract. The invariant: the first q slots are marked as they should be.
use mathlib.Core.Bool.{false}
use Rattle.crew.specs.Parts.{most_nodes}
use Rattle.wire.proofs.Arrays.{Filling}
use Rattle.tally.specs.Marks.{has_needed}
use Rattle.tally.proofs.counts.mark_with_needed.Given as goal

abbrev pub invariant-loop-q : goal.invariant-loop-q
invariant-loop-q l =
    Filling false (has_needed l.columns.present l.columns.votes l.columns.stamps l.histories l.needed) most_nodes
    l.marks l.q
