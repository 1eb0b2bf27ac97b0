-- `most_votes` meets its contract. The invariant: the count is the highest of the first q slots.
use mathlib.Core.Path.{◌≡◌}
use Rattle.tally.specs.Marks.{marked, voters_of, highest}
use Rattle.tally.proofs.counts.most_votes.Given as goal

abbrev pub invariant-loop-q : goal.invariant-loop-q
invariant-loop-q l =
    l.most ≡ highest (marked l.columns.present) (voters_of l.columns.present l.columns.votes l.slots.count) l.q
