-- `find_plans` meets its contract. The invariant: the plans are those that the first q slots vote for.
use lib.ListN.{get_or}
use Rattle.tally.specs.Marks.{reaching}
use Rattle.tally.specs.Promises.{Holds}
use Rattle.tally.proofs.counts.find_plans.Given as goal

abbrev pub invariant-loop-q : goal.invariant-loop-q
invariant-loop-q l =
    Holds (reaching l.columns.present l.marks l.columns.votes l.slots.count l.needed)
    (λ p. get_or l.columns.votes p 0) l.q l.plans
