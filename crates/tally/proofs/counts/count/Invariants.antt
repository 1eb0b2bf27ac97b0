-- `count` meets its contract. The invariant: the count is that of the first q slots, by any test whose answers the
-- calls give.
use Prim.Native.Nat.{◌≤◌}
use Rattle.tally.specs.Promises.{CountedBy}
use Rattle.tally.proofs.counts.count.Given as goal

abbrev pub invariant-loop-q : goal.invariant-loop-q
invariant-loop-q g l = (l.count ≤ l.q) × CountedBy (goal.F-post g l.test) l.q l.count
