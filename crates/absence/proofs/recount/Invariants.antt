-- `recount` meets its contract. The invariant: the counts of the first q nodes are brought up to date.
use mathlib.Core.Path.{◌≡◌}
use Rattle.absence.specs.Ring.{recounted_to}
use Rattle.absence.proofs.recount.Given as goal

abbrev pub invariant-loop-q : goal.invariant-loop-q
invariant-loop-q l = l.missing ≡ recounted_to l.q l.initial.missing l.comes l.goes
