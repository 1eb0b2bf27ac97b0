-- `numbers_on` meets its contract. The invariant: the numbers of the fields that have come are laid.
use Rattle.script.proofs.Fields.{Laid}
use Rattle.script.proofs.numbers_on.Given as goal

abbrev pub invariant-loop-field : goal.invariant-loop-field
invariant-loop-field l = Laid l.yielded l.count l.values
