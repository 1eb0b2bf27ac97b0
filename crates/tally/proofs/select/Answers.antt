-- `select` meets its contract.
use Rattle.ballot.specs.Selection.{taken}
use Rattle.tally.proofs.select.Goals as goal

pub returns : goal.returns
unfolding taken
returns c = λ h are. rw (← c.choose-choice.ensures h are) (c.take_on.ensures h)
