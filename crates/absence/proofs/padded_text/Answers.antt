-- `padded_text` meets its contract.
use Rattle.absence.specs.Promises.{padded_text}
use Rattle.absence.proofs.padded_text.Goals as goal

pub returns : goal.returns
unfolding padded_text
returns c = c.put_text.ensures.wrote.left
