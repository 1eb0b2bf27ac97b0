-- `put_text` meets its contract.
use mathlib.Core.Path.{refl}
use Rattle.print.proofs.Writing.{within_then, within_one}
use Rattle.absence.proofs.put_text.Goals as goal

pub returns : goal.returns
returns c = within_then c.put_count-end.ensures (within_one _ _ _ _ refl)
