-- `Texts::put_line` meets its contract.
use Rattle.script.specs.Lines.{newline}
use Rattle.absence.specs.Lines.{counts_line}
use Rattle.absence.proofs.Digits.{text_some}
use Rattle.absence.proofs.Spills.{spilt_end}
use Rattle.absence.proofs.Texts.put_line.Goals as goal

pub returns : goal.returns
unfolding counts_line
returns c = spilt_end c.put_spaced-at.ensures c.put_text.ensures (text_some _ newline)
