-- `bad_line` meets its contract.
use Rattle.print.specs.Texts.{bad_line}
use Rattle.print.proofs.Writing.{within_then, within_one, laid}
use native.Mathlib.Omega.{arith}
use Rattle.print.proofs.bad_line.Goals as goal

pub returns : goal.returns
unfolding bad_line
returns c =
    laid (omega arith)
    (within_then c.put_text-a.ensures
    (within_then c.put_number-b.ensures (within_one _ _ _ _ c.put.ensures)))
