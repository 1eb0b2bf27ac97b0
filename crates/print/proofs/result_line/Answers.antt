-- `result_line` meets its contract.
use Rattle.print.specs.Texts.{result_line}
use Rattle.print.proofs.Writing.{within_then, within_one, laid, shown_is}
use native.Mathlib.Omega.{arith}
use Rattle.print.proofs.result_line.Goals as goal

pub returns : goal.returns
unfolding result_line
returns c =
    rw (← shown_is c.args.n, ← c.min-shown.ensures, ← c.from.ensures, ← c.from-2.ensures)
    (laid (omega arith)
    (within_then c.put_number-a.ensures
    (within_then (within_one _ _ _ _ c.put.ensures)
    (within_then c.put_number-b.ensures
    (within_then c.put_fields-c.ensures (within_one _ _ _ _ c.put-2.ensures))))))
