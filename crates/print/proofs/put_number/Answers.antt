-- `put_number` meets its contract.
use Rattle.print.specs.Texts.{decimal_of}
use Rattle.print.proofs.Writing.{within_then, within_one}
use Rattle.print.proofs.put_number.Goals as goal

pub returns : goal.returns
unfolding decimal_of
returns c =
    within_then c.put_place-a.ensures
    (within_then c.put_place-b.ensures
    (within_then c.put_place-c.ensures
    (within_then c.put_place-d.ensures (within_one _ _ _ _ c.put.ensures))))
