-- `whole_round` meets its contract.
use Rattle.aisle.specs.Round.{go_of}
use Rattle.aisle.proofs.whole_round.Goals as goal

pub returns : goal.returns
unfolding go_of
returns c = rw (c.records_after.ensures, c.phase_after.ensures, c.round_after.ensures, c.empty.ensures)
