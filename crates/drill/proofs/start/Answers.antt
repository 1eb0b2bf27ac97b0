-- `start` meets its contract.
use Rattle.drill.specs.Stepping.{outset}
use Rattle.drill.proofs.start.Goals as goal

pub returns : goal.returns
unfolding outset
returns c = rw (← c.blank_crew.ensures, ← c.begin.ensures)
