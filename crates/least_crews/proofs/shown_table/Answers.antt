-- `shown_table` meets its contract: the test of the whole table is computed here.
use mathlib.Core.Path.{refl}
use Rattle.wire.specs.Below.{every_below}
use Rattle.least_crews.proofs.Entries.{right, all_right, shown}
use Rattle.least_crews.proofs.shown_table.Goals as goal

pub returns : goal.returns
unfolding every_below right all_right
returns c = shown _ refl tt
