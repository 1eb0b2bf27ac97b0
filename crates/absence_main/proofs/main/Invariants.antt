-- `main` is safe and ends. The invariant: the buffers keep their lengths; the measure is what the library says is left.
use mathlib.Core.Path.{◌≡◌}
use lib.ListN.{length}
use Rattle.absence.specs.Lines.{part_size, room_for}
use Rattle.absence_main.proofs.main.Given as goal

abbrev pub invariant-loop-stream : goal.invariant-loop-stream
invariant-loop-stream l = (length l.part ≡ part_size) × (length l.lines ≡ room_for)

abbrev pub decreases-loop-stream : goal.decreases-loop-stream
decreases-loop-stream l = l.stream.left
