-- `run_long` is safe: the longest script is a part of what `long_script` gives.
use mathlib.Core.Path.{sym}
use native.Mathlib.Omega.{arith}
use lib.Seq.{length-take-le}
use Rattle.drill.specs.Run.{most_bytes}
use Rattle.lessons.proofs.run_long.Goals as goal

pub slice_bounds-run-end : goal.slice_bounds-run-end
slice_bounds-run-end g c =
    sym (length-take-le most_bytes c.long_script-script.result (omega (arith, c.long_script-script.ensures)))
