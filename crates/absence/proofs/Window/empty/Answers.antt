-- `Window::empty` meets its contract.
use mathlib.Core.Path.{refl}
use Rattle.absence.specs.Ring.{empty_window}
use Rattle.absence.proofs.Window.empty.Goals as goal

pub returns : goal.returns
unfolding empty_window
returns c = refl
