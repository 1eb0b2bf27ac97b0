-- `Window::leaving` meets its contract.
use mathlib.Core.Path.{refl}
use borrow.Author.Tests.{lt-ltb}
use Rattle.wire.specs.Marks.{marks_of}
use Rattle.absence.proofs.Window.leaving.Goals as goal

pub returns-then-self-lt-MOST_HELD : goal.returns-then-self-lt-MOST_HELD
unfolding marks_of
returns-then-self-lt-MOST_HELD c = rw (lt-ltb _ _ c.if-self-lt-MOST_HELD.true) refl
