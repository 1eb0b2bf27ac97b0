-- `marks_in` meets its contract. The invariant: the marks are those of the first q slots.
use mathlib.Core.Path.{◌≡◌}
use mathlib.Core.Bool.{false}
use lib.ListN.{get_or}
use Rattle.wire.specs.Marks.{marks_of}
use Rattle.rounds.proofs.marks_in.Given as goal

abbrev pub invariant-loop-q : goal.invariant-loop-q
invariant-loop-q l = l.marks ≡ marks_of (λ p. get_or l.present p false) l.q
