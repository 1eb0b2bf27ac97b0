-- `put_text` meets its contract. The invariant: with what is left of the text, all of it is written.
use mathlib.Core.Path.{◌≡◌}
use lib.ListN.{drop}
use lib.Seq.{sets}
use Rattle.print.proofs.put_text.Given as goal

abbrev pub invariant-loop-at : goal.invariant-loop-at
invariant-loop-at l = sets l.buf l.at (drop l.at l.text) ≡ sets l.initial.buf 0 l.text
