-- `Texts::all` meets its contract. The invariant: the texts of the counts so far stand in their places.
use mathlib.Core.List.{[]}
use Rattle.wire.proofs.Arrays.{Filling}
use Rattle.absence.specs.Ring.{count_values}
use Rattle.absence.specs.Promises.{padded_text}
use Rattle.absence.proofs.Texts.all.Given as goal

abbrev pub invariant-loop-count : goal.invariant-loop-count
invariant-loop-count l = Filling [] padded_text count_values l.text-items l.count
