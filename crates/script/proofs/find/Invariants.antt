-- `find` meets its contract. The invariant: the first such place from i on is the first from the start on.
use mathlib.Core.Path.{◌≡◌}
use Prim.Native.Nat.{◌+◌}
use lib.ListN.{drop}
use Rattle.script.specs.Lines.{until}
use Rattle.script.proofs.find.Given as goal

abbrev pub invariant-loop-i : goal.invariant-loop-i
invariant-loop-i l =
    l.i + until l.byte (drop l.i l.s) ≡ l.from + until l.byte (drop l.from l.s)
