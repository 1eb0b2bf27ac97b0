-- `put_lines` meets its contract. The invariant: so far the first i records are added and their lines laid.
use Rattle.absence.proofs.Laying.{Laying}
use Rattle.absence.proofs.put_lines.Given as goal

abbrev pub invariant-loop-i : goal.invariant-loop-i
invariant-loop-i l = Laying l.initial.window l.part l.n l.initial.lines l.window l.lines l.at l.i
