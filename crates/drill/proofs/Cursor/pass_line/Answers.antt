-- `Cursor::pass_line` meets its contract.
use mathlib.Core.Path.{refl}
use Rattle.drill.proofs.Pieces.{found_there}
use Rattle.drill.proofs.Turns.{printed, finish_ended, finish_end, finish_unended}
use Rattle.drill.proofs.Cursor.pass_line.Goals as goal

pub returns-in-Some : goal.returns-in-Some
returns-in-Some c =
    let line = c.in-Some.ensures in
    let found = found_there c.args.input.now _ _ c.requires.inside line.found in
    rw (finish_ended c.args.self.now _ _ found line.before, ← line.bytes) c.pass_command.ensures

pub returns-then-at_end : goal.returns-then-at_end
returns-then-at_end c =
    let found = found_there c.args.input.now _ _ c.requires.inside refl in
    rw (finish_end c.args.self.now _ _ found c.in_default.ensures c.if-at_end.true)
    (printed c.end_line.ensures c.stop.ensures)

pub returns : goal.returns
returns c =
    let found = found_there c.args.input.now _ _ c.requires.inside refl in
    rw (finish_unended c.args.self.now _ _ found c.in_default.ensures c.if-at_end.false) c.stop_bad.ensures
