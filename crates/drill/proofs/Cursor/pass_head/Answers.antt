-- `Cursor::pass_head` meets its contract.
use mathlib.Core.Path.{refl}
use borrow.Author.Tests.{eq-eqb, ne_eqb}
use Rattle.drill.proofs.Pieces.{found_there}
use Rattle.drill.proofs.Turns.{first_ended, second_ended, head_unended}
use Rattle.drill.proofs.Cursor.pass_head.Goals as goal

pub returns-in_default : goal.returns-in_default
returns-in_default c =
    let found = found_there c.args.input.now _ _ c.requires.standing.inside refl in
    rw (head_unended c.args.self.now _ _ found c.in_default.ensures) c.stop_bad.ensures

pub returns-then-self-eq-FIRST_LINE : goal.returns-then-self-eq-FIRST_LINE
returns-then-self-eq-FIRST_LINE c =
    let line = c.in-Some.ensures in
    let found = found_there c.args.input.now _ _ c.requires.standing.inside line.found in
    let crew = c.if-self-eq-FIRST_LINE.true in
    rw (eq-eqb _ _ crew, first_ended c.args.self.now _ _ found line.before, ← line.bytes) c.pass_crew.ensures

pub returns-else-self-eq-FIRST_LINE : goal.returns-else-self-eq-FIRST_LINE
returns-else-self-eq-FIRST_LINE c =
    let line = c.in-Some.ensures in
    let found = found_there c.args.input.now _ _ c.requires.standing.inside line.found in
    let plans = c.if-self-eq-FIRST_LINE.false in
    rw (ne_eqb _ _ plans, second_ended c.args.self.now _ _ found line.before, ← line.bytes) c.pass_plans.ensures
