-- `Cursor::pass_go` meets its contract.
use mathlib.Core.Path.{◌∙◌}
use borrow.Author.Tests.{lt-ltb}
use Rattle.aisle.proofs.Going.{gone_round}
use Rattle.drill.proofs.Turns.{printed}
use Rattle.drill.proofs.Cursor.pass_go.Goals as goal

pub returns : goal.returns
returns c =
    let state = c.args.self.now.state in
    let round = c.go-after.ensures
    ∙ gone_round state.setup state.moment (record { small = c.requires.small; unspent = c.if-spent.false }) in
    let results = rw c.from-n.ensures at c.results_of-results.ensures in
    let laid = rw c.from-n.ensures at c.result_line.ensures in
    rw (lt-ltb _ _ c.if-spent.false, ← round, ← results) (printed laid c.pass.ensures)
