-- `ask` meets its contract.
use mathlib.Core.Bool.{true}
use mathlib.Core.Path.{◌≡◌, refl, sym, ap, ◌∙◌}
use Rattle.std.proofs.lemmas.Result.{err_from_is_err_and}
use borrow.Author.Tests.{eq-eqb}
use Rattle.std.specs.Prelude.{Ok}
use Rattle.wire.specs.Outcome.{accepted}
use Rattle.tally.specs.declared.Choice.{Choice}
use Rattle.tally.specs.declared.Choice.TheVariants.{Plan, Any, Nothing}
use Rattle.tally.specs.Rules.{choice_as}
use Rattle.rounds.specs.Asking.{ask_answer}
use Rattle.rounds.proofs.Refusals.{choice, told, ready_passes, ask_tested, ask_outside}
use Rattle.rounds.proofs.Sizes.{sound_heard}
use Rattle.rounds.proofs.ask.Goals as goal

-- a selection is told as the rules answer it
told_as : (answer : Choice) → ask_answer (Ok answer) ≡ accepted (choice_as answer)
told_as (Plan v) = refl
told_as Any = refl
told_as Nothing = refl

pub returns-then-node-ne-SELECTION : goal.returns-then-node-ne-SELECTION
returns-then-node-ne-SELECTION c = sym (ask_outside _ _ c.if-node-ne-SELECTION.true)

pub outcome-requires : goal.outcome-requires
outcome-requires c =
    let ready = ready_passes c.args.node.now c.args.inbox.now true c.in_ok-round.ensures in
    rw ready.0 (sound_heard _ true _ _ ready.1 ready.2 ready.3 c.last_entry.ensures)

pub returns-in_err-round : goal.returns-in_err-round
returns-in_err-round c =
    let d = c.args.node.now in
    let bytes = c.args.inbox.now in
    let why = err_from_is_err_and c.from_residual.result c.from_residual.ensures.1 in
    let tested = ask_tested d bytes c.if-node-ne-SELECTION.false in
    rw (why.1, why.2) (sym (told (choice d bytes) tested c.in_err-round.ensures))

pub returns : goal.returns
returns c =
    let d = c.args.node.now in
    let bytes = c.args.inbox.now in
    let first = c.if-node-ne-SELECTION.false in
    let ready = ready_passes d bytes true c.in_ok-round.ensures in
    let came = rw (ready.0, eq-eqb _ _ first) at c.outcome.ensures in
    told_as c.outcome.result
    ∙ ap accepted {y = choice d bytes} came
    ∙ sym (told (choice d bytes) (ask_tested d bytes first) c.in_ok-round.ensures)
