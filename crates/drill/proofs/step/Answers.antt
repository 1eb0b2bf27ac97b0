-- `step` meets its contract.
use mathlib.Core.Path.{sym, ◌∙◌}
use Rattle.drill.proofs.Places.{is_standing}
use Rattle.drill.proofs.Turns.{silent, printed, step_nowhere, step_long, step_head_lem, step_later_lem}
use Rattle.drill.proofs.Whole.{stepped_from}
use Rattle.drill.proofs.step.Goals as goal

pub returns-then-not-can_stand : goal.returns-then-not-can_stand
returns-then-not-can_stand c =
    let nowhere = sym c.can_stand.ensures ∙ c.if-not-can_stand.true in
    stepped_from _ _ (rw (step_nowhere c.args.input.now c.args.cursor.now nowhere) (silent c.stop.ensures))

pub returns-then-input-gt-MOST_BYTES : goal.returns-then-input-gt-MOST_BYTES
returns-then-input-gt-MOST_BYTES c =
    let tested = sym c.can_stand.ensures ∙ c.if-not-can_stand.false in
    stepped_from _ _
    (rw (step_long c.args.input.now c.args.cursor.now tested c.if-input-gt-MOST_BYTES.true)
    (printed c.long_line.ensures c.stop-then-input-gt-MOST_BYTES.ensures))

pub returns-then-cursor-le-SECOND_LINE : goal.returns-then-cursor-le-SECOND_LINE
returns-then-cursor-le-SECOND_LINE c =
    let tested = sym c.can_stand.ensures ∙ c.if-not-can_stand.false in
    let there = is_standing c.args.input.now c.args.cursor.now tested c.if-input-gt-MOST_BYTES.false in
    stepped_from _ _ (rw (step_head_lem _ _ there c.if-cursor-le-SECOND_LINE.true) c.pass_head.ensures)

pub returns : goal.returns
returns c =
    let tested = sym c.can_stand.ensures ∙ c.if-not-can_stand.false in
    let there = is_standing c.args.input.now c.args.cursor.now tested c.if-input-gt-MOST_BYTES.false in
    stepped_from _ _
    (rw (step_later_lem _ _ there c.if-cursor-le-SECOND_LINE.false, c.note_all.ensures.same) c.pass_line.ensures)
