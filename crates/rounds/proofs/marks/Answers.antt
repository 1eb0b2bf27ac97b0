-- `marks` meets its contract.
use mathlib.Core.Bool.{false}
use mathlib.Core.Path.{sym, ap, ◌∙◌}
use Rattle.std.proofs.lemmas.Result.{err_from_is_err_and}
use Rattle.wire.specs.Outcome.{accepted}
use Rattle.rounds.proofs.Refusals.{own_marks, told, ready_passes, marks_tested}
use Rattle.rounds.proofs.Sizes.{sound_own}
use Rattle.rounds.proofs.marks.Goals as goal

pub marks_with-requires : goal.marks_with-requires
marks_with-requires c =
    let ready = ready_passes c.args.node.now c.args.inbox.now false c.in_ok-coming.ensures in
    rw ready.0 (sound_own _ _ ready.1 ready.3)

pub returns-in_err-coming : goal.returns-in_err-coming
returns-in_err-coming c =
    let d = c.args.node.now in
    let bytes = c.args.inbox.now in
    let why = err_from_is_err_and c.from_residual.result c.from_residual.ensures.1 in
    rw (why.1, why.2) (sym (told (own_marks d bytes) (marks_tested d bytes) c.in_err-coming.ensures))

pub returns : goal.returns
returns c =
    let d = c.args.node.now in
    let bytes = c.args.inbox.now in
    let ready = ready_passes d bytes false c.in_ok-coming.ensures in
    let came = rw ready.0 at c.marks_with.ensures in
    ap accepted came ∙ sym (told (own_marks d bytes) (marks_tested d bytes) c.in_ok-coming.ensures)
