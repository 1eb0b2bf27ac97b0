-- `take` meets its contract.
use mathlib.Core.Bool.{false}
use mathlib.Core.Path.{sym, ap, ◌∙◌}
use Rattle.std.proofs.lemmas.Result.{err_from_is_err_and}
use Rattle.wire.specs.Outcome.{verdict, value_or}
use Rattle.inbox.specs.Inbox.{ballots}
use Rattle.rounds.specs.Steps.{coming_round, plan_in, ruled, after_plan}
use Rattle.rounds.proofs.Refusals.{next, told, ready_passes, take_tested}
use Rattle.rounds.proofs.Sizes.{sound_heard, after_ruled}
use Rattle.rounds.proofs.take.Goals as goal

pub outcome-choice-requires : goal.outcome-choice-requires
outcome-choice-requires c =
    let ready = ready_passes c.args.node.now c.args.inbox.now false c.in_ok-round.ensures in
    rw ready.0 (sound_heard _ false _ _ ready.1 ready.2 ready.3 c.last_entry.ensures)

pub after_plan-requires : goal.after_plan-requires
after_plan-requires c = (ready_passes c.args.node.now c.args.inbox.now false c.in_ok-round.ensures).2

pub returns-in_err-round : goal.returns-in_err-round
returns-in_err-round c =
    let d = c.args.node.now in
    let bytes = c.args.inbox.now in
    let why = err_from_is_err_and c.from_residual.result c.from_residual.ensures.1 in
    let fails = told (next d bytes) (take_tested d bytes) c.in_err-round.ensures in
    rw (why.1, why.2) (record { answer = ap verdict (sym fails); node = ap (value_or d) (sym fails) })

pub returns : goal.returns
returns c =
    let d = c.args.node.now in
    let bytes = c.args.inbox.now in
    let ready = ready_passes d bytes false c.in_ok-round.ensures in
    let came = rw ready.0 at c.outcome-choice.ensures in
    let passes = told (next d bytes) (take_tested d bytes) c.in_ok-round.ensures in
    record {
      answer = ap verdict (sym passes);
      node = c.after_plan.ensures
          ∙ ap (after_plan d) (c.plan_in.ensures ∙ ap plan_in {y = ruled (coming_round d false) (ballots d bytes)} came)
          ∙ after_ruled d (ballots d bytes)
          ∙ ap (value_or d) (sym passes);
    }
