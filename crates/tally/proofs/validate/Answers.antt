-- `validate` meets its contract.
use mathlib.Core.Path.{◌∙◌}
use Rattle.inbox.specs.Columns.{polled}
use Rattle.ballot.specs.Validation.{valid, validated}
use Rattle.tally.proofs.Ruling.{least_found, valid_needs}
use Rattle.tally.proofs.validate.Goals as goal

pub returns : goal.returns
unfolding validated
returns c =
    λ stamps h.
    let read = record c.args.columns.now { stamps = stamps } in
    let n = c.of-slots.result.count in
    rw (← c.of-slots.ensures)
    (c.least.ensures
    ∙ least_found read h n (valid c.args.crew (polled read h n)) read.present _ (valid_needs read h n c.args.crew)
    (rw (c.from.ensures, c.from-2.ensures) at c.find_plans.ensures))
