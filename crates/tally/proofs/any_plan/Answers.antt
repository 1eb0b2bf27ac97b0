-- `any_plan` meets its contract.
use mathlib.Core.Path.{◌∙◌}
use Rattle.inbox.specs.Columns.{polled}
use Rattle.ballot.specs.Selection.{leading, most_voted, any_plan}
use Rattle.tally.proofs.Ruling.{least_found, leading_needs}
use Rattle.tally.proofs.any_plan.Goals as goal

pub returns : goal.returns
unfolding any_plan most_voted
returns c =
    λ h.
    let read = c.args.columns.now in
    let n = c.of-slots.result.count in
    rw (← c.of-slots.ensures)
    (c.least.ensures
    ∙ least_found read h n (leading (polled read h n)) read.present _
    (λ v. rw c.most_votes-most.ensures (leading_needs read h n v)) c.find_plans.ensures)
