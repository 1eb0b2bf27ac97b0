-- `choose_one` meets its contract.
use Rattle.crew.specs.Thresholds.{one}
use Rattle.tally.proofs.Choosing.{selection_found, backing_one, enough_one}
use Rattle.tally.proofs.choose_one.Goals as goal

pub returns : goal.returns
returns c =
    λ h.
    let read = c.args.columns.now in
    let n = c.of-slots.result.count in
    let e = c.bound-e.ensures in
    rw (← c.of-slots.ensures)
    (selection_found c.args.crew read h n one c.find_plans-backed.result c.answer_below_three.ensures.in_one
    (backing_one c.args.crew read h n e c.find_plans-backed.ensures)
    (enough_one c.args.crew read h n c.count_present-arrivals.ensures e))
