-- `choose_two` meets its contract.
use mathlib.Core.List.{[]}
use Rattle.crew.specs.Thresholds.{two}
use Rattle.tally.proofs.Choosing.{selection_found, backing_two, enough_two}
use Rattle.tally.proofs.Ruling.{possible_marks}
use Rattle.tally.proofs.choose_two.Goals as goal

pub returns : goal.returns
returns c =
    λ h.
    let read = c.args.columns.now in
    let n = c.of-slots.result.count in
    let e = c.bound-e.ensures in
    let marks = c.mark_with_needed-possible.result in
    let needed = c.mark_with_needed-possible.ensures in
    let possible = possible_marks read h c.of-slots.result c.args.crew e [] 0 marks needed in
    rw (← c.of-slots.ensures)
    (selection_found c.args.crew read h n two c.find_plans-backed.result c.answer_below_three.ensures.in_two
    (backing_two c.args.crew read h n e marks possible (rw c.from-b.ensures at c.find_plans-backed.ensures))
    (rw c.from-b.ensures (enough_two c.args.crew read h n c.count_present-arrivals.ensures e)))
