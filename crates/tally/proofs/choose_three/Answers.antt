-- `choose_three` meets its contract.
use Rattle.crew.specs.Thresholds.{three}
use Rattle.inbox.specs.Columns.{listed_in}
use Rattle.tally.proofs.Choosing.{selection_found, backing_three, enough_three}
use Rattle.tally.proofs.Ruling.{three_marks}
use Rattle.tally.proofs.choose_three.Goals as goal

pub returns : goal.returns
returns c =
    let read = c.args.columns.now in
    let histories = c.args.histories.now in
    let h = listed_in histories c.args.phase in
    let n = c.of-slots.result.count in
    let e = c.bound-e.ensures in
    let marks = c.mark_with_needed-backing.result in
    let needed = c.mark_with_needed-backing.ensures in
    let backs = three_marks read histories c.of-slots.result c.args.phase c.args.crew e c.from-b.ensures marks needed in
    rw (← c.of-slots.ensures)
    (selection_found c.args.crew read h n three c.find_plans-backed.result c.answer_three.ensures
    (backing_three c.args.crew read h n marks backs c.find_plans-backed.ensures)
    (enough_three c.args.crew read h n c.count_stamped.ensures e))
