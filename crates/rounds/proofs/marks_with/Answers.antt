-- `marks_with` meets its contract.
use mathlib.Core.Path.{◌∙◌}
use Rattle.rounds.proofs.Hearing.{marks_heard}
use Rattle.rounds.proofs.marks_with.Goals as goal

pub returns : goal.returns
returns c =
    let walked = rw c.empty-columns.ensures at c.read_slots.ensures in
    let told = rw c.from.ensures at c.marks_in.ensures in
    told
    ∙ marks_heard c.args.round _ c.read_slots.new.columns c.read_slots.new.histories
    c.speaking-counting.result c.requires walked c.speaking-counting.ensures
