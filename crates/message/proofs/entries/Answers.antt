-- `entries` meets its contract.
use mathlib.Core.Path.{sym}
use Rattle.message.proofs.ReadLaws.{part_shown}
use Rattle.message.proofs.entries.Goals as goal

pub returns-in-Ok : goal.returns-in-Ok
returns-in-Ok c =
    let as_read = sym c.in-Ok.ensures in
    simp (c.entries_counted.ensures, c.count_of.ensures) (part_shown c.args.s.now _ _ c.in-Ok.message.body as_read)
