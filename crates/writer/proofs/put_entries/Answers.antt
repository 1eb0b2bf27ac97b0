-- `put_entries` meets its contract: a turn of the loop puts the entry of one more phase.
use Rattle.message.specs.Layout.{entries_place}
use Rattle.writer.proofs.HistoryLaws.{putting_none, room_here, putting_more, putting_all}
use Rattle.writer.proofs.put_entries.Goals as goal

pub loop-phase-init : goal.loop-phase-init
loop-phase-init c =
    putting_none c.args.buf.now entries_place c.args.history.now c.args.phases c.requires.room

pub put_entry-place-requires : goal.put_entry-place-requires
put_entry-place-requires c = rw c.from.ensures (room_here c.loop-phase.invariant c.loop-phase-test.true)

pub loop-phase-preserved : goal.loop-phase-preserved
loop-phase-preserved c =
    putting_more c.loop-phase.invariant c.loop-phase-test.true (rw c.from.ensures at c.put_entry-place.ensures)
    c.put_entry-place.auto.buf

pub returns : goal.returns
returns c = putting_all c.loop-phase.invariant c.loop-phase-test.false
