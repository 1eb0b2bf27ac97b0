-- Each step of `read_slots` is a lemma of Walk.antt: before the first slot nothing is read, and one slot more is
-- walked.
use mathlib.Core.Path.{refl}
use Rattle.inbox.proofs.Walk.{walked_none, walked_more}
use Rattle.inbox.proofs.read_slots.Goals.{in-Some, in_default}
use Rattle.inbox.proofs.read_slots.Goals as goal

pub loop-q-init : goal.loop-q-init
loop-q-init c = walked_none c.row_width-width.ensures

pub loop-q-preserved : goal.loop-q-preserved
loop-q-preserved c =
    let walked = c.loop-q.invariant in
    let less = c.loop-q-test.true in
    elim c.match-read_expected.branch [
      | in-Some w ↦ rw w.columns-is (walked_more walked less w.in-Some.ensures (w.put_body.ensures _))
      | in_default w ↦ rw w.columns-is (walked_more walked less w.in_default.ensures refl)
    ]
