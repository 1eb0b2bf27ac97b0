-- The answers to the goals of `recount`.
use mathlib.Core.Path.{refl}
use Rattle.absence.specs.Ring.{recounted_to}
use Rattle.absence.proofs.Counts.{recount_step}
use Rattle.absence.proofs.recount.Goals as goal

pub loop-q-init : goal.loop-q-init
unfolding recounted_to
loop-q-init c = refl

pub loop-q-preserved : goal.loop-q-preserved
loop-q-preserved c =
    recount_step c.args.missing.now c.args.comes c.args.goes c.loop-q.q c.loop-q.invariant
    (rw c.misses.ensures at c.from.ensures) (rw c.misses-in-loop-q.ensures at c.from-in-loop-q.ensures)
