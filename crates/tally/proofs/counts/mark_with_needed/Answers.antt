-- In `mark_with_needed` a slot that says what an earlier one said has what it needs where that one has.
use mathlib.Core.Path.{◌∙◌}
use native.Mathlib.Omega.{arith}
use Rattle.wire.proofs.Arrays.{filling_more}
use Rattle.tally.proofs.Finding.{alike_needed}
use Rattle.tally.proofs.counts.mark_with_needed.Goals.{then-first-q, else-first-q}
use Rattle.tally.proofs.counts.mark_with_needed.Goals as goal

pub loop-q-preserved : goal.loop-q-preserved
loop-q-preserved c =
    let before = c.loop-q.invariant in
    elim c.if-first-q.branch [
      | then-first-q w ↦
          let earlier = w.if-first-q.true in
          let alike = c.first_alike-first.ensures.alike earlier in
          filling_more _ (omega arith) before
          (w.marks-is
          ∙ before.so_far c.first_alike-first.result earlier
          ∙ alike_needed c.args.histories.now c.args.needed alike)
      | else-first-q w ↦ filling_more _ (omega arith) before (w.marks-is ∙ w.has_needed.ensures)
    ]
