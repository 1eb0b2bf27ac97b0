-- Each slot of `most_votes` that is new raises the count to what its vote has, where that is higher.
use mathlib.Core.Path.{◌≡◌, refl, sym, ap, ◌∙◌}
use Prim.Native.Nat.{max}
use Rattle.std.proofs.Common.{rules}
use Rattle.tally.proofs.Finding.{most_more}
use Rattle.tally.specs.Marks.{told}
use Rattle.tally.proofs.counts.most_votes.Goals.{then-is_new, else-is_new}
use Rattle.tally.proofs.counts.most_votes.Goals as goal

pub loop-q-init : goal.loop-q-init
unfolding told
loop-q-init c = refl

pub loop-q-preserved : goal.loop-q-preserved
loop-q-preserved c =
    let n = c.args.slots.count in
    let more = most_more c.args.columns.now.present c.args.columns.now.votes n c.loop-q.q _ c.loop-q.invariant in
    let new = sym c.is_new.ensures in
    elim c.if-is_new.branch [
      | then-is_new w ↦
          let raised : w.max-most.result ≡ max c.loop-q.most w.count_votes.result = search rules in
          w.most-is
          ∙ raised
          ∙ ap (max c.loop-q.most) w.count_votes.ensures.count
          ∙ rw (new ∙ w.if-is_new.true) at more
      | else-is_new w ↦ w.most-is ∙ rw (new ∙ w.if-is_new.false) at more
    ]
