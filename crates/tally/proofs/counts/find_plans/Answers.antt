-- In `find_plans` a slot that is new and whose vote is reached adds it to the plans; another one leaves them as they
-- are.
use mathlib.Core.Path.{sym, refl, ◌∙◌}
use borrow.Author.Tests.{le-leb, lt-leb}
use Rattle.wire.proofs.Tests.{both_true}
use Rattle.tally.specs.Marks.{marked}
use Rattle.tally.proofs.Finding.{holds_none, holds_more, holds_same}
use Rattle.tally.proofs.counts.find_plans.Goals.{
  then-is_new+then-needed-count_votes,
  else-is_new,
  else-is_new-via-then-is_new+else-needed-count_votes,
  else-is_new-via-else-is_new,
}
use Rattle.tally.proofs.counts.find_plans.Goals as goal

pub loop-q-init : goal.loop-q-init
loop-q-init c =
    holds_none c.args.columns.now.present c.args.marks.now c.args.columns.now.votes c.args.slots.count c.args.needed

pub loop-q-preserved : goal.loop-q-preserved
loop-q-preserved c =
    let present = c.args.columns.now.present in
    let votes = c.args.columns.now.votes in
    let before = c.loop-q.invariant in
    let same = holds_same present c.args.marks.now votes c.args.slots.count c.args.needed before in
    let told = sym c.is_new.ensures in
    elim c.if-is_new.branch [
      | then-is_new+then-needed-count_votes w ↦
          let new = told ∙ w.if-is_new.true in
          let there = (both_true (marked present c.loop-q.q) _ new).0 in
          let enough = rw w.count_votes.ensures.count at (le-leb _ _ w.if-needed-count_votes.true) in
          rw w.plans-is
          (holds_more present c.args.marks.now votes c.args.slots.count c.args.needed before (rw (new, there) enough)
          w.with-plans.ensures)
      | else-is_new w ↦
          rw w.plans-is (elim w.else-is_new.branch [
            | else-is_new-via-then-is_new+else-needed-count_votes k ↦
                let new = told ∙ k.if-is_new.true in
                let there = (both_true (marked present c.loop-q.q) _ new).0 in
                let fewer = rw k.count_votes.ensures.count at (lt-leb _ _ k.if-needed-count_votes.false) in
                same (rw (new, there) fewer)
            | else-is_new-via-else-is_new k ↦ same (rw (told ∙ k.if-is_new.false) refl)
          ])
    ]
