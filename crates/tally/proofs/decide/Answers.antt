-- `decide` meets its contract.
use mathlib.Core.Path.{◌∙◌}
use mathlib.Core.Bool.{cond}
use lib.Dec.{eqb}
use borrow.Author.Tests.{eq-eqb, ne_eqb}
use Rattle.crew.specs.Thresholds.{one, two, three}
use Rattle.inbox.specs.Columns.{polled}
use Rattle.ballot.specs.Decision.{decides, decision}
use Rattle.tally.proofs.Ruling.{least_found, decides_needs, fresh_one, fresh_later}
use Rattle.tally.proofs.decide.Goals as goal

pub returns-then-crew-eq-CLASS_ONE : goal.returns-then-crew-eq-CLASS_ONE
unfolding decision
returns-then-crew-eq-CLASS_ONE c =
    λ h.
    let read = c.args.columns.now in
    let n = c.of-slots.result.count in
    rw (eq-eqb _ _ c.if-crew-eq-CLASS_ONE.true, ← c.of-slots.ensures)
    (c.least.ensures
    ∙ least_found read h n (decides one c.args.crew c.args.phase (polled read h n)) read.present _
    (decides_needs read h n c.args.crew one c.args.phase read.present (fresh_one read h n c.args.phase))
    (rw c.from-needed.ensures at c.find_plans.ensures))

pub returns : goal.returns
unfolding decision
returns c =
    λ h.
    let read = c.args.columns.now in
    let n = c.of-slots.result.count in
    let marks = c.mark_stamped-fresh.result in
    let class = cond (eqb c.args.crew.class 2) two three in
    let fresh = fresh_later read h n (eqb c.args.crew.class 2) c.args.phase marks c.mark_stamped-fresh.ensures in
    rw (ne_eqb _ _ c.if-crew-eq-CLASS_ONE.false, ← c.of-slots.ensures)
    (c.least-2.ensures
    ∙ least_found read h n (decides class c.args.crew c.args.phase (polled read h n)) marks _
    (decides_needs read h n c.args.crew class c.args.phase marks fresh)
    (rw c.from-needed.ensures at c.find_plans-2.ensures))
