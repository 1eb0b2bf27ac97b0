-- `count_listing` counts by its test: what is known of the plan beforehand is the same at every slot.
use Rattle.std.proofs.Common.{rules}
use mathlib.Core.Path.{◌≡◌, ◌∙◌}
use mathlib.Core.Bool.{◌&&◌}
use lib.Dec.{ltb}
use borrow.Author.Tests.{lt-ltb, le-ltb}
use Rattle.tally.proofs.counts.count_listing.Goals.{then-phase-phases, else-phase-phases}
use Rattle.tally.proofs.counts.count_listing.Goals as goal

pub returns : goal.returns
returns c =
    let a = c.args in
    let known : c.if-phase-phases.known ≡ (ltb a.phase a.phases && ltb 0 a.plan) =
    elim c.if-phase-phases.branch [
      | then-phase-phases w ↦ rw (lt-ltb _ _ w.if-phase-phases.true) w.known-is
      | else-phase-phases w ↦ rw (le-ltb _ _ w.if-phase-phases.false) (w.known-is ∙ le-ltb _ _ w.if-phase-phases.false)
    ] in
    c.count.ensures _ (λ q b less answers. rw (← known) (search rules))
