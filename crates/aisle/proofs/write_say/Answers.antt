-- `write_say` meets its contract.
use Rattle.aisle.proofs.Slots.{selection_said, later_said}
use mathlib.Core.Path.{◌≡◌, ◌∙◌}
use mathlib.Core.Bool.{true, false}
use native.Mathlib.Omega.{arith}
use Rattle.aisle.specs.Round.{say_buffer}
use borrow.Author.Tests.{eq-eqb, ne_eqb}
use Rattle.aisle.proofs.write_say.Goals as goal

pub returns-then-say-eq-NO_PLAN : goal.returns-then-say-eq-NO_PLAN
unfolding say_buffer
returns-then-say-eq-NO_PLAN c = rw (eq-eqb _ _ c.if-say-eq-NO_PLAN.true)

pub returns-in-1 : goal.returns-in-1
unfolding say_buffer
returns-in-1 c =
    rw (ne_eqb _ _ c.if-say-eq-NO_PLAN.false, eq-eqb _ _ c.in-1.is)
    (c.write_selection.ensures.left ∙ selection_said _ _ _ _ _)

pub returns-in-2 : goal.returns-in-2
returns-in-2 c =
    let is = c.in-2.is in
    c.write_validation.ensures.left
    ∙ later_said _ _ _ _ _ c.if-say-eq-NO_PLAN.false (λ one. omega arith) true (eq-eqb _ _ is)

pub returns-in_default : goal.returns-in_default
returns-in_default c =
    let later : c.args.moment.now.round ≡ 1 → ⊥ = λ one. omega arith in
    let last : c.args.moment.now.round ≡ 2 → ⊥ = λ two. omega arith in
    c.write_decision.ensures.left ∙ later_said _ _ _ _ _ c.if-say-eq-NO_PLAN.false later false (ne_eqb _ _ last)
