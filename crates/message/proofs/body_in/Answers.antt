-- `body_in` meets its contract: the kind picks the body.
use native.Mathlib.Omega.{arith}
use Rattle.message.specs.Reading.{body_at}
use Rattle.message.proofs.ReadLaws.{of_selection, of_validation, of_decision, selection_size, plan_in_lem}
use Rattle.message.proofs.body_in.Goals as goal

pub plan_at-vote-requires : goal.plan_at-vote-requires
plan_at-vote-requires c = omega (arith, c.requires.whole, plan_in_lem (body_at c.args.s.now))

pub bounds-s-11 : goal.bounds-s-11
bounds-s-11 c = omega (arith, c.requires.whole, selection_size c.requires.of_kind c.in-Selection.is)

pub bounds-s-12 : goal.bounds-s-12
bounds-s-12 c = omega (arith, c.requires.whole, selection_size c.requires.of_kind c.in-Selection.is)

pub returns-in-Selection : goal.returns-in-Selection
returns-in-Selection c = simp (of_selection c.requires.of_kind c.in-Selection.is, c.plan_at-vote.ensures)

pub returns-in-Validation : goal.returns-in-Validation
returns-in-Validation c = simp (of_validation c.requires.of_kind c.in-Validation.is, c.plan_at-vote.ensures)

pub bounds-s-11-in-Decision : goal.bounds-s-11-in-Decision
bounds-s-11-in-Decision c = rw (of_decision c.requires.of_kind c.in-Decision.is) at c.requires.whole

pub returns-in-Decision : goal.returns-in-Decision
returns-in-Decision c = simp (of_decision c.requires.of_kind c.in-Decision.is, c.plan_at-vote.ensures)
