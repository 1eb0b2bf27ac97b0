-- `history_in` meets its contract.
use native.Mathlib.Omega.{arith}
use lib.ListN.{replicate}
use Rattle.wire.specs.Sizes.{history_size}
use Rattle.wire.proofs.Arrays.{filled_none, filled_more, filled_all}
use Rattle.image.specs.Layout.{history_place, plans_in}
use Rattle.image.proofs.Stores.{plan_in_lem, plans_length}
use Rattle.image.proofs.history_in.Invariants.{plan_at}
use Rattle.image.proofs.history_in.Goals as goal

pub loop-phase-init : goal.loop-phase-init
loop-phase-init c = filled_none (plan_at c.args.s.now) 0 (replicate history_size 0)

pub loop-phase-preserved : goal.loop-phase-preserved
loop-phase-preserved c =
    filled_more (plan_at c.args.s.now) 0 c.loop-phase.plan-items c.loop-phase.phase _ (omega arith)
    c.loop-phase.invariant c.plan_at.ensures

pub returns : goal.returns
returns c =
    let s = c.args.s.now in
    let count = plans_length s history_place history_size in
    filled_all (plan_at s) 0 c.loop-phase.plan-items (plans_in s history_place history_size) c.loop-phase.phase
    (omega (arith, count)) (omega arith) c.loop-phase.invariant
    (λ k less. plan_in_lem s history_place history_size k (omega (arith, count)))
