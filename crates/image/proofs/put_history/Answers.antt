-- `put_history` meets its contract.
use mathlib.Core.Path.{refl, ◌∙◌}
use native.Mathlib.Omega.{arith}
use Rattle.wire.proofs.Stores.{laid_room}
use Rattle.image.proofs.Stores.{lay_turn, lay_end}
use Rattle.image.proofs.put_history.Goals as goal

pub loop-phase-init : goal.loop-phase-init
loop-phase-init c = record { long = refl; left = refl }

pub loop-phase-preserved : goal.loop-phase-preserved
loop-phase-preserved c =
    let room = laid_room _ _ _ c.put.ensures (omega (arith, c.loop-phase.invariant.long)) in
    record {
      long = c.put.auto.buf ∙ c.loop-phase.invariant.long;
      left = lay_turn c.args.history.now c.loop-phase.image _ _ c.loop-phase.phase (omega arith) room
          c.loop-phase.invariant.left;
    }

pub returns : goal.returns
returns c =
    record {
      long = omega arith;
      laid = lay_end c.args.history.now c.loop-phase.image _ c.loop-phase.phase (omega arith)
          c.loop-phase.invariant.left;
    }
