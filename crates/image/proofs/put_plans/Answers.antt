-- `puts` meets its contract.
use mathlib.Core.Path.{◌∙◌}
use native.Mathlib.Omega.{arith}
use lib.ListN.{length-set}
use Rattle.wire.proofs.Stores.{laid_room}
use Rattle.image.proofs.put_plans.Goals as goal

pub returns : goal.returns
returns c =
    let long = c.put-2.auto.buf ∙ c.put.auto.buf in
    let stamped = simp length-set at c.put-3.auto.buf in
    simp (
      laid_room _ _ _ c.put-4.ensures (omega (arith, stamped, long)),
      laid_room _ _ _ c.put-3.ensures (simp length-set (omega (arith, long))),
      laid_room _ _ _ c.put-2.ensures (omega (arith, c.put.auto.buf)),
      laid_room _ _ _ c.put.ensures (omega arith),
    )
