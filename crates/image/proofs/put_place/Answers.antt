-- `put_place` meets its contract.
use native.Mathlib.Omega.{arith}
use lib.ListN.{length-set}
use Rattle.wire.proofs.Stores.{laid_room}
use Rattle.image.proofs.put_place.Goals as goal

pub returns : goal.returns
returns c = simp (laid_room _ _ _ c.put.ensures (simp length-set (omega arith)))
