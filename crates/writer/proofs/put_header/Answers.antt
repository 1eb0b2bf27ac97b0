-- `put_header` meets its contract: four fields are stored, one after the other.
use native.Mathlib.Omega.{arith}
use Rattle.wire.proofs.Stores.{laid_room}
use Rattle.writer.proofs.put_header.Goals as goal

pub returns : goal.returns
returns c =
    let length_kept = c.put.auto.buf in
    let kind_kept = c.put-2.auto.buf in
    let room = c.requires in
    simp (
      laid_room _ _ _ c.put-3.ensures (omega (arith, kind_kept, length_kept, room)),
      laid_room _ _ _ c.put-2.ensures (omega (arith, length_kept, room)),
      laid_room _ _ _ c.put.ensures (omega (arith, room)),
    )
