-- `put_front` meets its contract.
use native.Mathlib.Omega.{arith}
use Rattle.wire.proofs.Stores.{laid_room}
use Rattle.writer.proofs.put_front.Goals as goal

pub returns : goal.returns
returns c =
    simp (
      laid_room _ _ _ c.put.ensures (omega (arith, c.put_header.auto.buf, c.requires)),
      c.put_header.ensures,
    )
