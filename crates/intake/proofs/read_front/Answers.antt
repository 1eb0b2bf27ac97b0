use Rattle.std.proofs.Common.{rules, subst}
use Rattle.std.specs.Io.KnownBytes.{Consumes}
use Rattle.std.proofs.KnownBytes.{Consumes-trans}
use Rattle.intake.proofs.Reading.{front_grown}
use Rattle.intake.proofs.read_front.Goals as goal

pub loop-filled-preserved : goal.loop-filled-preserved
loop-filled-preserved g c =
    let read = c.in_ok-got.ensures in
    let grown = front_grown _ _ _ _ _ c.loop-filled.invariant.0 read.bound.0 in (
      search rules,
      subst (Consumes _ _) grown (Consumes-trans _ _ _ _ _ c.loop-filled.invariant.1 read.bytes.0),
    )
