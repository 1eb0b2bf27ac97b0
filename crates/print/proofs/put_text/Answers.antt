-- The answers to the goals of `put_text`.
use native.Mathlib.Omega.{arith}
use Rattle.print.proofs.Writing.{put_more, put_all}
use Rattle.print.proofs.put_text.Goals as goal

pub loop-at-preserved : goal.loop-at-preserved
loop-at-preserved c = put_more _ _ _ _ _ c.loop-at-test.true c.put.ensures c.loop-at.invariant

pub returns : goal.returns
returns c = record {
  wrote = record { next = omega arith; left = put_all _ _ _ _ c.loop-at-test.false c.loop-at.invariant };
  within = omega arith;
}
