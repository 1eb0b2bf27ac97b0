-- The answers to the goals of `put_lines`.
use Rattle.absence.proofs.Laying.{laying_more, laying_window, laying_lines}
use Rattle.absence.proofs.put_lines.Goals as goal

pub loop-i-preserved : goal.loop-i-preserved
loop-i-preserved c =
    laying_more _ _ _ _ c.loop-i-test.true c.loop-i.invariant c.record_at.ensures c.add.ensures.window
    c.put_line-at.ensures

pub returns : goal.returns
returns c =
    record {
      window = laying_window _ _ _ _ c.loop-i-test.false c.loop-i.invariant;
      wrote = laying_lines _ _ _ _ c.loop-i-test.false c.loop-i.invariant;
    }
