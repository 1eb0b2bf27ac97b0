-- The answers to the goals of `find`.
use lib.ListN.{drop, length-drop}
use native.Mathlib.Omega.{arith}
use Rattle.script.proofs.Walk.{found_here, found_later, found_none, until_le}
use Rattle.script.proofs.find.Goals as goal

pub returns-then-s-i : goal.returns-then-s-i
returns-then-s-i c = found_here _ _ _ _ c.loop-i.invariant c.loop-i-test.true c.if-s-i.true

pub loop-i-preserved : goal.loop-i-preserved
loop-i-preserved c = found_later _ _ _ _ c.loop-i.invariant c.loop-i-test.true c.if-s-i.false

pub returns : goal.returns
returns c =
    let from = c.args.from in
    let s = c.args.s.now in
    omega (
      arith,
      found_none _ _ _ _ c.loop-i.invariant c.loop-i-test.false,
      until_le c.args.byte (drop from s),
      length-drop from s,
    )
