-- Each slot of `count` adds 1 where the call answers that it passes; so the count is that of any test with these
-- answers.
use mathlib.Core.Path.{◌≡◌, refl, ◌∙◌, ap}
use mathlib.Core.Bool.{Bool, true, false}
use native.Mathlib.Omega.{arith}
use mir.Val.{bool_byte}
use Rattle.ballot.specs.Count.{bit}
use Rattle.ballot.proofs.Counting.{bit_le}
use Rattle.ballot.proofs.Loops.{counted_none, counted_more}
use Rattle.tally.proofs.counts.count.Goals as goal

one_byte : (b : Bool) → bool_byte b ≡ bit b
one_byte true = refl
one_byte false = refl

pub loop-q-init : goal.loop-q-init
loop-q-init g c = (omega arith, λ test are. counted_none)

pub loop-q-preserved : goal.loop-q-preserved
loop-q-preserved g c =
    let passes = c.test.result in
    let one = c.from-count.ensures ∙ one_byte passes in (
      omega (arith, one, bit_le passes),
      λ test are.
          let is = are c.loop-q.q passes (omega arith) c.test.ensures in
          counted_more (c.loop-q.invariant.1 test (λ k b less. are k b (omega arith))) (one ∙ ap bit is),
    )
