-- The answers to the goals of `decimal`.
use mathlib.Core.Path.{sym, ◌∙◌}
use native.Mathlib.Omega.{arith}
use Rattle.script.proofs.Walk.{empty_bad, zero_bad, digits_left, value_stop, value_past, value_more, value_end}
use Rattle.std.proofs.lemmas.Grind.{common_steps}
use Rattle.script.proofs.decimal.Goals as goal

pub returns-then-is_empty : goal.returns-then-is_empty
returns-then-is_empty c = grind (arith, common_steps, empty_bad, zero_bad)

pub loop-byte-init : goal.loop-byte-init
loop-byte-init c = record { low = omega arith; rest = grind (arith, common_steps, digits_left) }

pub returns-in_err-value : goal.returns-in_err-value
returns-in_err-value c =
    c.from_residual.ensures
    ∙ value_stop _ _ _ _ _ c.loop-byte-test.true c.loop-byte.invariant.rest (sym c.digit.ensures ∙ c.in_err-value.was)

pub returns-then-from-value : goal.returns-then-from-value
returns-then-from-value c =
    value_past _ _ _ _ _ c.loop-byte-test.true c.loop-byte.invariant.rest _ (sym c.digit.ensures ∙ c.in_ok-value.was)
    (omega arith)

pub loop-byte-preserved : goal.loop-byte-preserved
loop-byte-preserved c = record {
  low = omega arith;
  rest =
      value_more _ _ _ _ _ c.loop-byte-test.true c.loop-byte.invariant.rest _ (sym c.digit.ensures ∙ c.in_ok-value.was)
      (omega arith);
}

pub returns : goal.returns
returns c = value_end _ _ _ _ _ c.loop-byte-test.false c.loop-byte.invariant.rest
