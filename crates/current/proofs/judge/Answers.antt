-- `judge` meets its contract.
use mathlib.Core.Path.{ap, sym, ◌∙◌}
use Rattle.wire.specs.Outcome.{verdict}
use Rattle.current.proofs.Judged.{judged_accepted, judged_amount, judged_count}
use Rattle.current.proofs.judge.Goals as goal

pub returns-then-not-is_count : goal.returns-then-not-is_count
returns-then-not-is_count c = sym (ap verdict (judged_count _ _ _ (sym c.is_count.ensures ∙ c.if-not-is_count.true)))

pub returns-then-not-is_in_range : goal.returns-then-not-is_in_range
returns-then-not-is_in_range c =
    sym (ap verdict (judged_amount _ _ _ (sym c.is_count.ensures ∙ c.if-not-is_count.false)
    (sym c.is_in_range.ensures ∙ c.if-not-is_in_range.true)))

pub returns : goal.returns
returns c =
    sym (ap verdict (judged_accepted _ _ _ (sym c.is_count.ensures ∙ c.if-not-is_count.false)
    (sym c.is_in_range.ensures ∙ c.if-not-is_in_range.false)))
