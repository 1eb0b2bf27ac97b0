-- The answers to the goals of `numbers_on`.
use mathlib.Core.Path.{refl, sym, ◌∙◌}
use native.Mathlib.Omega.{arith}
use lib.Dec.{eqb}
use borrow.Author.Rules.{rules}
use Rattle.script.specs.Lines.{space}
use Rattle.std.proofs.Common.{tests}
use Rattle.std.proofs.lemmas.Iterator.Splits.{YieldsList-from_slice_split}
use Rattle.script.proofs.Walk.{number_at_most}
use Rattle.script.proofs.Fields.{item_next, none_next, field_bad, field_full, field_more, fields_end}
use Rattle.script.proofs.numbers_on.Goals as goal

pub loop-field-init : goal.loop-field-init
loop-field-init c = record { long = refl; rest = λ ws. refl }

pub returns-in_err-value : goal.returns-in_err-value
returns-in_err-value c =
    let next =
    item_next _ _ _ _ c.next.new.self _ c.in-Some.field _ c.loop-field.yielded_by c.in-Some.ensures.steps
    (YieldsList-from_slice_split {s = c.into_iter-field-iterator.result} _ (λ b. eqb b space) c.args.s.now
    (search rules) (search rules) refl
    (λ x r q k. search (rules, tests))) in
    c.from_residual.ensures
    ∙ field_bad _ _ _ c.loop-field.invariant _ c.in-Some.field _ next.1 (sym c.decimal.ensures ∙ c.in_err-value.was)

pub returns-then-count-ge-MOST_NUMBERS : goal.returns-then-count-ge-MOST_NUMBERS
returns-then-count-ge-MOST_NUMBERS c =
    let next =
    item_next _ _ _ _ c.next.new.self _ c.in-Some.field _ c.loop-field.yielded_by c.in-Some.ensures.steps
    (YieldsList-from_slice_split {s = c.into_iter-field-iterator.result} _ (λ b. eqb b space) c.args.s.now
    (search rules) (search rules) refl
    (λ x r q k. search (rules, tests))) in
    field_full _ _ _ c.loop-field.invariant _ c.in-Some.field _ next.1 _ (sym c.decimal.ensures ∙ c.in_ok-value.was)
    c.if-count-ge-MOST_NUMBERS.true

pub overflow_cast-values : goal.overflow_cast-values
overflow_cast-values c = omega (arith, number_at_most _ _ _ (sym c.decimal.ensures ∙ c.in_ok-value.was))

pub loop-field-preserved : goal.loop-field-preserved
loop-field-preserved c =
    field_more _ _ _ c.loop-field.invariant _ _ (sym c.decimal.ensures ∙ c.in_ok-value.was)
    c.if-count-ge-MOST_NUMBERS.false

pub returns : goal.returns
returns c =
    fields_end _ _ _ c.loop-field.invariant _
    (none_next _ _ _ _ _ _ _ c.loop-field.yielded_by c.in-None.ensures.steps
    (YieldsList-from_slice_split {s = c.into_iter-field-iterator.result} _ (λ b. eqb b space) c.args.s.now
    (search rules) (search rules) refl
    (λ x r q k. search (rules, tests))))
