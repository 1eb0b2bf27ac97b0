-- `command_line` meets its contract.
use lib.Dec.{eqb}
use borrow.Author.Rules.{rules}
use Rattle.std.specs.Cmp.Lexicographic.{pointwise}
use mathlib.Core.Path.{◌≡◌, ap, ◌∙◌, sym}
use mathlib.Core.Bool.{true, false}
use Rattle.script.specs.Commands.{go_word, cut_of, say_of}
use Rattle.script.proofs.Cases.{cut_case, say_case, go_case}
use Rattle.script.proofs.command_line.Goals as goal

pub returns-in_err-numbers_on : goal.returns-in_err-numbers_on
returns-in_err-numbers_on c =
    c.from_residual.ensures
    ∙ ap cut_of (sym c.in_err-numbers_on.was)
    ∙ cut_case _ _ _ c.in-Some.ensures.cases.1 c.numbers_on.ensures c.in-Some.ensures.cases.0

pub returns-in-Some : goal.returns-in-Some
returns-in-Some c =
    c.to_cut.ensures
    ∙ ap cut_of (sym c.in_ok-numbers_on.was)
    ∙ cut_case _ _ _ c.in-Some.ensures.cases.1 c.numbers_on.ensures c.in-Some.ensures.cases.0

pub returns-in_err-numbers_on-2 : goal.returns-in_err-numbers_on-2
returns-in_err-numbers_on-2 c =
    c.from_residual-in_err-numbers_on-2.ensures
    ∙ ap say_of (sym c.in_err-numbers_on-2.was)
    ∙ say_case _ _ _ c.in-Some-strip_prefix.ensures.cases.1 c.numbers_on-in-Some-strip_prefix.ensures
    c.in_default.ensures.cases c.in-Some-strip_prefix.ensures.cases.0

pub returns-in-Some-strip_prefix : goal.returns-in-Some-strip_prefix
returns-in-Some-strip_prefix c =
    c.to_say.ensures
    ∙ ap say_of (sym c.in_ok-numbers_on-2.was)
    ∙ say_case _ _ _ c.in-Some-strip_prefix.ensures.cases.1 c.numbers_on-in-Some-strip_prefix.ensures
    c.in_default.ensures.cases c.in-Some-strip_prefix.ensures.cases.0

pub returns-then-eq : goal.returns-then-eq
returns-then-eq c =
    let is : pointwise eqb c.args.s.now go_word ≡ true = search rules in
    go_case _ true c.in_default.ensures.cases c.in_default-strip_prefix.ensures.cases is

pub returns : goal.returns
returns c =
    let is_not : pointwise eqb c.args.s.now go_word ≡ false = search rules in
    go_case _ false c.in_default.ensures.cases c.in_default-strip_prefix.ensures.cases is_not
