-- `read_expected` meets its contract.
use mathlib.Core.Path.{sym, ◌∙◌}
use Rattle.message.specs.Laying.{row_after}
use Rattle.message.proofs.ExpectedLaws.{unexpected, expected, nothing_expected, row_expected}
use Rattle.message.proofs.read_expected.Goals as goal

pub returns-then-not-has_header : goal.returns-then-not-has_header
unfolding row_after
returns-then-not-has_header c =
    let other = sym c.has_header.ensures ∙ c.if-not-has_header.true in
    record { answer = unexpected c.args.header c.args.s.now other; lays = simp other }

pub returns-in_err-message : goal.returns-in_err-message
returns-in_err-message c =
    let headed = sym c.has_header.ensures ∙ c.if-not-has_header.false in
    let read = c.read_laying.ensures in
    let refused = sym c.ok.ensures.value ∙ c.in_err-message.was in
    rw c.from_residual.ensures
    (record {
      answer = nothing_expected c.args.header c.args.s.now headed c.read_laying.result refused read.answer;
      lays = read.lays ∙ row_expected c.args.header c.args.s.now c.args.row.now headed;
    })

pub returns : goal.returns
returns c =
    let headed = sym c.has_header.ensures ∙ c.if-not-has_header.false in
    let read = c.read_laying.ensures in
    let message = c.in_ok-message.message in
    let accepted = sym c.ok.ensures.value ∙ c.in_ok-message.was in
    record {
      answer = expected c.args.header c.args.s.now headed c.read_laying.result message accepted read.answer;
      lays = read.lays ∙ row_expected c.args.header c.args.s.now c.args.row.now headed;
    }
