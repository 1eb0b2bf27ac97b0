-- `read_laying` meets its contract.
use mathlib.Core.Path.{sym, ◌∙◌}
use Rattle.std.proofs.lemmas.Result.{err_from_is_err_and}
use Rattle.message.proofs.ReadLaws.{front_passes, rest_left, front_refused}
use Rattle.message.proofs.read_laying.Goals as goal

pub returns-in_err-message : goal.returns-in_err-message
returns-in_err-message c =
    let front = c.in_err-message.ensures in
    let p = err_from_is_err_and c.from_residual.result c.from_residual.ensures.1 in
    rw (p.1, p.2)
    (record { answer = sym (front_refused c.args.s.now _ (sym front.answer)); lays = front.lays })

-- where the front is a message
pub is_clear-requires : goal.is_clear-requires
is_clear-requires c = (front_passes c.args.s.now _ (sym c.in_ok-message.ensures.answer)).is_framed

pub returns-then-not-is_clear : goal.returns-then-not-is_clear
returns-then-not-is_clear c =
    let front = c.in_ok-message.ensures in
    let residue = sym c.is_clear.ensures ∙ c.if-not-is_clear.true in
    record { answer = simp (rest_left c.args.s.now _ (sym front.answer), residue); lays = front.lays }

pub returns : goal.returns
returns c =
    let front = c.in_ok-message.ensures in
    let clear = sym c.is_clear.ensures ∙ c.if-not-is_clear.false in
    record { answer = simp (rest_left c.args.s.now _ (sym front.answer), clear); lays = front.lays }
