-- A start gives the record that a node begins with, or the first refusal of 1 to 6 that applies.
use Rattle.std.proofs.Common.{◌≡◌, ◌≤◌, sym, rules}
use Rattle.std.proofs.lemmas.Result.{err_from_is_err_and}
use Rattle.node.proofs.StartLaws.{start_begins, start_without_plan, start_beyond_crew, start_without_crew}
use Rattle.node.proofs.Node.start.Goals as goal

pub returns-in_err-accept : goal.returns-in_err-accept
returns-in_err-accept c =
    let told = err_from_is_err_and c.from_residual.result c.from_residual.ensures.1 in
    rw (told.1, told.2) (sym (start_without_crew _ _ _ _ _ (sym c.in_err-accept.ensures)))

pub returns-then-own-crew : goal.returns-then-own-crew
returns-then-own-crew c = sym (start_beyond_crew _ _ _ _ (sym c.in_ok-accept.ensures) c.if-own-crew.true)

pub returns-then-not-is_plan : goal.returns-then-not-is_plan
returns-then-not-is_plan c =
    let none : c.args.plan ≡ 0 = search rules in
    sym (start_without_plan _ _ _ _ (sym c.in_ok-accept.ensures) c.if-own-crew.false none)

pub returns : goal.returns
returns c =
    let some : 1 ≤ c.args.plan = search rules in
    rw c.begin.ensures (sym (start_begins _ _ _ _ (sym c.in_ok-accept.ensures) c.if-own-crew.false some))
