-- `fill` meets its contract.
use mathlib.Core.Path.{sym, ◌∙◌}
use native.Mathlib.Omega.{arith}
use Rattle.current.proofs.Fair.{each_its_demand}
use Rattle.current.proofs.fill.Goals as goal

pub returns-then-all-from : goal.returns-then-all-from
returns-then-all-from c =
    c.copy.ensures
    ∙ sym (each_its_demand _ _ (omega (
      arith,
      c.if-all-from.true,
      c.from.ensures,
      c.total-all.ensures,
    )))
