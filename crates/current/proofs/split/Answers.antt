-- `split` meets its contract.
use mathlib.Core.Path.{sym}
use Rattle.current.proofs.Judged.{as_many, small, shares_written}
use Rattle.current.proofs.split.Goals as goal

pub fill-requires-clause-small : goal.fill-requires-clause-small
fill-requires-clause-small c = small _ _ _ (sym c.in_ok-judge.ensures)

pub fill-requires-clause-shares_len : goal.fill-requires-clause-shares_len
fill-requires-clause-shares_len c = as_many _ _ _ (sym c.in_ok-judge.ensures)

pub returns : goal.returns
returns c = shares_written _ _ _ c.in_ok-judge.ensures c.fill.ensures
