-- `total` meets its contract.
use mathlib.Core.Path.{◌≡◌, ◌∙◌}
use borrow.Author.Rules.{rules}
use Rattle.std.specs.List.{sum_by}
use Rattle.current.proofs.Sums.{sum_of_all}
use Rattle.current.proofs.total.Goals as goal

pub returns : goal.returns
returns c =
    let summed : c.sum.result ≡ sum_by (λ x. x) c.args.amounts.now = search rules in
    summed ∙ sum_of_all (λ x. x) c.args.amounts.now
