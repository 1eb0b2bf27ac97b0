-- `count_above` meets its contract.
use mathlib.Core.Path.{◌≡◌, ◌∙◌}
use native.Mathlib.Omega.{arith}
use borrow.Author.Rules.{rules}
use lib.Dec.{ltb}
use lib.ListN.{length}
use Rattle.std.specs.List.{count_by}
use Rattle.ballot.proofs.Counting.{tally_not}
use Rattle.current.specs.Promises.{is_above}
use Rattle.current.proofs.Sums.{count_of_all}
use Rattle.current.proofs.count_above.Goals as goal

pub returns : goal.returns
returns c =
    let own = c.args.own in
    let priorities = c.args.priorities.now in
    let summed : c.sum.result ≡ count_by (λ x. ltb own x) priorities = search rules in
    let counted = summed ∙ count_of_all (λ x. ltb own x) priorities in
    record {
      count = counted;
      at_most_all = omega (arith, counted, tally_not (is_above priorities own) (length priorities));
    }
