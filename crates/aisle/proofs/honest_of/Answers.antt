-- `honest_of` meets its contract.
use mathlib.Core.Bool.{false}
use lib.ListN.{get_or}
use lib.Dec.{leb}
use native.Mathlib.Omega.{arith}
use borrow.Author.Rules.{rules}
use Rattle.crew.specs.Parts.{most_nodes}
use Rattle.wire.proofs.Arrays.{Filling}
use Rattle.wire.proofs.Tables.{filled_table}
use Rattle.aisle.proofs.honest_of.Goals as goal

pub returns : goal.returns
returns c =
    let says : Filling false (λ i. leb 1 (get_or c.args.plans.now i 0)) most_nodes c.map.result most_nodes = record {
      inside = omega arith;
      long = c.map.ensures.items.long;
      so_far = λ k less. search (rules, (c.map.ensures.items.at k 0 false less).2);
    } in
    filled_table says (omega arith)
