-- `is_in_range` meets its contract.
use mathlib.Core.Path.{◌≡◌, sym, ◌∙◌}
use mathlib.Core.Bool.{◌&&◌}
use borrow.Author.Rules.{rules}
use borrow.Author.Tests.{tests}
use lib.Dec.{leb}
use Rattle.std.specs.List.{fold}
use Rattle.std.proofs.lemmas.Iterator.{YieldsList-from_slice}
use Rattle.std.proofs.lemmas.Iterator.Consumers.{fold_from_yields_List}
use Rattle.current.specs.Shares.{most_demand, most_budget}
use Rattle.current.proofs.Judged.{range_of_all, all_tested}
use Rattle.current.proofs.is_in_range.Goals as goal

pub returns : goal.returns
returns c =
    let demands = c.args.demands.now in
    let in_budget = leb c.args.budget most_budget in
    let joined : c.fold.result ≡ fold (λ good x. good && leb x most_demand) in_budget demands =
    fold_from_yields_List _ (λ good x. good && leb x most_demand) _ _ c.fold.ensures.ran
    (YieldsList-from_slice demands cc) (λ a x b q k. search (rules, tests)) in
    joined ∙ all_tested (λ x. leb x most_demand) in_budget demands ∙ sym (range_of_all demands c.args.budget)
