-- `Pending::waiting` meets its contract.
use mathlib.Core.Path.{◌≡◌, ◌∙◌}
use lib.ListN.{get_or}
use native.Mathlib.Omega.{arith}
use borrow.Author.Rules.{rules}
use Rattle.std.proofs.lemmas.Option.{unwrap_or-slice_get}
use Rattle.pending.specs.Pairs.{idle}
use Rattle.pending.proofs.Rules.{standing_waits}
use Rattle.pending.proofs.Pending.waiting.Goals as goal

pub returns : goal.returns
returns c =
    let stands : c.unwrap_or.result ≡ get_or c.args.self.now.from c.args.sender idle =
    search (rules, unwrap_or-slice_get) in
    stands ∙ standing_waits c.args.self.now c.args.sender (omega arith)
