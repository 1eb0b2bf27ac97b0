-- `store` meets its contract.
use Rattle.std.proofs.Common.{sym}
use borrow.Author.Tests.{eq-eqb}
use Rattle.image.proofs.Stores.{image_laid}
use Rattle.image.proofs.store.Goals as goal

pub returns : goal.returns
returns c =
    let whole = c.in-Some.ensures.cases in
    let history = c.put_history.ensures in
    let fit = eq-eqb _ _ whole.long in
    record {
      fits = sym fit;
      left = rw (fit, history.laid, c.put_scalars.ensures, whole.same)
          (image_laid c.args.node.now c.args.image.now whole.long history.long);
    }
