-- A turn of `deliver_all` lays one sender's slot anew, and at the end those of all n senders are.
use Prim.Native.Nat.{◌<◌}
use native.Mathlib.Omega.{arith}
use Rattle.crew.specs.Parts.{most_nodes}
use Rattle.aisle.proofs.Slots.{laid_none, laid_more, laid_size, laid_front, lent_old, lent_long}
use borrow.Author.Rules.{rules}
use Rattle.aisle.proofs.deliver_all.Goals as goal

pub loop-sender-init : goal.loop-sender-init
loop-sender-init c = laid_none _ _ c.requires.all

pub loop-sender-preserved : goal.loop-sender-preserved
loop-sender-preserved c =
    let room : c.loop-sender.sender < most_nodes = omega (arith, c.loop-sender-test.true, c.requires.small) in
    let inv = c.loop-sender.invariant in
    let waiting = c.waiting-waiting.ensures in
    let is = rw (lent_old _ _ _ _ room inv, waiting) at c.deliver.ensures in
    laid_more _ _ _ _ room inv _ is c.deliver.auto.slot

pub returns : goal.returns
returns c =
    let inv = c.loop-sender.invariant in
    record {
      size = laid_size _ _ _ _ inv;
      front = laid_front _ _ _ c.args.setup.now.crew.n _ (omega arith) (omega arith) inv;
    }
