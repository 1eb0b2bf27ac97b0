-- A turn of `messages` writes one sender's message into its slot, and at the end each has sent.
use Prim.Native.Nat.{ℕ}
use lib.ListN.{length-replicate}
use Rattle.aisle.specs.Round.{inbox_size}
use Rattle.aisle.proofs.Slots.{laid_none, laid_more, laid_size, laid_slot, lent_old, empty_there}
use native.Mathlib.Omega.{arith}
use borrow.Author.Rules.{rules}
use Rattle.aisle.proofs.messages.Goals as goal

pub loop-sender-init : goal.loop-sender-init
loop-sender-init c = laid_none _ _ (length-replicate {A = ℕ} inbox_size 0)

pub loop-sender-preserved : goal.loop-sender-preserved
loop-sender-preserved c =
    let inv = c.loop-sender.invariant in
    let less = c.loop-sender-test.true in
    let is = rw (lent_old _ _ _ _ less inv, empty_there _ less) at c.write_message.ensures in
    laid_more _ _ _ _ less inv _ is c.write_message.auto.slot

pub returns : goal.returns
returns c =
    let laid = c.loop-sender.invariant in
    record {
      whole = laid_size _ _ _ _ laid;
      each = λ s less. laid_slot _ _ _ _ s (omega arith) laid;
    }
