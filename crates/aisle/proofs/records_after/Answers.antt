-- In `records_after` an honest receiver takes the round from its own inbox, and any other record stays.
use mathlib.Core.Path.{refl, sym}
use native.Mathlib.Omega.{arith}
use lib.Seq.{length-take-le}
use Rattle.wire.proofs.Arrays.{filling_none}
use Rattle.wire.proofs.Tables.{filled_table}
use Rattle.aisle.proofs.Tables.{length_mapped}
use Rattle.aisle.proofs.Records.{inbox_is, honest_takes, put_back}
use borrow.Author.Rules.{rules}
use Rattle.aisle.proofs.records_after.Goals.{then-setup-receiver, else-setup-receiver}
use Rattle.aisle.proofs.records_after.Goals as goal

pub loop-receiver-init : goal.loop-receiver-init
loop-receiver-init c =
    record { taken = filling_none _ (search (rules, length_mapped)); others = λ k later. refl }

pub slice_bounds-take-end : goal.slice_bounds-take-end
slice_bounds-take-end c = sym (length-take-le _ _ (omega (arith, c.deliver_all.ensures.size)))

pub loop-receiver-preserved : goal.loop-receiver-preserved
loop-receiver-preserved c =
    let inv = c.loop-receiver.invariant in
    let less = c.loop-receiver-test.true in
    elim c.if-setup-receiver.branch [
      | then-setup-receiver w ↦
          let all = c.messages-sent.ensures in
          let is = inbox_is c.args.setup.now c.args.moment.now _ _ _ c.requires all w.deliver_all.ensures in
          let after = rw c.from-size.ensures at w.take.ensures.node in
          rw w.node-items-is (honest_takes _ _ _ _ less inv _ _ w.if-setup-receiver.true is after)
      | else-setup-receiver w ↦ rw w.node-items-is (put_back _ _ _ _ less inv w.if-setup-receiver.false)
    ]

pub returns : goal.returns
returns c = filled_table c.loop-receiver.invariant.taken c.loop-receiver-test.false
