-- `put_entry` meets its contract.
use mathlib.Core.Path.{sym, ◌∙◌}
use native.Mathlib.Numerals.{towards_suc}
use native.Mathlib.Omega.{arith}
use lib.ListN.{length-set}
use borrow.Author.Rules.{rules}
use Rattle.wire.proofs.Stores.{laid_room}
use Rattle.message.specs.Encoding.{entry_bytes}
use Rattle.writer.proofs.put_entry.Goals as goal

pub bounds-buf-place : goal.bounds-buf-place
unfolding entry_bytes
bounds-buf-place c = omega (arith, simp (sym c.is_plan.ensures ∙ c.if-not-is_plan.false) at c.requires)

pub returns : goal.returns
unfolding entry_bytes
returns c =
    let full = sym c.is_plan.ensures ∙ c.if-not-is_plan.false in
    let room = simp full at c.requires in
    let laid = laid_room _ _ _ c.put.ensures (simp length-set (omega (arith, room))) in
    simp (full, towards_suc, laid) (search rules)

pub returns-then-not-is_plan : goal.returns-then-not-is_plan
unfolding entry_bytes
returns-then-not-is_plan c = simp (sym c.is_plan.ensures ∙ c.if-not-is_plan.true) (search rules)
