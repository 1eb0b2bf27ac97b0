-- The answers to the goals of `put_fields`.
use mathlib.Core.Path.{refl, ◌∙◌}
use native.Mathlib.Omega.{arith}
use native.Mathlib.Nat.{sub-zero}
use Rattle.print.proofs.Writing.{wrote_none, wrote_all, fields_none, fields_more}
use borrow.Author.Rules.{rules}
use Rattle.print.proofs.put_fields.Goals as goal

pub loop-i-init : goal.loop-i-init
loop-i-init c =
    record {
      near = search rules;
      same_size = refl;
      left = simp sub-zero (record { next = refl; left = refl });
    }

pub loop-i-preserved : goal.loop-i-preserved
loop-i-preserved c =
    let laying = c.loop-i.invariant in
    record {
      near = omega (arith, c.put_field-at.ensures.within, laying.near);
      same_size = c.put_field-at.auto.buf ∙ laying.same_size;
      left = fields_more _ _ _ _ c.loop-i-test.true c.put_field-at.ensures.wrote laying.left;
    }

pub returns : goal.returns
returns c =
    let none_left = fields_none _ _ _ _ c.loop-i-test.false in
    record { wrote = wrote_all _ _ none_left (wrote_none _ _) c.loop-i.invariant.left; within = search rules }
