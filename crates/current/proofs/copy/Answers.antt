-- `copy` meets its contract.
use mathlib.Core.Path.{refl}
use Rattle.wire.proofs.Arrays.{filling_none, filling_more, filled_all}
use borrow.Author.Rules.{rules}
use Rattle.current.proofs.copy.Goals as goal

pub loop-i-init : goal.loop-i-init
loop-i-init c = filling_none _ c.requires

pub loop-i-preserved : goal.loop-i-preserved
loop-i-preserved c = filling_more _ (search rules) c.loop-i.invariant refl

pub returns : goal.returns
returns c =
    let filling = c.loop-i.invariant in
    filled_all _ _ _ _ _ filling.long (search rules) filling.so_far (λ k less. refl)
