-- The test is 01's sentence on soundness, clause by clause.
use Rattle.std.proofs.Common.{◌≡◌, arith}
use Rattle.std.proofs.lemmas.Grind.{common_steps}
use Rattle.node.specs.Soundness.{rest_empty, sound}
use Rattle.node.proofs.Histories.{empty_rest}
use Rattle.node.proofs.Node.is_sound.Goals as goal

pub returns-then-is_stamped : goal.returns-then-is_stamped
unfolding sound
returns-then-is_stamped c =
    let d = c.args.self.now in
    let rest : c.is_empty_from.result ≡ rest_empty d =
    rw (c.is_empty_from.ensures, c.first_unselected.ensures) (empty_rest d.history _ _ (omega arith)) in
    grind (arith, common_steps)

pub returns-else-is_stamped : goal.returns-else-is_stamped
unfolding sound
returns-else-is_stamped c = grind (arith, common_steps)
