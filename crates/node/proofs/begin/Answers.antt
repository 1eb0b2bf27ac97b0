-- The record that a node begins with is the one that `begun` defines.
use mathlib.Core.Path.{refl}
use Rattle.node.specs.Record.{begun}
use Rattle.node.proofs.begin.Goals as goal

pub returns : goal.returns
unfolding begun
returns c = refl
