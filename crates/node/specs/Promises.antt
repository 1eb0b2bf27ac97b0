-- Writing the coming message of a record that has a round left.
-- Promises of private functions: no public contract cites this file.
use Rattle.std.specs.Prelude.{◌<◌, ◌≡◌, true}
use Rattle.wire.specs.Sizes.{spent_phase}
use Rattle.node.specs.Soundness.{sound}
use Rattle.node.specs.declared.Node.{Node}

-- the record is sound and has a round left
pub record Due (d : Node) : Type 0 where
  pub is_sound : sound d ≡ true
  pub unspent : d.phase < spent_phase
