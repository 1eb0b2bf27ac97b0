-- What the aisle's functions require and promise that run a round.
-- Promises of private functions: no public contract cites this file.
use Rattle.std.specs.Prelude.{◌≡◌, Bool, List, ℕ, ◌*◌, ◌<◌, ◌≤◌, length, take, drop}
use Rattle.wire.specs.Sizes.{spent_phase}
use Rattle.crew.specs.Parts.{most_nodes}
use Rattle.message.specs.Layout.{slot_size}
use Rattle.node.specs.declared.Node.{Node}
use Rattle.pending.specs.declared.Pending.{Pending}
use Rattle.pending.specs.Pairs.{waiting_from}
use Rattle.aisle.specs.declared.Setup.{Setup}
use Rattle.aisle.specs.declared.Moment.{Moment}
use Rattle.aisle.specs.Round.{is_in, slots_of, sent_by, delivered, inbox_size}

-- a sender's slot of all that is sent
abbrev pub slot_in : List ℕ → ℕ → List ℕ
slot_in sent sender = take slot_size (drop (slot_size * sender) sent)

-- r is all that is sent: each node's slot of it holds what that node sends.
pub record AllSent (nodes : List Node) (honest : List Bool) (r : List ℕ) : Type 0 where
  pub whole : length r ≡ inbox_size
  pub each : (sender : ℕ) → sender < most_nodes → slot_in r sender ≡ sent_by nodes honest sender

-- an inbox can be made of all that is sent: every node has its place, and every slot is there
pub record Fillable (setup : Setup) (sent : List ℕ) : Type 0 where
  pub small : setup.crew.n ≤ most_nodes
  pub all : length sent ≡ inbox_size

-- what a receiver's slot for a sender becomes by all that is sent
abbrev pub reaching : List Bool → ℕ → ℕ → List ℕ → Pending → ℕ → List ℕ
reaching honest phase round sent pending sender =
    delivered (is_in honest sender) (waiting_from pending sender) phase round (slot_in sent sender)

-- r is as long as the largest inbox, and at its front stands what reaches the receiver.
pub record InboxFrom (setup : Setup) (m : Moment) (sent : List ℕ) (pending : Pending) (r : List ℕ) : Type 0 where
  pub size : length r ≡ inbox_size
  pub front :
      take (slot_size * setup.crew.n) r
      ≡ slots_of (reaching setup.honest m.phase m.round sent pending) setup.crew.n

-- a round can be run
pub record Ready (setup : Setup) (m : Moment) : Type 0 where
  pub small : setup.crew.n ≤ most_nodes
  pub unspent : m.phase < spent_phase
