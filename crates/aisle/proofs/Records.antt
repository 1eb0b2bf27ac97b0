-- The records while the nodes take a round, one after another.
use mathlib.Core.Path.{◌≡◌, ◌∙◌}
use mathlib.Core.Bool.{true, false}
use mathlib.Core.List.{List}
use Prim.Native.Nat.{ℕ, ◌+◌, ◌*◌, ◌<◌, ◌≤◌}
use native.Mathlib.Omega.{arith}
use lib.ListN.{get_or, set, take}
use lib.Seq.{get_or-set_other, set-get_or}
use Rattle.wire.specs.Outcome.{value_or}
use Rattle.crew.specs.Parts.{most_nodes}
use Rattle.message.specs.Layout.{slot_size}
use Rattle.node.specs.declared.Node.{Node}
use Rattle.rounds.specs.Taking.{take_of}
use Rattle.wire.proofs.Arrays.{filling_more}
use Rattle.aisle.specs.declared.Setup.{Setup}
use Rattle.aisle.specs.declared.Moment.{Moment}
use Rattle.aisle.specs.Round.{nowhere, nobody, node_in, is_in, slot_from, inbox_of, node_after}
use Rattle.aisle.specs.Promises.{AllSent, InboxFrom}
use Rattle.aisle.proofs.Slots.{slots_same}
use Rattle.aisle.proofs.Tables.{Tabled}

-- The records of the first receivers are those after the round, all others are as they were.
pub record Taking (setup : Setup) (m : Moment) (nodes : List Node) (receiver : ℕ) : Type 0 where
  pub taken : Tabled (node_after setup m) most_nodes nodes receiver
  pub others : (k : ℕ) → receiver ≤ k → node_in nodes k ≡ node_in m.nodes k

module _ (setup : Setup) (m : Moment) (receiver : ℕ) where
  -- what is laid from all that is sent is the receiver's inbox
  pub inbox_is : (sent r : List ℕ) → setup.crew.n ≤ most_nodes → AllSent m.nodes setup.honest sent
      → InboxFrom setup m sent (get_or m.pending receiver nobody) r
      → take (slot_size * setup.crew.n) r ≡ inbox_of setup m receiver
  unfolding slot_from
  inbox_is sent r small all laid =
      laid.front ∙ slots_same _ _ setup.crew.n λ s less. rw (all.each s (omega (arith, less, small)))

  module _ (nodes : List Node) (less : receiver < most_nodes) (taking : Taking setup m nodes receiver) where
    taking_more : (after : Node) → after ≡ node_after setup m receiver
        → Taking setup m (set nodes receiver after) (receiver + 1)
    taking_more after is = record {
      taken = filling_more after less taking.taken is;
      others = λ k later.
          get_or-set_other nodes receiver k after nowhere (λ same. omega arith) ∙ taking.others k (omega arith);
    }

    -- an honest node takes the round
    pub honest_takes : (inbox : List ℕ) (after : Node) → is_in setup.honest receiver ≡ true
        → inbox ≡ inbox_of setup m receiver
        → after ≡ value_or (node_in nodes receiver) (take_of (node_in nodes receiver) inbox)
        → Taking setup m (set nodes receiver after) (receiver + 1)
    unfolding node_after
    honest_takes inbox after honest is took =
        taking_more after (rw (honest, ← taking.others receiver (omega arith), ← is) took)

    -- the record of any other node is put back as it was
    pub put_back : is_in setup.honest receiver ≡ false
        → Taking setup m (set nodes receiver (node_in nodes receiver)) (receiver + 1)
    unfolding node_after
    put_back liar = taking_more (node_in nodes receiver) (rw liar (taking.others receiver (omega arith)))

    -- and so stays
    pub others_stay : is_in setup.honest receiver ≡ false → Taking setup m nodes (receiver + 1)
    others_stay liar = rw (set-get_or nodes receiver nowhere) at (put_back liar)
