-- What a go does among the nodes: document 01, 'The drill' and 'The list in demand 3'. Every honest node writes its
-- coming message, then every honest node takes the round, with an inbox of what reaches it.
use Rattle.std.specs.Prelude.{
  ℕ,
  zero,
  suc,
  ◌*◌,
  Bool,
  false,
  cond,
  ◌&&◌,
  List,
  [],
  ◌++◌,
  get_or,
  replicate,
  leb,
  ltb,
  eqb,
}
use Rattle.wire.specs.Outcome.{value_or}
use Rattle.wire.specs.Below.{table}
use Rattle.wire.specs.Sizes.{spent_phase}
use Rattle.crew.specs.Parts.{most_nodes}
use Rattle.message.specs.Layout.{slot_size}
use Rattle.message.specs.Fields.{Body, selection, validation, decision, Message}
use Rattle.writer.specs.Writing.{message_buffer_of}
use Rattle.node.specs.declared.Node.{Node}
use Rattle.node.specs.Record.{zeroed}
use Rattle.node.specs.Place.{round_after, phase_after}
use Rattle.node.specs.Sending.{coming_buffer_of}
use Rattle.rounds.specs.Taking.{take_of}
use Rattle.pending.specs.declared.Pending.{Pending}
use Rattle.pending.specs.declared.Waiting.{Waiting}
use Rattle.pending.specs.Pairs.{nothing, waiting_from}
use Rattle.aisle.specs.declared.Setup.{Setup}
use Rattle.aisle.specs.declared.Moment.{Moment}

-- what stands at no place of an array of records, and of one of what waits
abbrev pub nowhere : Node
nowhere = zeroed []

abbrev pub nobody : Pending
nobody = record { from = [] }

abbrev pub node_in : List Node → ℕ → Node
node_in nodes i = get_or nodes i nowhere

abbrev pub is_in : List Bool → ℕ → Bool
is_in honest i = get_or honest i false

-- 01: "sends r in the coming round plan v with stamp t and no entries"
abbrev pub say_body : ℕ → ℕ → ℕ → Body
say_body round plan stamp =
    cond (eqb round 1) (selection plan stamp []) (cond (eqb round 2) (validation plan) (decision plan stamp))

abbrev pub say_message : ℕ → ℕ → ℕ → ℕ → Message
say_message phase round plan stamp = record { run = 1; phase = phase; body = say_body round plan stamp }

-- A slot with the message of a say at its front; plan 0 stands for no say.
-- 01: "without a say it sends r nothing"
unfoldable pub say_buffer : ℕ → ℕ → ℕ → ℕ → List ℕ → List ℕ
say_buffer phase round plan stamp slot =
    cond (eqb plan 0) slot (message_buffer_of (say_message phase round plan stamp) slot)

abbrev pub empty_slot : List ℕ
empty_slot = replicate slot_size 0

-- The slot of each of the first n senders, one after another.
unfoldable pub slots_of : (ℕ → List ℕ) → ℕ → List ℕ
slots_of slot zero = []
slots_of slot (suc sender) = slots_of slot sender ++ slot sender

-- What a node sends, at the front of an empty slot: nothing where it is not honest.
-- 01: "every honest node writes its coming message"
abbrev pub sent_by : List Node → List Bool → ℕ → List ℕ
sent_by nodes honest sender = cond (is_in honest sender) (coming_buffer_of (node_in nodes sender) empty_slot) empty_slot

-- What becomes of a slot with what its sender sends to everybody, on its way to one receiver: it is lost, or, where the
-- sender is not honest, there is what it says to that receiver.
-- 01: "a cut wins over a say"
abbrev pub delivered : Bool → Waiting → ℕ → ℕ → List ℕ → List ℕ
delivered honest waiting phase round slot =
    cond waiting.cut empty_slot
    (cond honest slot (say_buffer phase round waiting.plan waiting.stamp slot))

-- a receiver's slot for a sender
unfoldable pub slot_from : Setup → Moment → ℕ → ℕ → List ℕ
slot_from setup m receiver sender =
    let waiting = waiting_from (get_or m.pending receiver nobody) sender in
    let sent = sent_by m.nodes setup.honest sender in
    delivered (is_in setup.honest sender) waiting m.phase m.round sent

-- 01: "The drill lends each node an inbox of 6,464 bytes"
abbrev pub inbox_size : ℕ
inbox_size = slot_size * most_nodes

-- 01: "cut to 202n"
abbrev pub inbox_of : Setup → Moment → ℕ → List ℕ
inbox_of setup m receiver = slots_of (slot_from setup m receiver) setup.crew.n

-- A node's record after the round.
-- 01: "then every honest node takes the round"
unfoldable pub node_after : Setup → Moment → ℕ → Node
node_after setup m receiver =
    let node = node_in m.nodes receiver in
    let after = value_or node (take_of node (inbox_of setup m receiver)) in
    cond (is_in setup.honest receiver) after node

-- the results of n nodes, 0 where there is none
unfoldable pub results_of : List Node → ℕ → List ℕ
results_of nodes n = table (λ i. cond (ltb i n) (node_in nodes i).result 0) most_nodes

-- 01: "Cuts and says last until the next go"
unfoldable pub go_of : Setup → Moment → Moment
go_of setup m = record {
  phase = phase_after m.phase m.round;
  round = round_after setup.crew.class m.round;
  nodes = table (node_after setup m) most_nodes;
  pending = replicate most_nodes nothing;
}

-- Whether a round can be run: every node has its place, and the phases are not spent.
abbrev pub ready : Setup → Moment → Bool
ready setup m = leb setup.crew.n most_nodes && ltb m.phase spent_phase

-- a go where no round can be run leaves all as it was
unfoldable pub gone : Setup → Moment → Moment
gone setup m = cond (ready setup m) (go_of setup m) m
