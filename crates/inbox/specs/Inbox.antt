-- From an inbox's bytes to the ballots that count: document 01, 'Messages', and 02, C-13.
use Rattle.std.specs.Prelude.{ℕ, ◌*◌, Bool, true, cond, ◌&&◌, List, [], take, drop, eqb}
use Rattle.std.proofs.Math.Option.{Option, none, some}
use Rattle.wire.specs.Outcome.{Outcome, accepted, refused}
use Rattle.crew.specs.declared.Crew.{Crew}
use Rattle.crew.specs.Group.{speaks}
use Rattle.message.specs.Fields.{Body, selection, validation, decision, Message}
use Rattle.message.specs.Encoding.{kind_of}
use Rattle.message.specs.Reading.{read_of}
use Rattle.message.specs.Layout.{slot_size}
use Rattle.ballot.specs.Count.{holds}
use Rattle.ballot.specs.Ballot.{Ballot, inbox}
use Rattle.node.specs.declared.Node.{Node}

-- 01: "An inbox is n slots of 202 bytes; slot q is the part that starts at byte 202 times q"
abbrev pub slot_at : List ℕ → ℕ → List ℕ
slot_at bytes q = take slot_size (drop (slot_size * q) bytes)

-- what a message puts forward: its vote or plan, and its stamp and entries where its kind has them
abbrev pub ballot_of : Body → Ballot
ballot_of (selection vote stamp entries) = record { vote = vote; stamp = stamp; entries = entries }
ballot_of (validation plan) = record { vote = plan; stamp = 0; entries = [] }
ballot_of (decision vote stamp) = record { vote = vote; stamp = stamp; entries = [] }

-- the message's run, kind and phase are these: round k takes kind k
abbrev pub is_of : ℕ → ℕ → ℕ → Message → Bool
is_of run phase round m = eqb m.run run && eqb (kind_of m.body) round && eqb m.phase phase

-- 01: "A slot counts when reading it succeeds and its run, kind and phase are those of the node's coming round; a
-- slot that reading refuses is simply absent": the ballot of a slot that counts, by what reading it answers
abbrev pub counted : ℕ → ℕ → ℕ → Outcome Message → Option Ballot
counted run phase round (accepted m) = cond (is_of run phase round m) (some (ballot_of m.body)) none
counted run phase round (refused number) = none

-- what slot q says by its bytes, in a round with this run, phase and number
abbrev pub ballot_in : ℕ → ℕ → ℕ → List ℕ → ℕ → Option Ballot
ballot_in run phase round bytes q = counted run phase round (read_of (slot_at bytes q))

-- What it says to a node of this crew: nothing where its own node does not speak in the round.
-- 02: "and their slots there don't count"
abbrev pub heard_in : Crew → ℕ → ℕ → ℕ → List ℕ → ℕ → Option Ballot
heard_in crew run phase round bytes q = cond (speaks crew phase round q) (ballot_in run phase round bytes q) none

-- what its n slots say
abbrev pub ballots_for : Crew → ℕ → ℕ → ℕ → List ℕ → List Ballot
ballots_for crew run phase round bytes = inbox crew (heard_in crew run phase round bytes)

-- whether slot q says anything to it: whether it counts
abbrev pub counts_in : Crew → ℕ → ℕ → ℕ → List ℕ → ℕ → Bool
counts_in crew run phase round bytes q = holds (λ m. true) (heard_in crew run phase round bytes q)

-- the same for a node's record: slot q, the n slots, and whether slot q counts
abbrev pub ballot_at : Node → List ℕ → ℕ → Option Ballot
ballot_at d bytes q = heard_in d.crew d.run d.phase d.round bytes q

abbrev pub ballots : Node → List ℕ → List Ballot
ballots d bytes = ballots_for d.crew d.run d.phase d.round bytes

abbrev pub counts : Node → List ℕ → ℕ → Bool
counts d bytes q = counts_in d.crew d.run d.phase d.round bytes q
