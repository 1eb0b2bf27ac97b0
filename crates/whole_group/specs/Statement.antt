-- 02, C-13: "With c = n the cases of 01 and the table of C-11 stand." Where all nodes are the group, each definition
-- that turns have a part in is what document 01 has, in whose words it stands here once more; whatever else an
-- operation answers is defined through these.
-- This is the page that a reader has to believe: definitions only. proofs/WholeGroup.antt proves it.
use Rattle.std.specs.Prelude.{◌≡◌, Bool, true, cond, ◌&&◌, List, ℕ, ◌+◌, ◌*◌, ◌≤◌, ◌<◌, leb, ltb, eqb}
use Rattle.std.proofs.Math.Option.{Option, none, some}
use Rattle.wire.specs.Outcome.{accepted, is_accepted}
use Rattle.crew.specs.declared.Crew.{Crew}
use Rattle.crew.specs.Acceptance.{quorum_of, accept_of}
use Rattle.crew.specs.Group.{validates}
use Rattle.message.specs.Fields.{Message}
use Rattle.writer.specs.Writing.{selection_of, validation_of, decision_of}
use Rattle.ballot.specs.Count.{tally, count_if}
use Rattle.ballot.specs.Ballot.{Ballot, votes, inbox}
use Rattle.ballot.specs.Validation.{valid}
use Rattle.node.specs.declared.Node.{Node}
use Rattle.node.specs.Sending.{listed_phases, coming_of}
use Rattle.inbox.specs.Inbox.{ballot_in, ballot_at, ballots}
use Rattle.least_crews.specs.Search.{crew_with, fits, least_crew, in_range}
use Rattle.least_crews.specs.Entries.{IsLeast}

-- 01: "round 2 select, or silence (length 0, nothing written) if select is 0": in rounds 1 and 3 as ever
abbrev pub coming_before : Node → Option Message
coming_before d =
    cond (eqb d.round 1)
    (some (selection_of d.run d.phase d.vote d.stamp d.history (listed_phases d)))
    (cond (eqb d.round 2)
    (cond (leb 1 d.select) (some (validation_of d.run d.phase d.select)) none)
    (some (decision_of d.run d.phase d.vote d.stamp)))

-- 01: "If a plan stands in c slots with 2c > n + b"
abbrev pub valid_before : Crew → List Ballot → ℕ → Bool
valid_before crew ballots v = ltb (crew.n + crew.b) (2 * count_if (votes v) ballots)

-- What holds of a crew with c = n.
pub record AsBefore (crew : Crew) : Type 0 where
  -- 17 is never told: the crew is accepted, or refused, by 01's four conditions
  pub accepts : accept_of crew ≡ quorum_of crew
  -- 01: "all nodes validate"
  pub validate : (phase q : ℕ) → q < crew.n → validates crew phase q ≡ true
  -- and by 01's bound
  pub bound : (ballots : List Ballot) (v : ℕ) → valid crew ballots v ≡ valid_before crew ballots v
  -- a node writes what it wrote
  pub writes : (d : Node) → d.crew ≡ crew → d.own < crew.n → coming_of d ≡ coming_before d
  -- a slot counts where by its bytes it does
  pub hears : (d : Node) → d.crew ≡ crew → (bytes : List ℕ) (q : ℕ) → q < crew.n
      → ballot_at d bytes q ≡ ballot_in d.run d.phase d.round bytes q
  -- so that the rules have the same ballots before them
  pub polls : (d : Node) → d.crew ≡ crew → (bytes : List ℕ)
      → ballots d bytes ≡ inbox crew (ballot_in d.run d.phase d.round bytes)
  -- what 02 asks of a good phase besides, every circle of an accepted crew meets
  pub circles : accept_of crew ≡ accepted tt → (phase : ℕ) (circle : ℕ → Bool)
      → crew.n ≤ tally circle crew.n + crew.b + crew.f
      → crew.c + crew.b < 2 * tally (λ q. circle q && validates crew phase q) crew.n

-- What holds of the table: its search accepts by 01's four conditions, and what it finds is the least crew, also among
-- those with any other c.
pub record TableStands : Type 0 where
  pub search : (class b f n d : ℕ) → fits class b f n d ≡ is_accepted (quorum_of (crew_with class b f n d))
  pub least : (class b f : ℕ) → in_range class b f ≡ true → IsLeast class b f (least_crew class b f)

pub record WholeGroup : Type 0 where
  pub cases : (crew : Crew) → crew.c ≡ crew.n → AsBefore crew
  pub table : TableStands
