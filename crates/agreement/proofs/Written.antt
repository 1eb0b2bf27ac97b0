-- What a slot says, if it counts and begins with bytes that a node wrote: it is read to the node's coming message, and
-- that puts forward what the abstract engine's node says. That it counts is nowhere supposed of what a node wrote.
-- Builds on law 3, in crate node.
use mathlib.Core.Path.{◌≡◌, refl, sym, ap, ◌∙◌}
use mathlib.Core.Bool.{Bool, true, false, cond, ◌&&◌}
use mathlib.Core.List.{List, ◌++◌}
use mathlib.Core.Option.{Option, none, some}
use Prim.Native.Nat.{ℕ}
use native.Mathlib.Omega.{arith}
use lib.ListN.{length}
use lib.Dec.{leb}
use borrow.Author.Tests.{leb-true, leb-false, eq-eqb, ne_eqb}
use Rattle.wire.specs.Plan.{if_plan}
use Rattle.wire.specs.Outcome.{accepted}
use Rattle.wire.proofs.Outcomes.{passed, same_value}
use Rattle.crew.specs.declared.Crew.{Crew}
use Rattle.crew.specs.Thresholds.{class_of}
use Rattle.crew.specs.Group.{validates}
use Rattle.crew.proofs.Facts.{Quorum}
use Rattle.message.specs.Fields.{validation, Message}
use Rattle.message.specs.Reading.{all_zero, read_of}
use Rattle.writer.specs.Writing.{validation_of}
use Rattle.ballot.specs.Ballot.{Ballot}
use Rattle.model.proofs.Voter.{Voter, Round, selecting, validating, deciding, say}
use Rattle.node.specs.declared.Node.{Node}
use Rattle.node.specs.Sending.{coming_of, encoded, coming_bytes}
use Rattle.node.proofs.Facts.{Typed}
use Rattle.node.proofs.Coming.{Says}
use Rattle.node.proofs.SendLaws.{write_accepted}
use Rattle.node.proofs.ReadBack.{read_back}
use Rattle.inbox.specs.Inbox.{slot_at, ballot_of, is_of, ballot_at}
use Rattle.inbox.proofs.Counted.{heard_message}
use Rattle.agreement.specs.Statement.{write, Puts}
use Rattle.agreement.proofs.Record.{as_record}
use Rattle.agreement.proofs.Entries.{listed_said}

-- A ballot that counts for the reader comes from the writer: its message is the writer's coming one.
pub record Heard (writer reader : Node) (m : Ballot) : Type 0 where
  pub message : Message
  pub coming : coming_of writer ≡ some message
  pub says : Says writer message
  pub counts : is_of reader.run reader.phase reader.round message ≡ true
  pub ballot : ballot_of message.body ≡ m

-- a slot that counts, and begins with bytes that a record wrote, holds that record's coming message
pub slot_heard : (writer reader : Node) (inbox buffer written rest : List ℕ) (q : ℕ) (m : Ballot) → Typed writer
    → Puts writer (write buffer) written → slot_at inbox q ≡ written ++ rest → ballot_at reader inbox q ≡ some m
    → Heard writer reader m
slot_heard d reader inbox buffer written rest q m typed puts slot counts = go (coming_of d) refl
  where
    bytes : coming_bytes d ≡ written
    bytes = sym (write_accepted d buffer (length written) puts.0).3 ∙ puts.2

    go : (o : Option Message) → coming_of d ≡ o → Heard d reader m
    go none silent = absurd (omega (arith, puts.1, ap length bytes, ap (λ o. length (encoded o)) silent))
    go (some k) coming =
        let made = write_accepted d buffer (length written) puts.0 in
        let back = read_back d typed made.0 made.1 k coming in
        let read = ap read_of (slot ∙ ap (λ part. part ++ rest) (sym bytes)) ∙ back.2 rest in
        let c = heard_message reader inbox q m counts in
        let same : c.message ≡ k = sym (same_value (passed (all_zero rest) 16 (accepted k) (sym read ∙ c.read)).1) in
        record {
          message = k;
          coming = coming;
          says = back.0;
          counts = ap (is_of reader.run reader.phase reader.round) (sym same) ∙ c.coming;
          ballot = ap (λ (x : Message). ballot_of x.body) (sym same) ∙ c.says;
        }

-- what a coming message puts forward; silence puts forward nothing
abbrev pub forward : Option Message → Option Ballot
forward none = none
forward (some m) = some (ballot_of m.body)

-- a record's coming message puts forward what the engine's node says, and is silence where that node is silent
pub coming_said : (crew : Crew) (run q phase : ℕ) (round : Round) (a : Voter) → Quorum crew
    → forward (coming_of (as_record crew run q phase round a)) ≡ say (class_of crew) crew phase round q a
unfolding coming_of
coming_said crew run q phase selecting a facts =
    ap (λ entries. some (record { vote = a.vote; stamp = a.stamp; entries = entries }))
    (listed_said crew facts a.history phase)
coming_said crew run q phase validating a facts = go (validates crew phase q) (leb 1 a.select) refl
  where
    go : (turn chosen : Bool) → leb 1 a.select ≡ chosen
        → forward (cond (turn && chosen) (some (validation_of run phase a.select)) none)
        ≡ cond turn (if_plan a.select (some (ballot_of (validation a.select))) none) none
    go true true plan = simp (ne_eqb a.select 0 (λ z. omega (arith, leb-true 1 a.select plan)))
    go true false silent = simp (eq-eqb a.select 0 (omega (arith, leb-false 1 a.select silent)))
    go false chosen any = refl
coming_said crew run q phase deciding a facts = refl
