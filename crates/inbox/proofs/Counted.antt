-- A slot that counts: it is read to a message of the coming round, and says what that message puts forward. It is one
-- in which such a message is found where it is expected.
use mathlib.Core.Path.{◌≡◌, refl}
use mathlib.Core.Bool.{Bool, true, false, cond}
use mathlib.Core.List.{List}
use mathlib.Core.Option.{none, some, none-ne-some, some-injective}
use Prim.Native.Nat.{ℕ}
use Rattle.wire.specs.Outcome.{Outcome, accepted, refused}
use Rattle.message.specs.Fields.{Message}
use Rattle.message.specs.Reading.{read_of}
use Rattle.message.specs.Laying.{bears, expected_in}
use Rattle.message.specs.declared.Header.{Header}
use Rattle.ballot.specs.Ballot.{Ballot}
use Rattle.ballot.proofs.Tests.{said_turn}
use Rattle.crew.specs.Group.{speaks}
use Rattle.node.specs.declared.Node.{Node}
use Rattle.inbox.specs.Inbox.{slot_at, is_of, ballot_of, counted, ballot_at}
use Rattle.inbox.specs.Columns.{ballot_if}

pub record Counted (run phase round : ℕ) (slot : List ℕ) (m : Ballot) : Type 0 where
  pub message : Message
  pub read : read_of slot ≡ accepted message
  pub coming : is_of run phase round message ≡ true
  pub says : ballot_of message.body ≡ m

pub counted_message : (run phase round : ℕ) (slot : List ℕ) (m : Ballot)
    → counted run phase round (read_of slot) ≡ some m → Counted run phase round slot m
counted_message run phase round slot m e = by_reading (read_of slot) refl e
  where
    by_coming : (k : Message) → read_of slot ≡ accepted k → (b : Bool) → is_of run phase round k ≡ b
        → cond b (some (ballot_of k.body)) none ≡ some m → Counted run phase round slot m
    by_coming k read true coming e =
        record { message = k; read = read; coming = coming; says = some-injective _ _ e }
    by_coming k read false coming e = absurd (none-ne-some _ e)

    by_reading : (o : Outcome Message) → read_of slot ≡ o → counted run phase round o ≡ some m
        → Counted run phase round slot m
    by_reading (accepted k) read e = by_coming k read (is_of run phase round k) refl e
    by_reading (refused number) read e = absurd (none-ne-some _ e)

-- a slot that counts for a record says what its message puts forward
pub heard_message : (d : Node) (bytes : List ℕ) (q : ℕ) (m : Ballot) → ballot_at d bytes q ≡ some m
    → Counted d.run d.phase d.round (slot_at bytes q) m
heard_message d bytes q m e =
    counted_message d.run d.phase d.round (slot_at bytes q) m
    (said_turn (speaks d.crew d.phase d.round q) e).1

-- where a message of the coming round is expected, what is found is what counts
pub expected_counts : (coming : Header) (o : Outcome Message)
    → ballot_if (expected_in coming o) ≡ counted coming.run coming.phase coming.kind o
expected_counts coming (accepted m) = by_header (bears coming m)
  where
    by_header : (b : Bool) → ballot_if (cond b (some m.body) none) ≡ cond b (some (ballot_of m.body)) none
    by_header true = refl
    by_header false = refl
expected_counts coming (refused number) = refl
