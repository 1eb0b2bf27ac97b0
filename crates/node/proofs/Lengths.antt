-- No coming message is longer than a slot of an inbox: a buffer of 202 bytes is long enough for every one.
use mathlib.Core.Path.{◌≡◌, refl}
use mathlib.Core.Bool.{Bool, true, false, cond}
use mathlib.Core.List.{List}
use mathlib.Core.Option.{none, some}
use Prim.Native.Nat.{ℕ, ◌≤◌, ◌<◌}
use native.Mathlib.Omega.{arith}
use lib.ListN.{length}
use lib.Dec.{eqb}
use Rattle.wire.specs.Outcome.{Outcome, accepted, refused, value_or}
use Rattle.wire.specs.Sizes.{spent_phase}
use Rattle.message.specs.Fields.{Message}
use Rattle.message.specs.Layout.{slot_size}
use Rattle.writer.specs.Writing.{selection_of, validation_of, decision_of}
use Rattle.writer.proofs.HistoryLaws.{listed_count}
use Rattle.message.proofs.EncodeLaws.{encode_length}
use Rattle.node.specs.declared.Node.{Node}
use Rattle.node.specs.Sending.{listed_phases, confirming, coming_of, encoded, coming_bytes, write_coming_of}
use Rattle.node.proofs.Coming.{listed_before}
use Rattle.node.proofs.SendLaws.{write_accepted}

pub coming_length : (d : Node) → d.phase < spent_phase → length (coming_bytes d) ≤ slot_size
unfolding coming_of
coming_length d left = go (eqb d.round 1) (eqb d.round 2) (confirming d)
  where
    selects : Message
    selects = selection_of d.run d.phase d.vote d.stamp d.history (listed_phases d)

    confirms : Message
    confirms = validation_of d.run d.phase d.select

    decides : Message
    decides = decision_of d.run d.phase d.vote d.stamp

    go : (first second chosen : Bool)
        → length (encoded (cond first (some selects) (cond second (cond chosen (some confirms) none) (some decides))))
        ≤ slot_size
    go true second chosen =
        omega (arith, encode_length selects, listed_count d.history 0 (listed_phases d), listed_before d)
    go false true true = omega (arith, encode_length confirms)
    go false true false = omega arith
    go false false chosen = omega (arith, encode_length decides)

-- what an accepted write answers is no longer than that
pub write_length : (d : Node) (buffer : List ℕ) → value_or 0 (write_coming_of d buffer) ≤ slot_size
write_length d buffer = go (write_coming_of d buffer) refl
  where
    go : (outcome : Outcome ℕ) → write_coming_of d buffer ≡ outcome → value_or 0 outcome ≤ slot_size
    go (accepted size) e =
        let w = write_accepted d buffer size e in
        omega (arith, coming_length d w.1, w.2)
    go (refused number) e = omega arith
