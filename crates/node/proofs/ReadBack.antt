-- What a node writes is read to its record's fields: law 3 of the engine.
-- Builds on crate codec, where any message within the bounds is read to itself.
use mathlib.Core.Path.{◌≡◌, ap}
use mathlib.Core.Bool.{true}
use mathlib.Core.List.{List, ◌++◌}
use mathlib.Core.Option.{some}
use Prim.Native.Nat.{ℕ, ◌<◌}
use lib.ListN.{drop}
use Rattle.wire.specs.Outcome.{accepted, require}
use Rattle.wire.specs.Sizes.{spent_phase}
use Rattle.message.specs.Fields.{Message}
use Rattle.message.specs.Bounds.{within}
use Rattle.message.specs.Reading.{all_zero, read_of}
use Rattle.codec.proofs.Padded.{read_of_written}
use Rattle.node.specs.declared.Node.{Node}
use Rattle.node.specs.Soundness.{sound}
use Rattle.node.specs.Sending.{coming_of, encoded, coming_bytes, write_coming_of, coming_buffer_of}
use Rattle.wire.specs.Bytes.{buffer_after}
use Rattle.node.proofs.Facts.{Typed, sound_facts}
use Rattle.node.proofs.SendLaws.{write_accepted}
use Rattle.node.proofs.Coming.{Says, coming_says, says_within, says_fits}

-- What a sound, unspent record writes is within a message's bounds. Where nothing but zeros follows it in a slice,
-- reading gives the message that `Says` spells out in the record's own fields: run and phase; in round 1 vote, stamp
-- and entries, in round 2 select, in round 3 vote and stamp. Where anything else follows, reading refuses with 16.
pub read_back : (d : Node) → Typed d → sound d ≡ true → d.phase < spent_phase → (m : Message) → coming_of d ≡ some m
    → Says d m
    × (within m ≡ true)
    × ((tail : List ℕ) → read_of (coming_bytes d ++ tail) ≡ require (all_zero tail) 16 (accepted m))
read_back d typed ok left m e =
    let says = coming_says (sound_facts d ok) m e in
    let bounds = says_within (sound_facts d ok) left says in
    let bytes = ap encoded e in
    (says, bounds, λ tail. rw bytes (read_of_written m tail bounds (says_fits typed says)))

-- So the buffer after an accepted write is read to the message of the coming round where the bytes behind it are 0;
-- else it is refused with 16.
pub written_read : (d : Node) → Typed d → (buffer : List ℕ) (size : ℕ) → write_coming_of d buffer ≡ accepted size
    → (m : Message) → coming_of d ≡ some m
    → read_of (coming_buffer_of d buffer) ≡ require (all_zero (drop size buffer)) 16 (accepted m)
written_read d typed buffer size e m coming =
    let w = write_accepted d buffer size e in
    let after : coming_buffer_of d buffer ≡ coming_bytes d ++ drop size buffer
    = ap (buffer_after (coming_bytes d) buffer) e in
    rw after ((read_back d typed w.0 w.1 m coming).2 (drop size buffer))
