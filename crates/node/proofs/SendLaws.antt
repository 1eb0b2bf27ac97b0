-- Writing the coming message, case by case: what a message's writer answers and leaves in the buffer is what the node
-- is to answer and leave.
use mathlib.Core.Path.{◌≡◌, refl, sym, ap, ap₂, ◌∙◌}
use mathlib.Core.Bool.{Bool, true, false}
use mathlib.Core.List.{List, ◌++◌}
use mathlib.Core.Logic.{◌≢◌}
use Prim.Native.Nat.{ℕ, ◌≤◌, ◌<◌}
use native.Mathlib.Omega.{arith}
use lib.ListN.{length, take, drop}
use lib.Seq.{take_at}
use lib.Dec.{leb, ltb}
use borrow.Author.Tests.{ltb-true, lt-ltb, le-ltb, le-leb}
use Rattle.std.specs.Prelude.{Result, Ok, Err, MatchResult, IsErrAnd}
use Rattle.std.proofs.lemmas.Result.{err_from_is_err_and}
use Rattle.wire.specs.Outcome.{Outcome, accepted, refused, require}
use Rattle.wire.proofs.Outcomes.{passed, refused_not_accepted, same_number}
use Rattle.wire.specs.Sizes.{spent_phase}
use Rattle.message.specs.Fields.{Message}
use Rattle.writer.specs.Writing as writer
use Rattle.writer.specs.declared.WriteRefusal.{WriteRefusal}
use Rattle.writer.specs.declared.WriteRefusal.TheVariants.{OutOfBounds, Short}
use Rattle.message.proofs.EncodeLaws.{encode_length}
use Rattle.node.specs.declared.Node.{Node}
use Rattle.node.specs.declared.SendRefusal.{SendRefusal}
use Rattle.node.specs.declared.SendRefusal.TheVariants.{Short as Unsent}
use Rattle.node.specs.Soundness.{sound}
use Rattle.node.specs.Sending.{
  listed_phases,
  confirming,
  encoded,
  coming_bytes,
  write_coming_of,
  coming_buffer_of,
  send_answer,
  Writes,
}
use Rattle.node.specs.Promises.{Due}
use Rattle.wire.specs.Bytes.{buffer_after}
use Rattle.node.proofs.Facts.{sound_facts}
use Rattle.node.proofs.Coming.{Says, selects, says_coming, coming_silent, selection_allowed, says_within}

-- a record that is due a message: what a message's writer answers and leaves is what the node does
module _ {d : Node} (due : Due d) (buffer : List ℕ) where
  pub message_written : {m : Message} {outcome : Outcome ℕ} {after : List ℕ} → Says d m
      → writer.Written (writer.write_message_of m buffer) (writer.message_buffer_of m buffer) outcome after
      → Writes d buffer outcome after
  unfolding write_coming_of writer.write_message_of
  message_written {m} says wrote =
      let bounds = says_within (sound_facts d due.is_sound) due.unspent says in
      let said = says_coming says in
      let unspent = lt-ltb d.phase spent_phase due.unspent in
      let same : writer.write_message_of m buffer ≡ write_coming_of d buffer
      = simp (due.is_sound, unspent, bounds, said, encode_length m) in
      let left = ap₂ (λ outcome bytes. buffer_after bytes buffer outcome) same (sym (ap encoded said)) in
      record { answer = wrote.answer ∙ same; left = wrote.left ∙ left }

  pub selection_written : {phases : ℕ} {outcome : Outcome ℕ} {after : List ℕ} → d.round ≡ 1 → phases ≡ listed_phases d
      → writer.Written
      (writer.write_selection_of d.run d.phase d.vote d.stamp d.history phases buffer)
      (writer.selection_buffer_of d.run d.phase d.vote d.stamp d.history phases buffer) outcome after
      → Writes d buffer outcome after
  selection_written one same wrote =
      let ok = selection_allowed (sound_facts d due.is_sound) due.unspent one in
      message_written (selects one)
      (record { answer = simp (same, ok.before) at wrote.answer; left = simp (same, ok.before) at wrote.left })

  -- silence is a length of 0, into any buffer
  pub silence_written : d.round ≡ 2 → confirming d ≡ false → Writes d buffer (accepted 0) buffer
  unfolding write_coming_of
  silence_written two silent =
      let said = coming_silent d two silent in
      let room = le-leb 0 (length buffer) (omega arith) in
      let unspent = lt-ltb d.phase spent_phase due.unspent in
      record { answer = simp (due.is_sound, unspent, said, room); left = simp (due.is_sound, unspent, said, room) }

-- a record that is not sound, or is spent, is refused, and nothing is written
pub unsound_refused : (d : Node) (buffer : List ℕ) → sound d ≡ false → Writes d buffer (refused 7) buffer
unfolding write_coming_of
unsound_refused d buffer broken = record { answer = simp broken; left = simp broken }

pub spent_refused : (d : Node) (buffer : List ℕ) → sound d ≡ true → spent_phase ≤ d.phase
    → Writes d buffer (refused 8) buffer
unfolding write_coming_of
spent_refused d buffer ok spent =
    let over = le-ltb d.phase spent_phase spent in
    record { answer = simp (ok, over); left = simp (ok, over) }

-- An accepted write is of a sound, unspent record; its length is the coming message's, which stands at the buffer's
-- front.
pub write_accepted : (d : Node) (buffer : List ℕ) (size : ℕ) → write_coming_of d buffer ≡ accepted size
    → (sound d ≡ true)
    × (d.phase < spent_phase)
    × (length (coming_bytes d) ≡ size)
    × (take size (coming_buffer_of d buffer) ≡ coming_bytes d)
unfolding write_coming_of
write_accepted d buffer size e =
    let ok = passed (sound d) 7 _ e in
    let left = passed (ltb d.phase spent_phase) 8 _ ok.1 in
    let room = passed (leb (length (coming_bytes d)) (length buffer)) 9 _ left.1 in
    let long : length (coming_bytes d) ≡ size = cc room.1 in
    let after : coming_buffer_of d buffer ≡ coming_bytes d ++ drop size buffer
    = ap (buffer_after (coming_bytes d) buffer) e in
    (ok.0, ltb-true _ _ left.0, long, ap (take size) after ∙ take_at (coming_bytes d) (drop size buffer) size long)

-- a node is never told that its message breaks a bound
pub never_out_of_bounds : (d : Node) (buffer : List ℕ) → write_coming_of d buffer ≢ refused 13
unfolding write_coming_of
never_out_of_bounds d buffer = go (sound d) (ltb d.phase spent_phase) (leb (length (coming_bytes d)) (length buffer))
  where
    go : (a b c : Bool) → require a 7 (require b 8 (require c 9 (accepted (length (coming_bytes d))))) ≢ refused 13
    go true true true e = refused_not_accepted 13 _ (sym e)
    go true true false e = omega (arith, same_number e)
    go true false c e = omega (arith, same_number e)
    go false b c e = omega (arith, same_number e)

-- so a writer that refuses has found the buffer too short, and is told on as that
pub sent_as_written : (wrote : Result ℕ WriteRefusal) (sent : Result ℕ SendRefusal)
    → writer.write_answer wrote ≢ refused 13
    → MatchResult wrote (λ size. sent ≡ Ok size) (λ why. IsErrAnd sent (λ refusal. refusal ≡ Unsent))
    → send_answer sent ≡ writer.write_answer wrote
sent_as_written (Ok size) sent inside told = ap send_answer told
sent_as_written (Err OutOfBounds) sent inside told = absurd (inside refl)
sent_as_written (Err Short) sent inside told =
    let refusal = err_from_is_err_and sent told in
    rw (refusal.1, refusal.2)
