-- What the writers' tests and stores amount to: the whole buffer is the message and the bytes after it, or untouched.
use mathlib.Core.Path.{◌≡◌, refl}
use mathlib.Core.Bool.{Bool, true, false, ◌&&◌, true≢false}
use mathlib.Core.List.{List}
use Prim.Native.Nat.{ℕ, ◌≤◌, ◌<◌}
use native.Mathlib.Omega.{arith}
use lib.Dec.{leb, ltb}
use lib.ListN.{length}
use lib.Seq.{sets}
use borrow.Author.Tests.{le-leb, lt-leb, leb-true}
use Rattle.wire.specs.Outcome.{Outcome, accepted, refused}
use Rattle.wire.proofs.Stores.{sets_front}
use Rattle.wire.proofs.Tests.{both_true}
use Rattle.wire.specs.Sizes.{last_phase}
use Rattle.message.specs.Fields.{Message}
use Rattle.message.specs.Bounds.{within}
use Rattle.wire.specs.Plan.{phase_ok, plan_ok}
use Rattle.message.specs.Encoding.{size_of, encode}
use Rattle.writer.specs.Writing.{selection_of, write_message_of, write_selection_of}
use Rattle.writer.specs.Writing.{message_buffer_of, selection_buffer_of, Written}
use Rattle.wire.specs.Entry.{entries_from}
use Rattle.message.proofs.EncodeLaws.{encode_length}
use Rattle.writer.proofs.HistoryLaws.{listed_count, listed_ok}

module _ (m : Message) (buffer : List ℕ) where
  -- writing the message's fields comes to this outcome, and leaves this
  abbrev pub OfMessage : Outcome ℕ → List ℕ → Type 0
  OfMessage outcome after = Written (write_message_of m buffer) (message_buffer_of m buffer) outcome after

  -- a message that keeps its bounds is written where the buffer has room for it
  pub written : within m ≡ true → size_of m.body ≤ length buffer
      → OfMessage (accepted (size_of m.body)) (sets buffer 0 (encode m))
  unfolding write_message_of
  written ok room =
      let long = encode_length m in
      let fits : length (encode m) ≤ length buffer = omega arith in
      record {
        answer = rw (ok, le-leb _ _ room);
        left = rw (ok, le-leb _ _ room, ← long) (sets_front (encode m) buffer fits);
      }

  -- a buffer that is too short stays as it is
  pub too_short : within m ≡ true → length buffer < size_of m.body
      → OfMessage (refused 9) buffer
  unfolding write_message_of
  too_short ok short = record { answer = rw (ok, lt-leb _ _ short); left = rw (ok, lt-leb _ _ short) }

  -- and so does any buffer where a field breaks a bound
  pub out_of_bounds : within m ≡ false → OfMessage (refused 13) buffer
  unfolding write_message_of
  out_of_bounds broken = record { answer = rw broken; left = rw broken }

-- Of a selection's bounds only those that its scalar fields can break are left to test, where the phases looked at
-- are no more than the message's phase.
abbrev pub allowed : (phase vote stamp phases : ℕ) → Bool
allowed phase vote stamp phases = leb phases phase && (phase_ok phase && (plan_ok vote && ltb stamp phase))

-- what passing them tells
pub record Allows (run phase vote stamp : ℕ) (history : List ℕ) (phases : ℕ) : Type 0 where
  pub before : leb phases phase ≡ true
  pub in_bounds : within (selection_of run phase vote stamp history phases) ≡ true
  pub few : phases ≤ last_phase

all_true : (a b c d : Bool) → a ≡ true → b ≡ true → c ≡ true → d ≡ true → a && (b && c && d) ≡ true
all_true a b c d ha hb hc hd = rw (ha, hb, hc, hd)

pub allows : (run phase vote stamp : ℕ) (history : List ℕ) (phases : ℕ) → allowed phase vote stamp phases ≡ true
    → Allows run phase vote stamp history phases
allows run phase vote stamp history phases e =
    let parts = both_true (leb phases phase) _ e in
    let scalars = both_true (phase_ok phase) (plan_ok vote && ltb stamp phase) parts.1 in
    let below : phases ≤ phase = leb-true _ _ parts.0 in
    let last : phase ≤ last_phase = leb-true _ _ (both_true (leb 1 phase) (leb phase last_phase) scalars.0).1 in
    let few : length (entries_from history 0 phases) ≤ last_phase = omega (arith, listed_count history 0 phases) in
    let rising = listed_ok history 0 phases 0 phase (omega arith) (omega arith) in
    record {
      before = parts.0;
      in_bounds = all_true _ _ _ _ scalars.0 scalars.1 (le-leb _ _ few) rising;
      few = omega arith;
    }

-- writing a selection's fields comes to this outcome, and leaves this
abbrev pub OfSelection : ℕ → ℕ → ℕ → ℕ → List ℕ → ℕ → List ℕ → Outcome ℕ → List ℕ → Type 0
OfSelection run phase vote stamp history phases buffer outcome after =
    Written (write_selection_of run phase vote stamp history phases buffer)
    (selection_buffer_of run phase vote stamp history phases buffer) outcome after

-- what the writer of a selection answers and leaves where the fields are allowed
module _ {run phase vote stamp : ℕ} {history : List ℕ} {phases : ℕ} (ok : Allows run phase vote stamp history phases)
    (buffer : List ℕ) where
  abbrev message : Message
  message = selection_of run phase vote stamp history phases

  pub selection_written : size_of message.body ≤ length buffer
      → OfSelection run phase vote stamp history phases buffer (accepted (size_of message.body))
      (sets buffer 0 (encode message))
  selection_written room = rw ok.before (written message buffer ok.in_bounds room)

  pub selection_too_short : length buffer < size_of message.body
      → OfSelection run phase vote stamp history phases buffer (refused 9) buffer
  selection_too_short short = rw ok.before (too_short message buffer ok.in_bounds short)

-- and where they are not: the phases are too many, or a scalar field breaks its bound
module _ (run phase vote stamp : ℕ) (history : List ℕ) (phases : ℕ) (buffer : List ℕ) where
  refused_by : (early : Bool) → leb phases phase ≡ early
      → early && (phase_ok phase && (plan_ok vote && ltb stamp phase)) ≡ false
      → OfSelection run phase vote stamp history phases buffer (refused 13) buffer
  refused_by true early e =
      rw early
      (out_of_bounds (selection_of run phase vote stamp history phases) buffer
      (broken (phase_ok phase) (plan_ok vote && ltb stamp phase) _ _ e))
    where
      broken : (a b c d : Bool) → a && b ≡ false → a && (b && c && d) ≡ false
      broken true true c d e = absurd (true≢false e)
      broken true false c d e = refl
      broken false b c d e = refl
  refused_by false late e = record { answer = rw late; left = rw late }

  pub selection_out_of_bounds : allowed phase vote stamp phases ≡ false
      → OfSelection run phase vote stamp history phases buffer (refused 13) buffer
  selection_out_of_bounds e = refused_by (leb phases phase) refl e
