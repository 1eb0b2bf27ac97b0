-- What is written is read, at the front of a slice and whatever bytes follow, to the fields that it was written from.
-- Law 1 of the codec, in Padded.antt, is made of it.
use mathlib.Core.Path.{◌≡◌, refl}
use mathlib.Core.Bool.{true, ◌&&◌}
use mathlib.Core.List.{List, [], ◌∷◌, ◌++◌}
use Prim.Native.Nat.{ℕ, ◌≤◌, ◌<◌}
use native.Mathlib.Omega.{arith}
use lib.Dec.{leb, ltb}
use lib.ListN.{length, length-append}
use borrow.Author.Tests.{le-leb, leb-true}
use Rattle.wire.specs.Outcome.{accepted}
use Rattle.wire.specs.Entry.{Entry}
use Rattle.wire.proofs.Tests.{both_true}
use Rattle.wire.proofs.Numbers.{number_of_bytes}
use Rattle.wire.specs.Sizes.{plan_size, run_size, run_limit}
use Rattle.message.specs.Fields.{Body, selection, validation, decision, Message}
use Rattle.message.specs.Bounds.{body_ok, entries_ok, within, PlansFit, BodyFits, Fits}
use Rattle.wire.specs.Plan.{phase_ok, plan_ok}
use Rattle.message.specs.Encoding.{size_of, entry_bytes, encode}
use Rattle.message.specs.Reading.{length_at, entries_in, body_at, framed, front_of}
use Rattle.message.proofs.ReadLaws.{Passes, passes_front}
use Rattle.message.proofs.EncodeLaws.{encode_length}
use Rattle.message.specs.Layout.{header_size, most_entries}

-- entries that are written are read to themselves
entries_written : (es : List Entry) (tail : List ℕ) → PlansFit es → entries_in (length es) (entry_bytes es ++ tail) ≡ es
unfolding entries_in entry_bytes
entries_written [] tail fits = refl
entries_written (e ∷ es) tail fits =
    let plan = number_of_bytes plan_size e.plan [] fits.0 in
    let others = entries_written es tail fits.1 in
    λ i. record { phase = e.phase; plan = plan i } ∷ others i

framed_intro : (s : List ℕ) (size : ℕ) → length_at s ≡ size → header_size ≤ size → size ≤ length s → framed s ≡ true
framed_intro s size e low high =
    let long : header_size ≤ length s = omega arith in
    simp (e, le-leb _ _ long, le-leb _ _ low, le-leb _ _ high)

few_entries : (phase vote stamp : ℕ) (entries : List Entry) → body_ok phase (selection vote stamp entries) ≡ true
    → length entries ≤ most_entries
few_entries phase vote stamp entries ok =
    let scalars = plan_ok vote && ltb stamp phase in
    let few = (both_true (scalars && leb (length entries) most_entries) (entries_ok 0 phase entries) ok).0 in
    leb-true _ _ (both_true scalars (leb (length entries) most_entries) few).1

module _ (run phase : ℕ) (tail : List ℕ) (run_fits : run < run_limit) where
  abbrev message : Body → Message
  message body = record { run = run; phase = phase; body = body }

  abbrev bytes : Body → List ℕ
  bytes body = encode (message body) ++ tail

  long : (body : Body) → size_of body ≤ length (bytes body)
  long body = omega (arith, length-append (encode (message body)) tail, encode_length (message body))

  passes : (body : Body) → BodyFits body → within (message body) ≡ true → Passes (bytes body) (message body)
  unfolding encode body_at
  passes (selection vote stamp entries) fits ok =
      let body = selection vote stamp entries in
      let few = few_entries phase vote stamp entries (both_true (phase_ok phase) (body_ok phase body) ok).1 in
      let size = number_of_bytes 2 (size_of body) [] (omega arith) in
      let run_is = number_of_bytes run_size run [] run_fits in
      let vote-is = number_of_bytes plan_size vote [] fits.0 in
      let entries_are = entries_written entries tail fits.1 in
      record {
        is_framed = framed_intro (bytes body) (size_of body) size (omega arith) (long body);
        of_a_kind = refl;
        long = size;
        in_bounds = ok;
        fields = λ i. record { run = run_is i; phase = phase; body = selection (vote-is i) stamp (entries_are i) };
      }
  passes (validation plan) fits ok =
      let body = validation plan in
      let run_is = number_of_bytes run_size run [] run_fits in
      let plan-is = number_of_bytes plan_size plan [] fits in
      record {
        is_framed = framed_intro (bytes body) (size_of body) refl (omega arith) (long body);
        of_a_kind = refl;
        long = refl;
        in_bounds = ok;
        fields = λ i. record { run = run_is i; phase = phase; body = validation (plan-is i) };
      }
  passes (decision vote stamp) fits ok =
      let body = decision vote stamp in
      let run_is = number_of_bytes run_size run [] run_fits in
      let vote-is = number_of_bytes plan_size vote [] fits in
      record {
        is_framed = framed_intro (bytes body) (size_of body) refl (omega arith) (long body);
        of_a_kind = refl;
        long = refl;
        in_bounds = ok;
        fields = λ i. record { run = run_is i; phase = phase; body = decision (vote-is i) stamp };
      }

-- for every message within the bounds, not only those that a node can write
pub front_of_encode : (m : Message) (tail : List ℕ) → within m ≡ true → Fits m
    → front_of (encode m ++ tail) ≡ accepted m
front_of_encode m tail ok fits =
    passes_front (encode m ++ tail) m (passes m.run m.phase tail fits.0 m.body fits.1 ok)
