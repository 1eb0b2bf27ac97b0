-- The premises on a schedule's takes as a test that computes, for examples.
use mathlib.Core.Path.{◌≡◌}
use mathlib.Core.Bool.{Bool, true, false, cond, ◌&&◌}
use mathlib.Core.List.{List, [], ◌∷◌, ◌++◌, append-nil, append_assoc}
use mathlib.Core.List.{head-eq_of_cons-eq, tail-eq_of_cons-eq}
use mathlib.Core.Option.{some}
use Prim.Native.Nat.{ℕ, ◌<◌}
use lib.Dec.{T}
use Rattle.wire.specs.Outcome.{is_accepted}
use Rattle.wire.specs.Bytes.{AreBytes}
use Rattle.ballot.specs.Ballot.{Ballot}
use Rattle.wire.specs.Below.{every_below}
use Rattle.wire.proofs.Tests.{and_T, T_and, every_below_lem}
use Rattle.inbox.specs.Inbox.{slot_at, ballot_at, counts}
use Rattle.rounds.specs.Taking.{take_of}
use Rattle.agreement.specs.Statement.{Call, write, ask, take_round, Event}
use Rattle.wire.proofs.Numbers.{all_bytes, are_bytes}
use Rattle.agreement.proofs.Checking.{wrote_front, wrote_front_lem}
use Rattle.schedules.specs.Schedule.{Schedule, on, up_to, is_honest, record_after, rounds_taken, own_calls, own_record}
use Rattle.schedules.specs.Schedule.{OwnWrote, TakesAfter}
use Rattle.schedules.proofs.Events.{nothing_there}

-- The premises on takes, for each event with those that stand before it.

if_so : (a b : Bool) → T (cond a b true) → T a → T b
if_so true b t h = t
if_so false b t h = absurd h

module _ (s : Schedule) (n : ℕ) where
  unfoldable pub slot_ok : List Event → ℕ → List ℕ → ℕ → Bool
  slot_ok before p inbox q =
      let so_far = up_to s before in
      let j = rounds_taken so_far p in
      cond (is_honest s q && counts (record_after so_far p) inbox q)
      (wrote_front (own_record so_far q j) (own_calls so_far q j) (slot_at inbox q)) true

  unfoldable pub take_ok : List Event → ℕ → List ℕ → Bool
  take_ok before p inbox =
      cond (is_honest s p && is_accepted (take_of (record_after (up_to s before) p) inbox))
      (all_bytes inbox && every_below (slot_ok before p inbox) n) true

  abbrev pub call_ok : List Event → ℕ → Call → Bool
  call_ok before p (write buffer) = true
  call_ok before p (ask inbox) = true
  call_ok before p (take_round inbox) = take_ok before p inbox

  unfoldable pub events_ok : List Event → List Event → Bool
  events_ok before [] = true
  events_ok before (x ∷ es) = call_ok before x.node x.call && events_ok (before ++ (x ∷ [])) es

  call_ok_lem : (before es : List Event) → T (events_ok before es) → (b : List Event) (x : Event) (later : List Event)
      → es ≡ b ++ (x ∷ later) → T (call_ok (before ++ b) x.node x.call)
  unfolding events_ok
  call_ok_lem before [] t b x later e = absurd (nothing_there b x later e)
  call_ok_lem before (y ∷ es) t [] x later e =
      rw (append-nil before, ← head-eq_of_cons-eq e)
      (and_T (call_ok before y.node y.call) (events_ok (before ++ (y ∷ [])) es) t).0
  call_ok_lem before (y ∷ es) t (z ∷ b) x later e =
      rw (← head-eq_of_cons-eq e, ← append_assoc before (y ∷ []) b)
      (call_ok_lem (before ++ (y ∷ [])) es
      (and_T (call_ok before y.node y.call) (events_ok (before ++ (y ∷ [])) es) t).1 b x later
      (tail-eq_of_cons-eq e))

  module _ (ok : T (events_ok [] s.events)) (p : ℕ) (hp : T (is_honest s p)) (before : List Event) (inbox : List ℕ)
      (t : TakesAfter s before p inbox) where
    take_ok_lem : T (all_bytes inbox && every_below (slot_ok before p inbox) n)
    unfolding take_ok
    take_ok_lem =
        let accepts = is_accepted (take_of (record_after (up_to s before) p) inbox) in
        if_so (is_honest s p && accepts) (all_bytes inbox && every_below (slot_ok before p inbox) n)
        (call_ok_lem [] s.events ok before (on p (take_round inbox)) t.later t.stands)
        (T_and (is_honest s p) accepts hp t.is_accepted)

    pub bytes_ok : AreBytes inbox
    bytes_ok = are_bytes inbox (and_T (all_bytes inbox) (every_below (slot_ok before p inbox) n) take_ok_lem).0

    pub slots_ok : (q : ℕ) → T (is_honest s q) → q < n → (m : Ballot)
        → ballot_at (record_after (up_to s before) p) inbox q ≡ some m
        → (written : List ℕ) × (rest : List ℕ)
        × OwnWrote (up_to s before) q (rounds_taken (up_to s before) p) written
        × (slot_at inbox q ≡ written ++ rest)
    unfolding slot_ok
    slots_ok q hq below m says =
        let so_far = up_to s before in
        let j = rounds_taken so_far p in
        let is_there = counts (record_after so_far p) inbox q in
        let wrote = wrote_front (own_record so_far q j) (own_calls so_far q j) (slot_at inbox q) in
        let each =
        every_below_lem (slot_ok before p inbox) n
        (and_T (all_bytes inbox) (every_below (slot_ok before p inbox) n) take_ok_lem).1 in
        wrote_front_lem (own_record so_far q j) (own_calls so_far q j) (slot_at inbox q)
        (if_so (is_honest s q && is_there) wrote (each q below)
        (T_and (is_honest s q) is_there hq (rw says tt)))
