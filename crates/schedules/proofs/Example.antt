-- A schedule out of step that meets the premises, so that they can be met: node 0 is three rounds ahead of node 2 and
-- has decided, node 1 is in between, node 2 still sits in round 1. Crew 3,4,1,0,3,4 and plans 5 5 5 0 as in the drill's
-- example; node 3 is not honest and repeats what it hears.
use mathlib.Core.Path.{◌≡◌}
use mathlib.Core.Bool.{Bool, ◌&&◌}
use mathlib.Core.List.{List, [], ◌∷◌, ◌++◌}
use Prim.Native.Nat.{ℕ, ◌≤◌, ◌<◌}
use native.Mathlib.Omega.{arith}
use lib.ListN.{length}
use lib.Dec.{T, leb, eqb, leb→le, eqb→eq}
use Rattle.crew.specs.Acceptance.{accept_of}
use Rattle.crew.specs.Group.{among, validates}
use Rattle.message.specs.Bounds.{entries_ok}
use Rattle.message.specs.Encoding.{entry_bytes, encode}
use Rattle.message.specs.Reading.{entries_in, body_at, tested, front_of, all_zero, read_of}
use Rattle.wire.specs.Entry.{entries_from}
use Rattle.ballot.specs.Count.{count_if, gather}
use Rattle.ballot.specs.Ballot.{lists}
use Rattle.ballot.specs.Least.{least, least_of}
use Rattle.ballot.specs.Selection.{possible, backed, backing, enough, selection, leading, most_voted, any_plan, taken}
use Rattle.ballot.specs.Validation.{valid, validated}
use Rattle.ballot.specs.Decision.{decides, decision}
use Rattle.node.specs.Record.{begun}
use Rattle.node.specs.Soundness.{empty_from, sound}
use Rattle.node.specs.Starting.{start_of}
use Rattle.node.specs.Sending.{coming_of, write_coming_of}
use Rattle.rounds.specs.Taking.{after_round, take_of}
use Rattle.agreement.specs.Statement.{write, ask, take_round, Execution, made, record_of, after_calls, calls_of}
use Rattle.agreement.proofs.Simulation.{honest_below}
use Rattle.wire.specs.Below.{every_below}
use Rattle.wire.proofs.Tests.{and_T, every_below_lem}
use Rattle.wire.proofs.Numbers.{all_bytes}
use Rattle.agreement.proofs.Checking.{same_bytes, wrote_front}
use Rattle.agreement.proofs.Example.{crew, buffer, slot, drill, drill_premises}
use Rattle.schedules.specs.Schedule.{Schedule, on, is_honest, rounds_in, calls_in, calls_before}
use Rattle.schedules.specs.Schedule.{rounds_taken, SchedulePremises, TakesLast, InLockStep, standing}
use Rattle.schedules.specs.Schedule.{ScheduleConclusions}
use Rattle.schedules.proofs.Checking.{slot_ok, take_ok, events_ok}
use Rattle.schedules.proofs.Checking.{bytes_ok, slots_ok}
use Rattle.schedules.proofs.Agreement.{out_of_step_lem}

-- All three write round 1, in which node 2 then stays; nodes 0 and 1 go on, and node 0 once more. A write into a short
-- buffer, a take of no bytes and an ask stand among the calls.
abbrev pub out_of_step : Schedule
out_of_step = record {
  starts = drill.starts;
  events =
      on 0 (write buffer) ∷ on 1 (write []) ∷ on 1 (write buffer) ∷ on 2 (write buffer)
      ∷ on 0 (ask first) ∷ on 0 (take_round first) ∷ on 0 (write buffer)
      ∷ on 1 (take_round first) ∷ on 1 (write buffer)
      ∷ on 0 (take_round second) ∷ on 0 (write buffer)
      ∷ on 2 (take_round [])
      ∷ on 1 (take_round second) ∷ on 1 (write buffer)
      ∷ on 0 (take_round third)
      ∷ [];
}
  where
    first : List ℕ
    first = slot 0 ++ (slot 0 ++ (slot 0 ++ buffer))

    second : List ℕ
    second = slot 1 ++ (slot 1 ++ (buffer ++ slot 1))

    third : List ℕ
    third = slot 2 ++ (slot 2 ++ (buffer ++ slot 2))

-- One test that computes all of it: the premises on its takes, and where the nodes stand.

abbrev takes_ok : Bool
takes_ok = events_ok out_of_step 4 [] out_of_step.events

-- node p has taken so many rounds, and this is its result
abbrev stands_at : ℕ → ℕ → ℕ → Bool
stands_at p rounds result = eqb (rounds_taken out_of_step p) rounds && eqb (standing out_of_step p) result

abbrev places_ok : Bool
places_ok = stands_at 0 3 5 && stands_at 1 2 0 && stands_at 2 0 0

abbrev not_faster : ℕ → Bool
not_faster p = leb (rounds_taken out_of_step p) 3

all_ok : T (takes_ok && places_ok && every_below not_faster 4)
unfolding
    accept_of start_of begun made record_of calls_of after_calls rounds_in calls_in calls_before
    take_of sound empty_from after_round read_of front_of all_zero tested body_at entries_in entries_ok count_if gather
    lists least least_of possible backed backing enough selection leading most_voted any_plan taken
    among validates valid validated decides decision coming_of write_coming_of encode entry_bytes entries_from
    all_bytes same_bytes every_below wrote_front slot_ok take_ok events_ok
all_ok = tt

first_two : T takes_ok × T places_ok
first_two = and_T takes_ok places_ok (and_T (takes_ok && places_ok) (every_below not_faster 4) all_ok).0

stands_at_lem : (p rounds result : ℕ) → T (stands_at p rounds result)
    → (rounds_taken out_of_step p ≡ rounds) × (standing out_of_step p ≡ result)
stands_at_lem p rounds result t =
    let both = and_T (eqb (rounds_taken out_of_step p) rounds) (eqb (standing out_of_step p) result) t in
    (eqb→eq (rounds_taken out_of_step p) rounds both.0, eqb→eq (standing out_of_step p) result both.1)

-- node 0 has taken three rounds and decided 5, node 1 two, node 2 none
pub record Places : Type 0 where
  pub ahead : (rounds_taken out_of_step 0 ≡ 3) × (standing out_of_step 0 ≡ 5)
  pub between : (rounds_taken out_of_step 1 ≡ 2) × (standing out_of_step 1 ≡ 0)
  pub behind : (rounds_taken out_of_step 2 ≡ 0) × (standing out_of_step 2 ≡ 0)

pub places : Places
places =
    let behind = and_T (stands_at 0 3 5 && stands_at 1 2 0) (stands_at 2 0 0) first_two.1 in
    let ahead = and_T (stands_at 0 3 5) (stands_at 1 2 0) behind.0 in
    record {
      ahead = stands_at_lem 0 3 5 ahead.0;
      between = stands_at_lem 1 2 0 ahead.1;
      behind = stands_at_lem 2 0 0 behind.1;
    }

-- What is said of its lock-step run, whatever list that is: it has four rounds, and in the last one too the takes come
-- last.

nobody_faster : (p : ℕ) → p < 4 → rounds_taken out_of_step p ≤ 3
nobody_faster p h =
    let each = (and_T (takes_ok && places_ok) (every_below not_faster 4) all_ok).1 in
    leb→le (rounds_taken out_of_step p) 3 (every_below_lem not_faster 4 each p h)

node_0_honest : T (is_honest out_of_step 0)
unfolding accept_of start_of begun made count_if
node_0_honest = tt

pub four_rounds : (l : Execution) → InLockStep out_of_step crew 1 l → length l.rounds ≡ 4
four_rounds l in_step =
    let more = in_step.long 0 node_0_honest in
    let no_more = in_step.no_longer 3 (λ p h. nobody_faster p (honest_below drill crew 1 drill_premises p h)) in
    omega (arith, more, no_more, places.ahead.0)

pub last_round : (l : Execution) → InLockStep out_of_step crew 1 l → TakesLast out_of_step l 3
last_round l in_step = in_step.takes_last 3 (omega (arith, four_rounds l in_step))

pub premises : SchedulePremises out_of_step crew 1
premises = record {
  typed = drill_premises.typed;
  crew_accepted = drill_premises.crew_accepted;
  one_crew = drill_premises.one_crew;
  distinct = drill_premises.distinct;
  few = drill_premises.few;
  bytes = λ p h before inbox t. bytes_ok out_of_step 4 first_two.0 p h before inbox t;
  slots = λ p q hp hq before inbox m t counts.
      let below = honest_below drill crew 1 drill_premises q hq in
      slots_ok out_of_step 4 first_two.0 p hp before inbox t q hq below m counts;
}

-- so something is said of it
pub concludes : ScheduleConclusions out_of_step crew
concludes = out_of_step_lem out_of_step crew 1 premises
