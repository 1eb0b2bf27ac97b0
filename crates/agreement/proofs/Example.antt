-- The drill's example of document 01 as a list of calls on bytes: it meets the premises of demand 3, so that they
-- can be met, and the three honest nodes end with 5. Crew 3,4,1,0,3,4 and plans 5 5 5 0; nobody sends for node 3.
use mathlib.Core.Path.{◌≡◌, refl, sym, ap, ◌∙◌, subst}
use mathlib.Core.Bool.{Bool, true, false, not, ◌&&◌}
use mathlib.Core.List.{List, [], ◌∷◌, ◌++◌}
use mathlib.Core.Option.{Option, none, some, some-injective}
use Prim.Native.Nat.{ℕ, zero, suc, ◌+◌, ◌*◌, ◌≤◌, ◌<◌}
use native.Mathlib.Omega.{arith}
use native.Mathlib.Decide.{dec_lt}
use lib.ListN.{length, drop, replicate}
use lib.Dec.{T, ltb, eqb, ltb→lt, eqb→eq}
use borrow.Author.Tests.{ne_eqb}
use Rattle.wire.specs.Sizes.{plan_limit, run_limit}
use Rattle.wire.specs.Outcome.{accepted, refused}
use Rattle.wire.specs.Bytes.{AreBytes}
use Rattle.crew.specs.declared.Crew.{Crew}
use Rattle.crew.specs.Parts.{crew_of}
use Rattle.crew.specs.Acceptance.{accept_of}
use Rattle.crew.specs.Group.{among, validates}
use Rattle.message.specs.Layout.{slot_size}
use Rattle.message.specs.Bounds.{entries_ok}
use Rattle.message.specs.Encoding.{entry_bytes, encode}
use Rattle.message.specs.Reading.{entries_in, body_at, tested, front_of, all_zero, read_of}
use Rattle.wire.specs.Entry.{entries_from}
use Rattle.ballot.specs.Count.{tally, count_if, gather}
use Rattle.ballot.specs.Ballot.{Ballot, lists, same_ballot}
use Rattle.ballot.specs.Least.{least, least_of}
use Rattle.ballot.specs.Selection.{possible, backed, backing, enough, selection, leading, most_voted, any_plan, taken}
use Rattle.ballot.specs.Validation.{valid, validated}
use Rattle.ballot.specs.Decision.{decides, decision}
use Rattle.wire.specs.Below.{every_below}
use Rattle.wire.proofs.Tests.{and_T, every_below_lem}
use Rattle.ballot.proofs.Tests.{holds_T}
use Rattle.wire.proofs.Numbers.{all_bytes, are_bytes}
use Rattle.node.specs.Record.{begun}
use Rattle.node.specs.Soundness.{empty_from, sound}
use Rattle.node.specs.Starting.{start_of}
use Rattle.node.specs.Sending.{coming_of, write_coming_of}
use Rattle.inbox.specs.Inbox.{slot_at, ballot_at, counts}
use Rattle.rounds.specs.Taking.{after_round, take_of}
use Rattle.agreement.specs.Statement.{Start, Call, write, ask, take_round, Event, Execution}
use Rattle.agreement.specs.Statement.{made, honest, record_of}
use Rattle.agreement.specs.Statement.{after_calls, calls_of, calls, record_at, taken_inbox, inbox_at, Wrote, Whole}
use Rattle.agreement.specs.Statement.{answer_to, numbered, Every, Premises, standing, heard, Good, Conclusions}
use Rattle.agreement.proofs.Calls.{taken_inside}
use Rattle.agreement.proofs.Checking.{same_bytes, same_bytes_lem, wrote_front, wrote_front_lem}
use Rattle.agreement.proofs.Checking.{only_asks, is_whole, whole_is}
use Rattle.agreement.proofs.Demand.{demand3}

abbrev pub crew : Crew
crew = crew_of 3 4 1 0 3 4

-- The messages of the three rounds of phase 1, byte by byte: all three nodes write the same.

abbrev pub message : ℕ → List ℕ
-- selection: vote 5, stamp 0, one entry, 5 at phase 0
message zero = 16 ∷ 0 ∷ 1 ∷ 0 ∷ 1 ∷ 0 ∷ 0 ∷ 0 ∷ 1 ∷ 5 ∷ 0 ∷ 0 ∷ 1 ∷ 0 ∷ 5 ∷ 0 ∷ []
-- validation: plan 5
message (suc zero) = 11 ∷ 0 ∷ 2 ∷ 0 ∷ 1 ∷ 0 ∷ 0 ∷ 0 ∷ 1 ∷ 5 ∷ 0 ∷ []
-- decision: vote 5, stamp 1
message (suc (suc j)) = 12 ∷ 0 ∷ 3 ∷ 0 ∷ 1 ∷ 0 ∷ 0 ∷ 0 ∷ 1 ∷ 5 ∷ 0 ∷ 1 ∷ []

abbrev pub buffer : List ℕ
buffer = replicate slot_size 0

-- a slot holds the message at its front; the last slot is empty
abbrev pub slot : ℕ → List ℕ
slot j = message j ++ drop (length (message j)) buffer

abbrev box : ℕ → List ℕ
box j = slot j ++ (slot j ++ (slot j ++ buffer))

-- The list: four starts, of which the last is refused for its plan 0; then three rounds. In each every node writes,
-- first into a buffer that is too short, and takes the round, first with an inbox that is.

abbrev begins : ℕ → ℕ → Start
begins q plan = record { crew = crew; own = q; run = 1; plan = plan }

abbrev on : ℕ → Call → Event
on q c = record { node = q; call = c }

abbrev round : ℕ → List Event
round j =
    on 0 (write []) ∷ on 0 (write buffer)
    ∷ on 1 (write []) ∷ on 1 (write buffer)
    ∷ on 2 (write []) ∷ on 2 (write buffer)
    ∷ on 0 (ask (box j)) ∷ on 0 (take_round []) ∷ on 0 (take_round (box j))
    ∷ on 1 (ask (box j)) ∷ on 1 (take_round []) ∷ on 1 (take_round (box j))
    ∷ on 2 (ask (box j)) ∷ on 2 (take_round []) ∷ on 2 (take_round (box j))
    ∷ []

abbrev pub drill : Execution
drill = record {
  starts = begins 0 5 ∷ begins 1 5 ∷ begins 2 5 ∷ begins 3 0 ∷ [];
  rounds = round 0 ∷ round 1 ∷ round 2 ∷ [];
}

-- a fact of 0, 1 and 2 holds of every number below 3
three : (P : ℕ → Type 0) → P 0 → P 1 → P 2 → (i : ℕ) → i < 3 → P i
three P a b c zero h = a
three P a b c (suc zero) h = b
three P a b c (suc (suc zero)) h = c
three P a b c (suc (suc (suc i))) h = absurd (omega arith)

-- One test that computes all that the premises ask of the rounds, and the results.

abbrev is_box : Option (List ℕ) → List ℕ → Bool
is_box none expected = false
is_box (some inbox) expected = same_bytes inbox expected

module _ (p j : ℕ) where
  -- node p takes the inbox of round j
  abbrev takes_ok : Bool
  takes_ok = is_box (inbox_at drill p j) (box j)

  -- its own slot there holds what it wrote
  abbrev wrote_ok : Bool
  wrote_ok = wrote_front (record_at drill p j) (calls drill p j) (slot_at (box j) p)

  -- it goes through the whole round
  abbrev whole_ok : Bool
  whole_ok = is_whole 4 (calls drill p j)

  -- the slots of nodes 0, 1 and 2 count for it
  abbrev counts_ok : ℕ → Bool
  counts_ok q = counts (record_at drill p j) (box j) q

  unfoldable round_ok : Bool
  round_ok = takes_ok && wrote_ok && whole_ok && every_below counts_ok 3

-- the results are 0 after rounds 1 and 2, and 5 after round 3
abbrev early_ok : ℕ → Bool
early_ok p = eqb (record_at drill p 1).result 0 && eqb (record_at drill p 2).result 0

unfoldable results_ok : ℕ → Bool
results_ok p = early_ok p && eqb (standing drill p) 5

all_ok : T (every_below (λ p. every_below (round_ok p) 3 && results_ok p) 3)
unfolding
    accept_of start_of begun made record_of calls_of record_at after_calls taken_inbox
    take_of sound empty_from after_round read_of front_of all_zero tested body_at entries_in entries_ok count_if gather
    lists least least_of possible backed backing enough selection leading most_voted any_plan taken
    among validates valid validated decides decision coming_of write_coming_of encode entry_bytes entries_from
    same_bytes every_below wrote_front only_asks is_whole round_ok results_ok
all_ok = tt

node_ok : (p : ℕ) → p < 3 → T (every_below (round_ok p) 3) × T (results_ok p)
node_ok p h = and_T (every_below (round_ok p) 3) (results_ok p) (every_below_lem _ 3 all_ok p h)

-- 01's whole output
pub drill_decides : (p : ℕ) → p < 3
    → ((record_at drill p 1).result ≡ 0) × ((record_at drill p 2).result ≡ 0) × (standing drill p ≡ 5)
unfolding results_ok
drill_decides p h =
    let all = and_T (early_ok p) (eqb (standing drill p) 5) (node_ok p h).1 in
    let early = and_T (eqb (record_at drill p 1).result 0) (eqb (record_at drill p 2).result 0) all.0 in
    (eqb→eq _ 0 early.0, eqb→eq _ 0 early.1, eqb→eq _ 5 all.1)

-- the refused start, write and take
pub drill_refuses : (answer_to (begins 3 0) ≡ refused 6)
    × (write_coming_of (record_at drill 0 0) [] ≡ refused 9)
    × (take_of (record_at drill 0 0) [] ≡ refused 14)
unfolding
    accept_of start_of begun made record_of record_at sound empty_from write_coming_of take_of coming_of encode
    entry_bytes entries_from
drill_refuses = (refl, refl, refl)

-- The premises.

-- What the test says of node p in round j.
record Goes (p j : ℕ) : Type 0 where
  takes : inbox_at drill p j ≡ some (box j)
  wrote : (written : List ℕ) × (rest : List ℕ) × Wrote (record_at drill p j) (calls drill p j) written
      × (slot_at (box j) p ≡ written ++ rest)
  whole : Whole 4 (calls drill p j)
  hears : (q : ℕ) → q < 3 → (m : Ballot) × (ballot_at (record_at drill p j) (box j) q ≡ some m)

box_is : (taken : Option (List ℕ)) (expected : List ℕ) → T (is_box taken expected) → taken ≡ some expected
box_is none expected t = absurd t
box_is (some inbox) expected t = ap some (same_bytes_lem inbox expected t)

goes : (p : ℕ) → p < 3 → (j : ℕ) → j < 3 → Goes p j
unfolding round_ok
goes p h j i =
    let all = every_below_lem (round_ok p) 3 (node_ok p h).0 j i in
    let counts = and_T (takes_ok p j && wrote_ok p j && whole_ok p j) (every_below (counts_ok p j) 3) all in
    let whole = and_T (takes_ok p j && wrote_ok p j) (whole_ok p j) counts.0 in
    let wrote = and_T (takes_ok p j) (wrote_ok p j) whole.0 in
    record {
      takes = box_is (inbox_at drill p j) (box j) wrote.0;
      wrote = wrote_front_lem (record_at drill p j) (calls drill p j) (slot_at (box j) p) wrote.1;
      whole = whole_is 4 (calls drill p j) whole.1;
      hears = λ q l.
          let at_q = every_below_lem (counts_ok p j) 3 counts.1 q l in
          let there = holds_T (λ m. true) (ballot_at (record_at drill p j) (box j) q) at_q in
          (there.0, there.1);
    }

-- the honest nodes are 0, 1 and 2
nobody_else : (q : ℕ) → 3 ≤ q → numbered q (made drill.starts) ≡ 0
unfolding accept_of start_of begun made count_if
nobody_else q h = simp (ne_eqb 0 q (λ e. omega arith), ne_eqb 1 q (λ e. omega arith), ne_eqb 2 q (λ e. omega arith))

honest_three : (p : ℕ) → T (honest drill p) → p < 3
honest_three p h = elim (dec_lt p 3) [
  | yes l ↦ l
  | no l ↦ absurd (omega (arith, ltb→lt 0 (numbered p (made drill.starts)) h, nobody_else p (omega arith)))
]

one_each : (q : ℕ) → numbered q (made drill.starts) ≤ 1
unfolding accept_of start_of begun made count_if
one_each q = elim (dec_lt q 3) [
  | yes l ↦ three (λ q. numbered q (made drill.starts) ≤ 1) (omega arith) (omega arith) (omega arith) q l
  | no l ↦ omega (arith, nobody_else q (omega arith))
]

one_byzantine : tally (λ q. not (honest drill q)) 4 ≤ 1
unfolding accept_of start_of begun made count_if tally
one_byzantine = omega arith

one_crew : Every (λ d. (d.crew ≡ crew) × (d.run ≡ 1)) (made drill.starts)
unfolding accept_of start_of begun made
one_crew = ((refl, refl), ((refl, refl), ((refl, refl), tt)))

accepted_crew : accept_of crew ≡ accepted tt
unfolding accept_of
accepted_crew = refl

box_bytes : (j : ℕ) → AreBytes (box j)
unfolding all_bytes
box_bytes zero = are_bytes (box 0) tt
box_bytes (suc zero) = are_bytes (box 1) tt
box_bytes (suc (suc j)) = are_bytes (box 2) tt

-- an inbox that was taken is that of one of the three rounds
taken_box : (p j : ℕ) (inbox : List ℕ) → T (honest drill p) → inbox_at drill p j ≡ some inbox
    → (j < 3) × (box j ≡ inbox)
taken_box p j inbox h e =
    let inside = taken_inside drill p j inbox e in
    (inside, some-injective (box j) inbox (sym (goes p (honest_three p h) j inside).takes ∙ e))

fits : (1 < run_limit) × (5 < plan_limit)
fits = (omega arith, omega arith)

pub drill_premises : Premises drill crew 1
drill_premises = record {
  typed = (fits, (fits, (fits, ((omega arith, omega arith), tt))));
  crew_accepted = accepted_crew;
  one_crew = one_crew;
  distinct = one_each;
  few = one_byzantine;
  whole = λ p j h inside early. (goes p (honest_three p h) j inside).whole;
  bytes = λ p j h inbox e. subst AreBytes (taken_box p j inbox h e).1 (box_bytes j);
  slots = λ p q j hp hq inbox m hears.
      let t = taken_box p j inbox hp hears.0 in
      let own = (goes q (honest_three q hq) j t.0).wrote in
      (own.0, own.1, own.2, subst (λ x. slot_at x q ≡ own.0 ++ own.1) t.1 own.3);
}

-- Phase 1 is good, so that good phases can be had: the circle is 0, 1 and 2.

abbrev circle : ℕ → Bool
circle p = ltb p 3

-- what a slot of round 1 says
abbrev ballot : Ballot
ballot = record { vote = 5; stamp = 0; entries = record { phase = 0; plan = 5 } ∷ [] }

-- in round 1 the three hear the same
same_heard : (p : ℕ) → p < 3 → heard drill p 0 ≡ ballot ∷ ballot ∷ ballot ∷ []
unfolding
    accept_of start_of begun made record_of calls_of record_at taken_inbox
    take_of sound empty_from read_of front_of all_zero tested body_at entries_in entries_ok count_if gather
same_heard = three (λ p. heard drill p 0 ≡ ballot ∷ ballot ∷ ballot ∷ []) refl refl refl

-- they are honest
circle_honest : (p : ℕ) → p < 3 → T (honest drill p)
unfolding accept_of start_of begun made count_if
circle_honest = three (λ p. T (honest drill p)) tt tt tt

circle_wide : 4 ≤ tally circle 4 + 1 + 0
unfolding tally
circle_wide = omega arith

circle_validates : 5 < 2 * tally (λ q. circle q && validates crew 1 q) 4
unfolding tally validates among
circle_validates = omega arith

pub drill_good : Good drill crew 1 circle
drill_good = record {
  inside = λ p k. circle_honest p (ltb→lt p 3 k);
  wide = circle_wide;
  group = λ later. circle_validates;
  complete = λ j e. omega arith;
  equal = λ j p q e first kp kq m.
      let start : 0 ≡ j = omega arith in
      subst (λ j. count_if (same_ballot m) (heard drill p j) ≡ count_if (same_ballot m) (heard drill q j)) start
      (ap (count_if (same_ballot m)) (same_heard p (ltb→lt p 3 kp) ∙ sym (same_heard q (ltb→lt q 3 kq))));
  counts = λ j p q e kp kq loud.
      let inside : j < 3 = omega arith in
      let node = goes p (ltb→lt p 3 kp) j inside in
      let there = node.hears q (ltb→lt q 3 kq) in
      (box j, there.0, (node.takes, there.1));
}

-- so demand 3 says something of it
pub drill_concludes : Conclusions drill crew
drill_concludes = demand3 drill crew 1 drill_premises
