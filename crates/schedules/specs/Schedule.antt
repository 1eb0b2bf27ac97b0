-- Controllers out of step: the calls of demand 3 in any order, one node in round 3 while another still sits in round 1
-- (02, C-17). This is the page that a reader has to believe: definitions only, in the order of 02's sentences, each
-- under its words. The statements are SameRound, Exchange, LockStep and OutOfStep; in proofs/, SameRound.antt,
-- Exchange.antt, LockStep.antt and Agreement.antt prove them, and Example.antt has a schedule that meets the premises.
-- What a call answers and leaves behind, and what a list of whole rounds is, stands in agreement/specs/Statement.antt.
use Rattle.std.specs.Prelude.{◌≡◌, Bool, false, not, cond, ◌⊎◌, ◌≢◌, ◌↔◌, ℕ, zero, suc, ◌+◌, ◌-◌, ◌*◌, ◌≤◌, ◌<◌, max}
use Rattle.std.specs.Prelude.{length, get_or, replicate, take, drop, T, ltb}
use mathlib.Core.List.{List, [], ◌∷◌, ◌++◌, map, flatten}
use Rattle.std.proofs.Math.Option.{Option, none, some}
use Rattle.wire.specs.Sizes.{plan_limit, run_limit}
use Rattle.wire.specs.Outcome.{accepted, is_accepted}
use Rattle.wire.specs.Bytes.{AreBytes}
use Rattle.crew.specs.declared.Crew.{Crew}
use Rattle.crew.specs.Acceptance.{accept_of}
use Rattle.message.specs.Layout.{slot_size}
use Rattle.ballot.specs.Count.{bit, tally}
use Rattle.ballot.specs.Ballot.{Ballot}
use Rattle.node.specs.declared.Node.{Node}
use Rattle.inbox.specs.Inbox.{slot_at, ballot_at}
use Rattle.rounds.specs.Taking.{take_of}
use Rattle.agreement.specs.Statement.{Start, Call, write, ask, take_round, Event, Execution, answer_to, made, numbered}
use Rattle.agreement.specs.Statement.{record_of, after_call, after_calls, calls_of, record_at, taken_inbox, inbox_at}
use Rattle.agreement.specs.Statement.{Puts, Wrote, Every, Premises, WinsOn, AnyWin, FirstWin}

-- 02: "Let nodes take their rounds in any order, under demand 3's premises, where each keeps its own order and a
-- counting honest message was written before it is taken."

-- The starts, and then one list of all calls, each with its node, in the order in which they are made. Refused calls
-- and asks stand in it too.
pub record Schedule : Type 0 where
  pub starts : List Start
  pub events : List Event

-- a call on the record of p
abbrev pub on : ℕ → Call → Event
on p c = record { node = p; call = c }

-- the schedule when only these events have happened
abbrev pub up_to : Schedule → List Event → Schedule
up_to s before = record { starts = s.starts; events = before }

-- the honest nodes, and the record with which each begins, as in the Statement
abbrev pub is_honest : Schedule → ℕ → Bool
is_honest s p = ltb 0 (numbered p (made s.starts))

abbrev pub start_record : Schedule → ℕ → Node
start_record s p = record_of p (made s.starts)

-- the record of p after all events
abbrev pub record_after : Schedule → ℕ → Node
record_after s p = after_calls (start_record s p) (calls_of p s.events)

-- A node's own rounds. That "each keeps its own order" is no premise: a node's rounds are made of its calls as they
-- stand. A round ends with a take that is accepted, so the number of a node's accepted takes is the number of the round
-- that it is in, and calls after the last of them belong to that round. The first round is round 0, as in the
-- Statement.

abbrev pub ends_round : Node → Call → Bool
ends_round d (write buffer) = false
ends_round d (ask inbox) = false
ends_round d (take_round inbox) = is_accepted (take_of d inbox)

-- how many rounds these calls of one node end; the first of them is made on record d
unfoldable pub rounds_in : Node → List Call → ℕ
rounds_in d [] = 0
rounds_in d (c ∷ cs) = bit (ends_round d c) + rounds_in (after_call d c) cs

-- those of them that are made in round j, the take that ends it included
unfoldable pub calls_in : Node → List Call → ℕ → List Call
calls_in d [] j = []
calls_in d (c ∷ cs) zero = c ∷ cond (ends_round d c) [] (calls_in (after_call d c) cs zero)
calls_in d (c ∷ cs) (suc j) = calls_in (after_call d c) cs (cond (ends_round d c) j (suc j))

-- those that are made before round j
unfoldable pub calls_before : Node → List Call → ℕ → List Call
calls_before d cs zero = []
calls_before d cs (suc j) = calls_before d cs j ++ calls_in d cs j

-- the record with which round j begins
abbrev pub record_in : Node → List Call → ℕ → Node
record_in d cs j = after_calls d (calls_before d cs j)

-- The same of node p in a schedule: how many rounds it took, and of its round j the calls, the record with which it
-- begins, the inbox with which it was taken, if it was, and what was written.

abbrev pub rounds_taken : Schedule → ℕ → ℕ
rounds_taken s p = rounds_in (start_record s p) (calls_of p s.events)

abbrev pub own_calls : Schedule → ℕ → ℕ → List Call
own_calls s p j = calls_in (start_record s p) (calls_of p s.events) j

abbrev pub own_record : Schedule → ℕ → ℕ → Node
own_record s p j = record_in (start_record s p) (calls_of p s.events) j

abbrev pub own_inbox : Schedule → ℕ → ℕ → Option (List ℕ)
own_inbox s p j = taken_inbox (own_record s p j) (own_calls s p j)

abbrev pub OwnWrote : Schedule → ℕ → ℕ → List ℕ → Type 0
OwnWrote s p j written = Wrote (own_record s p j) (own_calls s p j) written

-- After these events of the schedule, p makes a take with this inbox, and it is accepted.
pub record TakesAfter (s : Schedule) (before : List Event) (p : ℕ) (inbox : List ℕ) : Type 0 where
  pub later : List Event
  pub stands : s.events ≡ before ++ (on p (take_round inbox) ∷ later)
  pub is_accepted : T (is_accepted (take_of (record_after (up_to s before) p) inbox))

-- Demand 3's premises but for whole rounds, and nothing in their place: a node may make any calls, also none.
pub record SchedulePremises (s : Schedule) (crew : Crew) (run : ℕ) : Type 0 where
  -- on the starts, word for word as in demand 3
  pub typed : Every (λ x. (x.run < run_limit) × (x.plan < plan_limit)) s.starts
  pub crew_accepted : accept_of crew ≡ accepted tt
  pub one_crew : Every (λ d. (d.crew ≡ crew) × (d.run ≡ run)) (made s.starts)
  pub distinct : (q : ℕ) → numbered q (made s.starts) ≤ 1
  pub few : tally (λ q. not (is_honest s q)) crew.n ≤ crew.b
  -- An inbox that an honest node took holds bytes.
  pub bytes : (p : ℕ) → T (is_honest s p) → (before : List Event) (inbox : List ℕ) → TakesAfter s before p inbox
      → AreBytes inbox
  -- A slot that counts for an honest node p and belongs to an honest node q holds what q wrote, by a write that stands
  -- before the take, in q's own round with the number of the round that p takes.
  pub slots : (p q : ℕ) → T (is_honest s p) → T (is_honest s q) → (before : List Event) (inbox : List ℕ) (m : Ballot)
      → TakesAfter s before p inbox → ballot_at (record_after (up_to s before) p) inbox q ≡ some m
      → (written : List ℕ) × (rest : List ℕ)
      × OwnWrote (up_to s before) q (rounds_taken (up_to s before) p) written
      × (slot_at inbox q ≡ written ++ rest)

-- The same without the number of the round: what counts was written before, in whatever round of its sender's own. 02
-- asks no more, and the premises above follow from it, because a message of another round does not count. So what is
-- stated below of schedules that meet the premises holds of these.
pub record WrittenBefore (s : Schedule) (crew : Crew) (run : ℕ) : Type 0 where
  -- the premises on the starts, when no call has been made
  pub begun : SchedulePremises (up_to s []) crew run
  pub bytes : (p : ℕ) → T (is_honest s p) → (before : List Event) (inbox : List ℕ) → TakesAfter s before p inbox
      → AreBytes inbox
  pub slots : (p q : ℕ) → T (is_honest s p) → T (is_honest s q) → (before : List Event) (inbox : List ℕ) (m : Ballot)
      → TakesAfter s before p inbox → ballot_at (record_after (up_to s before) p) inbox q ≡ some m
      → (j : ℕ) × (written : List ℕ) × (rest : List ℕ)
      × OwnWrote (up_to s before) q j written
      × (slot_at inbox q ≡ written ++ rest)

abbrev pub SameRound : Type 0
SameRound = (s : Schedule) (crew : Crew) (run : ℕ) → WrittenBefore s crew run → SchedulePremises s crew run

-- 02: "Two steps of different nodes, neither of which takes what the other writes, give the same records in either
-- order, each handed the same inbox."

-- In the schedule so far, step f takes what step e writes: f is an accepted take, in whose inbox the slot of e's node
-- counts; both are in rounds of one number; and e writes bytes that stand at the front of that slot.
pub record TakesFrom (s : Schedule) (f e : Event) : Type 0 where
  pub inbox : List ℕ
  pub is_take : f.call ≡ take_round inbox
  pub is_accepted : T (is_accepted (take_of (record_after s f.node) inbox))
  pub message : Ballot
  pub counts : ballot_at (record_after s f.node) inbox e.node ≡ some message
  pub same_round : rounds_taken s e.node ≡ rounds_taken s f.node
  pub written : List ℕ
  pub rest : List ℕ
  pub puts : Puts (record_after s e.node) e.call written
  pub holds_it : slot_at inbox e.node ≡ written ++ rest

-- the schedule with step e and then step f at this place
abbrev pub in_order : Schedule → Event → Event → List Event → Schedule
in_order s e f after = record { starts = s.starts; events = s.events ++ (e ∷ f ∷ after) }

-- A call carries its inbox, so that in either order each is handed the same one. Every node ends with the same record,
-- after as many rounds, with the same inbox in each; and what is supposed of the one order holds of the other.
pub record Alike (one other : Schedule) : Type 0 where
  pub records : (p : ℕ) → record_after one p ≡ record_after other p
  pub rounds : (p : ℕ) → rounds_taken one p ≡ rounds_taken other p
  pub inboxes : (p j : ℕ) → own_inbox one p j ≡ own_inbox other p j
  pub premises : (crew : Crew) (run : ℕ) → SchedulePremises one crew run ↔ SchedulePremises other crew run

abbrev pub Exchange : Type 0
Exchange =
    (s : Schedule) (e f : Event) (after : List Event) → e.node ≢ f.node
    → (TakesFrom s f e → ⊥) → (TakesFrom s e f → ⊥) → Alike (in_order s e f after) (in_order s f e after)

-- 02: "For every such schedule, one lock-step run with the same starts and premises, and with losses, gives each node
-- the same record after as many rounds as that node took."

-- An inbox of n slots of which every one was lost: zero bytes, so that nothing counts.
abbrev pub empty_inbox : ℕ → List ℕ
empty_inbox n = replicate (slot_size * n) 0

-- What p does in round j of the run: its calls of its own round j, and, where no take of its own has ended that round,
-- a take of the empty inbox after them. In either case its last call is the take.
abbrev pub padded_calls : Schedule → ℕ → ℕ → ℕ → List Call
padded_calls s n p j = own_calls s p j ++ cond (ltb j (rounds_taken s p)) [] (take_round (empty_inbox n) ∷ [])

-- where the last of some calls stands; all calls but the last; the last alone
abbrev pub last_place : List Call → ℕ
last_place cs = length cs - 1

abbrev pub all_but_last : List Call → List Call
all_but_last cs = take (last_place cs) cs

abbrev pub last_only : List Call → List Call
last_only cs = drop (last_place cs) cs

-- the honest nodes below n make the calls that are given for each, node after node
unfoldable pub by_node : Schedule → (ℕ → List Call) → ℕ → List Event
by_node s given zero = []
by_node s given (suc p) = by_node s given p ++ cond (is_honest s p) (map (on p) (given p)) []

-- A whole round, as the Statement's Whole has it: first, node after node, all calls but the last of each, refused takes
-- and asks among them; then the last of each, the take that ends its round. A node that wrote nothing in its own round
-- writes nothing here.
abbrev pub round_in_step : Schedule → ℕ → ℕ → List Event
round_in_step s n j =
    by_node s (λ p. all_but_last (padded_calls s n p j)) n ++ by_node s (λ p. last_only (padded_calls s n p j)) n

-- the rounds before round m
unfoldable pub first_rounds : Schedule → ℕ → ℕ → List (List Event)
first_rounds s n zero = []
first_rounds s n (suc m) = first_rounds s n m ++ (round_in_step s n m ∷ [])

-- how many rounds the fastest of the honest nodes below n took
unfoldable pub most_rounds : Schedule → ℕ → ℕ
most_rounds s zero = 0
most_rounds s (suc p) = max (cond (is_honest s p) (rounds_taken s p) 0) (most_rounds s p)

-- one round more, so that the calls after a node's last accepted take are in the run too
abbrev pub rounds_in_step : Schedule → ℕ → ℕ
rounds_in_step s n = suc (most_rounds s n)

-- The lock-step run: the same starts, and these rounds.
abbrev pub lock_step : Schedule → ℕ → Execution
lock_step s n = record { starts = s.starts; rounds = first_rounds s n (rounds_in_step s n) }

-- All nodes take the round together: first come calls that take nothing, then each honest node makes one call, a take.
pub record TakesLast (s : Schedule) (l : Execution) (j : ℕ) : Type 0 where
  pub others : List Event
  pub takes : List Event
  pub parts : get_or l.rounds j [] ≡ others ++ takes
  pub takes_none : (p : ℕ) → T (is_honest s p) → taken_inbox (record_at l p j) (calls_of p others) ≡ none
  pub takes_one : (p : ℕ) → T (is_honest s p) → (inbox : List ℕ) × (calls_of p takes ≡ take_round inbox ∷ [])

pub record InLockStep (s : Schedule) (crew : Crew) (run : ℕ) (l : Execution) : Type 0 where
  -- "with the same starts and premises": demand 3's, whole rounds among them, in each of which the takes come last
  pub starts : l.starts ≡ s.starts
  pub premises : Premises l crew run
  pub takes_last : (j : ℕ) → j < length l.rounds → TakesLast s l j
  -- one round more than the fastest node took: more than each took, and no more than one more
  pub long : (p : ℕ) → T (is_honest s p) → rounds_taken s p < length l.rounds
  pub no_longer : (m : ℕ) → ((p : ℕ) → T (is_honest s p) → rounds_taken s p ≤ m) → length l.rounds ≤ suc m
  -- "the same record after as many rounds as that node took", and on the way there the same records and inboxes
  pub last : (p : ℕ) → T (is_honest s p) → record_at l p (rounds_taken s p) ≡ record_after s p
  pub records : (p j : ℕ) → T (is_honest s p) → j ≤ rounds_taken s p → record_at l p j ≡ own_record s p j
  pub inboxes : (p j : ℕ) → T (is_honest s p) → j < rounds_taken s p → inbox_at l p j ≡ own_inbox s p j
  -- "and with losses": in a round that p did not take in the schedule it hears nothing
  pub losses : (p j : ℕ) → T (is_honest s p) → rounds_taken s p ≤ j → (inbox : List ℕ) → inbox_at l p j ≡ some inbox
      → inbox ≡ empty_inbox crew.n
  -- Each node makes all its calls of the schedule, in their order, and then takes an empty inbox in every round that it
  -- did not take.
  pub calls : (p : ℕ) → T (is_honest s p)
      → calls_of p (flatten l.rounds)
      ≡ calls_of p s.events ++ replicate (length l.rounds - rounds_taken s p) (take_round (empty_inbox crew.n))

abbrev pub LockStep : Type 0
LockStep =
    (s : Schedule) (crew : Crew) (run : ℕ) → SchedulePremises s crew run → InLockStep s crew run (lock_step s crew.n)

-- 02: "Agreement and common start follow for it without a fresh argument."

-- The Statement's decisions, from the inboxes of the rounds that the node took.

abbrev pub Wins : Schedule → Crew → ℕ → ℕ → ℕ → Type 0
Wins s crew p j v = WinsOn crew j (own_record s p j) (own_inbox s p j) v

abbrev pub Decided : Schedule → Crew → ℕ → Type 0
Decided s crew p = AnyWin (Wins s crew p)

abbrev pub PlanDecided : Schedule → Crew → ℕ → ℕ → Type 0
PlanDecided s crew p v = FirstWin (Wins s crew p) v

-- the result of p after all events
abbrev pub standing : Schedule → ℕ → ℕ
standing s p = (record_after s p).result

pub record ScheduleConclusions (s : Schedule) (crew : Crew) : Type 0 where
  -- a standing result is the plan that the node decided, and 0 where it has not decided
  pub result : (p : ℕ) → T (is_honest s p)
      → PlanDecided s crew p (standing s p) ⊎ ((Decided s crew p → ⊥) × (standing s p ≡ 0))
  -- the standing results of two honest nodes are equal exactly when both have decided or neither has
  pub agreement : (p q : ℕ) → T (is_honest s p) → T (is_honest s q)
      → (standing s p ≡ standing s q) ↔ (Decided s crew p ↔ Decided s crew q)
  -- where all accepted starts have one plan, no other is decided
  pub common_start : (v : ℕ) → Every (λ x. T (is_accepted (answer_to x)) → x.plan ≡ v) s.starts
      → (p w : ℕ) → T (is_honest s p) → PlanDecided s crew p w → w ≡ v

abbrev pub OutOfStep : Type 0
OutOfStep = (s : Schedule) (crew : Crew) (run : ℕ) → SchedulePremises s crew run → ScheduleConclusions s crew
