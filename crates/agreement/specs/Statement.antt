-- Demand 3: one statement on a whole list of start, write, ask and take calls on bytes (document 01, 'The list in
-- demand 3', and 02, C-13). This is the page that a reader has to believe: definitions only. What a call answers and
-- leaves behind is start_of, write_coming_of, coming_buffer_of, ask_of and take_of: the very definitions that the
-- functions' contracts cite.
-- proofs/Demand.antt proves it; proofs/Example.antt has a list that meets the premises.
use Rattle.std.specs.Prelude.{◌≡◌, Bool, true, false, not, cond, ◌&&◌, List, [], ◌∷◌, ◌++◌, ◌⊎◌, ◌≢◌, ◌↔◌, ℕ, zero, suc}
use Rattle.std.specs.Prelude.{◌+◌, ◌*◌, ◌/◌, ◌%◌, ◌≤◌, ◌<◌, length, get_or, take, T, ltb, eqb}
use Rattle.std.proofs.Math.Option.{Option, none, some}
use Rattle.wire.specs.Sizes.{plan_limit, run_limit, spent_phase}
use Rattle.wire.specs.Outcome.{Outcome, accepted, refused, value_or, is_accepted}
use Rattle.wire.specs.Bytes.{AreBytes}
use Rattle.crew.specs.declared.Crew.{Crew}
use Rattle.crew.specs.Acceptance.{accept_of}
use Rattle.crew.specs.Thresholds.{class_of}
use Rattle.crew.specs.Group.{validates}
use Rattle.message.specs.Layout.{slot_size}
use Rattle.ballot.specs.Count.{tally, count_if, holds}
use Rattle.ballot.specs.Ballot.{Ballot, votes, same_ballot}
use Rattle.ballot.specs.Decision.{fresh}
use Rattle.node.specs.declared.Node.{Node}
use Rattle.node.specs.Record.{blank}
use Rattle.node.specs.Starting.{start_of}
use Rattle.node.specs.Sending.{coming_of, coming_bytes, write_coming_of, coming_buffer_of}
use Rattle.inbox.specs.Inbox.{slot_at, ballot_at, ballots}
use Rattle.rounds.specs.Taking.{take_of}
use Rattle.rounds.specs.Asking.{ask_of}

-- The list.

-- a start, with what it is handed
pub record Start : Type 0 where
  pub crew : Crew
  pub own : ℕ
  pub run : ℕ
  pub plan : ℕ

-- a call on a node's record, with the bytes that are lent to it: any bytes, and any number of them
pub data Call : Type 0 where
  write : List ℕ → Call
  ask : List ℕ → Call
  take_round : List ℕ → Call

-- a call, and the node on whose record it is made
pub record Event : Type 0 where
  pub node : ℕ
  pub call : Call

-- 01: "It begins with starts". Then come the rounds, each the list of its calls, in the order in which they are made.
pub record Execution : Type 0 where
  pub starts : List Start
  pub rounds : List (List Event)

-- The starts.

abbrev pub answer_to : Start → Outcome Node
answer_to s = start_of s.crew s.own s.run s.plan

-- 01: "a refused one makes no node"
abbrev pub with_record : Outcome Node → List Node → List Node
with_record (accepted d) ds = d ∷ ds
with_record (refused number) ds = ds

-- the records that the starts gave
unfoldable pub made : List Start → List Node
made [] = []
made (s ∷ ss) = with_record (answer_to s) (made ss)

-- how many of the records have this own number
abbrev pub numbered : ℕ → List Node → ℕ
numbered q ds = count_if (λ d. eqb d.own q) ds

-- 01: "The honest nodes are those whose records these starts gave; the other numbers below n are the nodes that are not
-- honest."
abbrev pub honest : Execution → ℕ → Bool
honest l q = ltb 0 (numbered q (made l.starts))

-- the record with this own number; every honest node has one
unfoldable pub record_of : ℕ → List Node → Node
record_of q [] = blank
record_of q (d ∷ ds) = cond (eqb d.own q) d (record_of q ds)

-- Whole rounds.

-- nothing but asks
abbrev pub Asks : List Call → Type 0
Asks [] = Unit {0}
Asks (write buffer ∷ cs) = ⊥
Asks (ask inbox ∷ cs) = Asks cs
Asks (take_round inbox ∷ cs) = ⊥

-- The calls of one node in a whole round of n slots.
-- 01: "In a whole round every honest node writes its coming message, then every honest node takes the round, with
-- inboxes that anybody may fill after all the writes." "A take refused with 14 is made again until one is accepted."
-- That is: any number of writes, each into a buffer of any length, and of takes of a wrong length, then one take of the
-- right length; asks anywhere. More than 01's rounds are covered: a node may write nothing, or again after a refused
-- take, and nodes wait for each other only so far as the premise on slots makes them.
abbrev pub Whole : ℕ → List Call → Type 0
Whole n [] = ⊥
Whole n (write buffer ∷ cs) = Whole n cs
Whole n (ask inbox ∷ cs) = Whole n cs
Whole n (take_round inbox ∷ cs) =
    ((length inbox ≡ slot_size * n) × Asks cs) ⊎ ((length inbox ≢ slot_size * n) × Whole n cs)

-- The records, from call to call.

-- 01: "The state is the honest nodes' records alone: each call gets the record that its node's last accepted take
-- returned, at first the start's, and nothing else changes it meanwhile." "Refused calls stand in the list and change
-- no record."
abbrev pub after_call : Node → Call → Node
after_call d (write buffer) = d
after_call d (ask inbox) = d
after_call d (take_round inbox) = value_or d (take_of d inbox)

unfoldable pub after_calls : Node → List Call → Node
after_calls d [] = d
after_calls d (c ∷ cs) = after_calls (after_call d c) cs

-- the calls on a node's record, in their order
unfoldable pub calls_of : ℕ → List Event → List Call
calls_of p [] = []
calls_of p (e ∷ es) = cond (eqb e.node p) (e.call ∷ calls_of p es) (calls_of p es)

-- those of round j; the list's first round is round 0
abbrev pub calls : Execution → ℕ → ℕ → List Call
calls l p j = calls_of p (get_or l.rounds j [])

-- the record of p when round j begins
unfoldable pub record_at : Execution → ℕ → ℕ → Node
record_at l p zero = record_of p (made l.starts)
record_at l p (suc j) = after_calls (record_at l p j) (calls l p j)

-- 01: "The premise on slots is for the inboxes of accepted takes": the inbox of the take that was accepted
unfoldable pub taken_inbox : Node → List Call → Option (List ℕ)
taken_inbox d [] = none
taken_inbox d (write buffer ∷ cs) = taken_inbox d cs
taken_inbox d (ask inbox ∷ cs) = taken_inbox d cs
taken_inbox d (take_round inbox ∷ cs) = cond (is_accepted (take_of d inbox)) (some inbox) (taken_inbox d cs)

-- the inbox that p took in round j
abbrev pub inbox_at : Execution → ℕ → ℕ → Option (List ℕ)
inbox_at l p j = taken_inbox (record_at l p j) (calls l p j)

-- What a node wrote in a round.

-- The call wrote these bytes: it was accepted with their number, and they stand at its buffer's front. Silence has
-- written nothing.
abbrev pub Puts : Node → Call → List ℕ → Type 0
Puts d (write buffer) bytes =
    (write_coming_of d buffer ≡ accepted (length bytes))
    × (0 < length bytes)
    × (take (length bytes) (coming_buffer_of d buffer) ≡ bytes)
Puts d (ask inbox) bytes = ⊥
Puts d (take_round inbox) bytes = ⊥

-- Some call of the round wrote these bytes.
-- 01: "A node whose writes in a round are all refused (9) has written nothing."
abbrev pub Wrote : Node → List Call → List ℕ → Type 0
Wrote d [] bytes = ⊥
Wrote d (c ∷ cs) bytes = Puts d c bytes ⊎ Wrote (after_call d c) cs bytes

-- Places.

-- The phase and the number of round j, by whether the class is 1.
-- 01: "A round's place in the list gives its phase and number: rounds 1 and 3 of each phase in class 1, rounds 1 to 3
-- in the others, phases 1 to 63."
abbrev pub phase_if : Bool → ℕ → ℕ
phase_if true j = 1 + j / 2
phase_if false j = 1 + j / 3

abbrev pub round_if : Bool → ℕ → ℕ
round_if true j = 1 + 2 * (j % 2)
round_if false j = 1 + j % 3

abbrev pub phase_at : Crew → ℕ → ℕ
phase_at crew j = phase_if (eqb crew.class 1) j

abbrev pub round_at : Crew → ℕ → ℕ
round_at crew j = round_if (eqb crew.class 1) j

-- before the records are spent
abbrev pub Early : Crew → ℕ → Type 0
Early crew j = phase_at crew j < spent_phase

-- Premises.

module _ {A : Type 0} where
  abbrev pub Every : (A → Type 0) → List A → Type 0
  Every P [] = Unit {0}
  Every P (a ∷ others) = P a × Every P others

-- slot q of the inbox that p took in round j counts for p, and says m; each node has inboxes of its own
abbrev pub Hears : Execution → ℕ → ℕ → ℕ → List ℕ → Ballot → Type 0
Hears l p j q inbox m = (inbox_at l p j ≡ some inbox) × (ballot_at (record_at l p j) inbox q ≡ some m)

pub record Premises (l : Execution) (crew : Crew) (run : ℕ) : Type 0 where
  -- what the types of a start's arguments say: a run has four bytes, a plan two
  pub typed : Every (λ s. (s.run < run_limit) × (s.plan < plan_limit)) l.starts
  -- the accepted starts have one accepted crew and one run; a refused one may carry anything
  pub crew_accepted : accept_of crew ≡ accepted tt
  pub one_crew : Every (λ d. (d.crew ≡ crew) × (d.run ≡ run)) (made l.starts)
  -- each accepted start has its own number
  pub distinct : (q : ℕ) → numbered q (made l.starts) ≤ 1
  -- at most b nodes are not honest
  pub few : tally (λ q. not (honest l q)) crew.n ≤ crew.b
  -- until the records are spent every honest node goes through every round; after that it makes any calls
  pub whole : (p j : ℕ) → T (honest l p) → j < length l.rounds → Early crew j → Whole crew.n (calls l p j)
  -- An inbox that an honest node took holds bytes. Nothing is asked of buffers, and of inboxes of other calls.
  pub bytes : (p j : ℕ) → T (honest l p) → (inbox : List ℕ) → inbox_at l p j ≡ some inbox → AreBytes inbox
  -- A slot that counts for an honest node, and belongs to it or to another honest node, holds what its node wrote in
  -- that round. Nothing is asked of slots that do not count, and of those of the nodes that are not honest.
  -- 01: "a slot holds what a node wrote if there are such bytes and they stand at its front"
  pub slots : (p q j : ℕ) → T (honest l p) → T (honest l q) → (inbox : List ℕ) (m : Ballot) → Hears l p j q inbox m
      → (written : List ℕ) × (rest : List ℕ)
      × Wrote (record_at l q j) (calls l q j) written
      × (slot_at inbox q ≡ written ++ rest)

-- Decisions, from the inboxes and not from the results.

-- the ballot is for v, and in classes 2 and 3 its stamp is the phase
abbrev pub is_for : Crew → ℕ → ℕ → Ballot → Bool
is_for crew phase v m = fresh (class_of crew) phase m && votes v m

-- In round j the plan v wins for a node with this record, which took this inbox.
-- 01: "at least D counting slots held one plan (in classes 2 and 3 with the phase as stamp)"
abbrev pub WinsOn : Crew → ℕ → Node → Option (List ℕ) → ℕ → Type 0
WinsOn crew j d taken v =
    (round_at crew j ≡ 3)
    × (inbox : List ℕ)
    × (taken ≡ some inbox)
    × (crew.d ≤ tally (λ q. holds (is_for crew (phase_at crew j) v) (ballot_at d inbox q)) crew.n)

-- What a node has decided, by which plans win for it in which rounds.

-- 01: "A node has decided when, in some round 3 that it took, .."
abbrev pub AnyWin : (ℕ → ℕ → Type 0) → Type 0
AnyWin wins = (j : ℕ) × (v : ℕ) × wins j v

-- 01: "The plan it decided is the least such plan of the first such round."
pub record FirstWin (wins : ℕ → ℕ → Type 0) (v : ℕ) : Type 0 where
  pub round : ℕ
  pub win : wins round v
  pub least : (w : ℕ) → wins round w → v ≤ w
  pub first : (i w : ℕ) → i < round → wins i w → ⊥

-- the same of node p in this list
abbrev pub Wins : Execution → Crew → ℕ → ℕ → ℕ → Type 0
Wins l crew p j v = WinsOn crew j (record_at l p j) (inbox_at l p j) v

abbrev pub Decided : Execution → Crew → ℕ → Type 0
Decided l crew p = AnyWin (Wins l crew p)

abbrev pub PlanDecided : Execution → Crew → ℕ → ℕ → Type 0
PlanDecided l crew p v = FirstWin (Wins l crew p) v

-- 01: "Its standing result is its record's result after the list."
abbrev pub standing : Execution → ℕ → ℕ
standing l p = (record_at l p (length l.rounds)).result

-- Good phases.

-- the counting messages of an inbox, none where no inbox was taken
abbrev pub ballots_in : Node → Option (List ℕ) → List Ballot
ballots_in d none = []
ballots_in d (some inbox) = ballots d inbox

-- those of the inbox that p took in round j
abbrev pub heard : Execution → ℕ → ℕ → List Ballot
heard l p j = ballots_in (record_at l p j) (inbox_at l p j)

-- Nothing is to be written: in round 2 by a node that selected no plan, or whose turn it is not. A node whose writes
-- are all refused is not silent by that.
abbrev pub Silent : Execution → ℕ → ℕ → Type 0
Silent l q j = coming_of (record_at l q j) ≡ none

-- The phase is good, with this circle.
pub record Good (l : Execution) (crew : Crew) (phase : ℕ) (circle : ℕ → Bool) : Type 0 where
  -- 01: "there is a circle of at least n − b − f honest nodes"
  pub inside : (p : ℕ) → T (circle p) → T (honest l p)
  pub wide : crew.n ≤ tally circle crew.n + crew.b + crew.f
  -- 02: "In a good phase only the circle's validators need count in round 2, and besides twice their number must exceed
  -- c + b (class 1 excepted)." That these count in round 2 is `counts`, below: the circle's other nodes are silent
  -- there.
  pub group : crew.class ≢ 1
      → crew.c + crew.b < 2 * tally (λ q. circle q && validates crew phase q) crew.n
  -- 01: "A good phase has all its rounds in the list."
  pub complete : (j : ℕ) → phase_at crew j ≡ phase → j < length l.rounds
  -- 01: "In round 1 all of them have the same counting messages, each in as many slots of one inbox as of another"
  pub equal : (j p q : ℕ) → phase_at crew j ≡ phase → round_at crew j ≡ 1 → T (circle p) → T (circle q)
      → (m : Ballot) → count_if (same_ballot m) (heard l p j) ≡ count_if (same_ballot m) (heard l q j)
  -- 01: "and every circle node's slot counts in each. In rounds 2 and 3 the slot of every circle node that is not
  -- silent counts in every circle node's inbox." In round 1 no node is silent.
  pub counts : (j p q : ℕ) → phase_at crew j ≡ phase → T (circle p) → T (circle q) → (Silent l q j → ⊥)
      → (inbox : List ℕ) × (m : Ballot) × Hears l p j q inbox m

-- Conclusions.

-- What the calls on an unspent record answer: a write is refused only with 9, a take and an ask only with 14, an ask
-- outside round 1 with 7.
pub record Unspent (n : ℕ) (d : Node) : Type 0 where
  pub writes : (buffer : List ℕ)
      → (write_coming_of d buffer ≡ accepted (length (coming_bytes d)))
      ⊎ ((write_coming_of d buffer ≡ refused 9) × (length buffer < length (coming_bytes d)))
  pub takes : (inbox : List ℕ) → length inbox ≡ slot_size * n → T (is_accepted (take_of d inbox))
  pub takes_not : (inbox : List ℕ) → length inbox ≢ slot_size * n → take_of d inbox ≡ refused 14
  pub asks : (inbox : List ℕ) → d.round ≡ 1 → length inbox ≡ slot_size * n → T (is_accepted (ask_of d inbox))
  pub asks_not : (inbox : List ℕ) → d.round ≡ 1 → length inbox ≢ slot_size * n → ask_of d inbox ≡ refused 14
  pub asks_late : (inbox : List ℕ) → d.round ≢ 1 → ask_of d inbox ≡ refused 7

-- what they answer when the record is spent
pub record Spent (d : Node) : Type 0 where
  pub phase : d.phase ≡ spent_phase
  pub round : d.round ≡ 1
  pub writes_not : (buffer : List ℕ) → (write_coming_of d buffer ≡ refused 8) × (coming_buffer_of d buffer ≡ buffer)
  pub takes_not : (inbox : List ℕ) → take_of d inbox ≡ refused 8
  pub asks_not : (inbox : List ℕ) → ask_of d inbox ≡ refused 8

-- A list cut short after any of its rounds is a list again, and meets the premises where the whole does
-- (proofs/Prefix.antt): so what is said of the standing results holds after every round.
pub record Conclusions (l : Execution) (crew : Crew) : Type 0 where
  -- a standing result is the plan that the node decided, and 0 where it has not decided
  pub result : (p : ℕ) → T (honest l p)
      → PlanDecided l crew p (standing l p) ⊎ ((Decided l crew p → ⊥) × (standing l p ≡ 0))
  -- the standing results of two honest nodes are equal exactly when both have decided or neither has
  pub agreement : (p q : ℕ) → T (honest l p) → T (honest l q)
      → (standing l p ≡ standing l q) ↔ (Decided l crew p ↔ Decided l crew q)
  -- where all accepted starts have one plan, no other is decided
  pub common_start : (v : ℕ) → Every (λ s. T (is_accepted (answer_to s)) → s.plan ≡ v) l.starts
      → (p w : ℕ) → T (honest l p) → PlanDecided l crew p w → w ≡ v
  -- every node of a good phase's circle has decided by its round 3
  pub good_phase : (phase : ℕ) (circle : ℕ → Bool) → 1 ≤ phase → phase < spent_phase → Good l crew phase circle
      → (p : ℕ) → T (circle p) → (j : ℕ) × (v : ℕ) × (phase_at crew j ≤ phase) × Wins l crew p j v
  -- the records stand at the round's place
  pub places : (p j : ℕ) → T (honest l p) → j ≤ length l.rounds → Early crew j
      → ((record_at l p j).phase ≡ phase_at crew j) × ((record_at l p j).round ≡ round_at crew j)
  pub unspent : (p j : ℕ) → T (honest l p) → j ≤ length l.rounds → Early crew j
      → Unspent crew.n (record_at l p j)
  -- 01: "When the records are spent, every call is refused with 8 and the round leaves all as it was."
  pub spent : (p j : ℕ) → T (honest l p) → j ≤ length l.rounds → spent_phase ≤ phase_at crew j
      → Spent (record_at l p j) × (record_at l p (suc j) ≡ record_at l p j)

abbrev pub Demand3 : Type 0
Demand3 = (l : Execution) (crew : Crew) (run : ℕ) → Premises l crew run → Conclusions l crew
