-- A schedule in lock step: the run in which every node goes through its own rounds, one a round, with an empty inbox in
-- those that it did not take, meets the premises of demand 3 and has the schedule's records: `LockStep` of
-- specs/Schedule.
use mathlib.Core.Path.{◌≡◌, refl, sym, ap, ap₂, ◌∙◌, subst}
use mathlib.Core.Bool.{Bool, true, false, cond}
use mathlib.Core.List.{List, [], ◌∷◌, ◌++◌, flatten, append-nil, append_assoc}
use mathlib.Core.Logic.{◌⊎◌, inl, inr}
use mathlib.Core.Option.{none, some, none-ne-some}
use Prim.Native.Nat.{ℕ, zero, suc, ◌+◌, ◌-◌, ◌*◌, ◌≤◌, ◌<◌}
use native.Mathlib.Omega.{arith}
use native.Mathlib.Decide.{ℕ_discrete, dec_lt, dec_le}
use lib.ListN.{length, take, drop, replicate, replicate-append-replicate, length-append}
use lib.Seq.{take_at, drop_at}
use lib.Dec.{T, ltb}
use borrow.Author.Tests.{lt-ltb, le-ltb}
use Rattle.wire.specs.Outcome.{is_accepted}
use Rattle.wire.specs.Bytes.{AreBytes}
use Rattle.crew.specs.declared.Crew.{Crew}
use Rattle.message.specs.Layout.{slot_size}
use Rattle.ballot.specs.Ballot.{Ballot}
use Rattle.node.specs.declared.Node.{Node}
use Rattle.inbox.specs.Inbox.{slot_at, ballot_at}
use Rattle.rounds.specs.Taking.{take_of}
use Rattle.agreement.specs.Statement.{Call, write, ask, take_round, Event, Execution, after_call, after_calls, calls_of}
use Rattle.agreement.specs.Statement.{calls, record_at, taken_inbox, inbox_at, Wrote, Whole, Early, Hears}
use Rattle.agreement.specs.Statement.{Premises, Unspent}
use Rattle.agreement.proofs.Calls.{taken_inside}
use Rattle.agreement.proofs.Simulation.{honest_below}
use Rattle.agreement.proofs.Demand.{demand3}
use Rattle.schedules.specs.Schedule.{Schedule, on, up_to, is_honest, start_record, record_after, rounds_in, calls_in}
use Rattle.schedules.specs.Schedule.{calls_before, rounds_taken, own_calls, own_record, own_inbox, OwnWrote}
use Rattle.schedules.specs.Schedule.{TakesAfter, SchedulePremises, empty_inbox, padded_calls, last_place, all_but_last}
use Rattle.schedules.specs.Schedule.{last_only, by_node, first_rounds, most_rounds, rounds_in_step, TakesLast, LockStep}
use Rattle.schedules.proofs.Rounds.{not_both, leaves, after_append, all_calls, OneRound, one_round, no_calls}
use Rattle.schedules.proofs.Rounds.{open_inbox, open_none, last_record, taken_at}
use Rattle.schedules.proofs.Events.{wrote_all, stands_at_lem, by_node_lem, calls_in_round, rounds_length, round_at_lem}
use Rattle.schedules.proofs.Events.{calls_together}
use Rattle.schedules.proofs.Empty.{empty_length, empty_bytes, nothing_counts}

-- The calls of one round, with a take of the empty inbox where none has ended it: calls that take nothing, and then one
-- take, which is accepted or of the empty inbox.

record Padded (n : ℕ) (d : Node) (cs : List Call) : Type 0 where
  front : List Call
  inbox : List ℕ
  parts : cs ≡ front ++ (take_round inbox ∷ [])
  unended : OneRound d front false
  ends : (is_accepted (take_of d inbox) ≡ true) ⊎ (inbox ≡ empty_inbox n)

padded : (n : ℕ) (d : Node) (cs : List Call) (taken : Bool) → OneRound d cs taken
    → Padded n d (cs ++ cond taken [] (take_round (empty_inbox n) ∷ []))
padded n d [] taken h =
    record { front = []; inbox = empty_inbox n; parts = rw h; unended = refl; ends = inr refl }
padded n d (write buffer ∷ cs) taken (inl h) = not_both h.0
padded n d (ask inbox ∷ cs) taken (inl h) = not_both h.0
padded n d (take_round inbox ∷ cs) taken (inl h) =
    record { front = []; inbox = inbox; parts = rw (h.1, h.2); unended = refl; ends = inl h.0 }
padded n d (c ∷ cs) taken (inr h) =
    let t = padded n (after_call d c) cs taken h.1 in
    record {
      front = c ∷ t.front;
      inbox = t.inbox;
      parts = ap (λ x. c ∷ x) t.parts;
      unended = inr (h.0, t.unended);
      ends =
          subst (λ e. (is_accepted (take_of e t.inbox) ≡ true) ⊎ (t.inbox ≡ empty_inbox n)) (leaves d c h.0)
          t.ends;
    }

-- On a record that takes every inbox of the right length and no other, such a round is whole.

whole_front : (n : ℕ) (d : Node) → Unspent n d → (front : List Call) → OneRound d front false
    → (inbox : List ℕ) → length inbox ≡ slot_size * n → Whole n (front ++ (take_round inbox ∷ []))
whole_front n d u [] h inbox long = inl (long, tt)
whole_front n d u (c ∷ cs) (inl h) inbox long = not_both h.2
whole_front n d u (write buffer ∷ cs) (inr h) inbox long = whole_front n d u cs h.1 inbox long
whole_front n d u (ask bytes ∷ cs) (inr h) inbox long = whole_front n d u cs h.1 inbox long
whole_front n d u (take_round bytes ∷ cs) (inr h) inbox long =
    inr (
      λ e. subst T h.0 (u.takes bytes e),
      whole_front n d u cs (rw (leaves d (take_round bytes) h.0) at h.1) inbox long,
    )

whole_round : (n : ℕ) (d : Node) (cs : List Call) → Unspent n d → Padded n d cs → Whole n cs
whole_round n d cs u t = rw t.parts (whole_front n d u t.front t.unended t.inbox (long t.ends))
  where
    -- what an accepted take was handed has the right length
    long : (is_accepted (take_of d t.inbox) ≡ true) ⊎ (t.inbox ≡ empty_inbox n) → length t.inbox ≡ slot_size * n
    long (inr e) = ap length e ∙ empty_length n
    long (inl e) = elim (ℕ_discrete (length t.inbox) (slot_size * n)) [
      | yes l ↦ l
      | no l ↦ not_both (sym (ap is_accepted (u.takes_not t.inbox l)) ∙ e)
    ]

-- its last call is the take
last_is_take : (n : ℕ) (d : Node) (cs : List Call) (t : Padded n d cs)
    → (all_but_last cs ≡ t.front) × (last_only cs ≡ take_round t.inbox ∷ [])
last_is_take n d cs t =
    let place : length t.front ≡ last_place cs =
    omega (arith, ap length t.parts, length-append t.front (take_round t.inbox ∷ [])) in (
      ap (take (last_place cs)) t.parts ∙ take_at t.front (take_round t.inbox ∷ []) (last_place cs) place,
      ap (drop (last_place cs)) t.parts ∙ drop_at t.front (take_round t.inbox ∷ []) (last_place cs) place,
    )

wrote_append : (d : Node) (cs more : List Call) (w : List ℕ) → Wrote d cs w → Wrote d (cs ++ more) w
wrote_append d [] more w h = absurd h
wrote_append d (c ∷ cs) more w (inl h) = inl h
wrote_append d (c ∷ cs) more w (inr h) = inr (wrote_append (after_call d c) cs more w h)

-- the first m rounds of the run
abbrev run_of : Schedule → ℕ → ℕ → Execution
run_of s n m = record { starts = s.starts; rounds = first_rounds s n m }

-- What p does in a round of the run, by whether it took that round.

module _ (s : Schedule) (n p : ℕ) where
  padded_taken : (j : ℕ) → j < rounds_taken s p → padded_calls s n p j ≡ own_calls s p j
  padded_taken j h =
      ap (λ taken. own_calls s p j ++ cond taken [] (take_round (empty_inbox n) ∷ [])) (lt-ltb j (rounds_taken s p) h)
      ∙ append-nil (own_calls s p j)

  padded_open : (j : ℕ) → rounds_taken s p ≤ j
      → padded_calls s n p j ≡ own_calls s p j ++ (take_round (empty_inbox n) ∷ [])
  padded_open j h =
      ap (λ taken. own_calls s p j ++ cond taken [] (take_round (empty_inbox n) ∷ [])) (le-ltb j (rounds_taken s p) h)

-- One honest node in the first rounds.

module _ (s : Schedule) (n p : ℕ) (honest : T (is_honest s p)) (below : p < n) where
  -- All its calls.

  kept_before : (m : ℕ) → m ≤ rounds_taken s p
      → calls_of p (flatten (first_rounds s n m)) ≡ calls_before (start_record s p) (calls_of p s.events) m
  unfolding first_rounds flatten calls_of calls_before
  kept_before zero h = refl
  kept_before (suc m) h =
      calls_together s n p m honest below
      ∙ ap₂ (λ x y. x ++ y) (kept_before m (omega arith)) (padded_taken s n p m (omega arith))

  kept_after : (k m : ℕ) → rounds_taken s p + k ≡ m
      → calls_of p (flatten (first_rounds s n (suc m)))
      ≡ calls_of p s.events ++ replicate (suc k) (take_round (empty_inbox n))
  unfolding calls_before
  kept_after zero m e =
      let d = start_record s p in
      let own = calls_of p s.events in
      let last = take_round (empty_inbox n) ∷ [] in
      let now : m ≡ rounds_taken s p = omega arith in
      calls_together s n p m honest below
      ∙ ap₂ (λ x y. x ++ y) (kept_before m (omega arith)) (padded_open s n p m (omega arith))
      ∙ sym (append_assoc (calls_before d own m) (calls_in d own m) last)
      ∙ ap (λ i. calls_before d own (suc i) ++ last) now
      ∙ ap (λ x. x ++ last) (all_calls d own)
  kept_after (suc k) zero e = absurd (omega arith)
  kept_after (suc k) (suc m) e =
      let own = calls_of p s.events in
      let missed = take_round (empty_inbox n) in
      let one_more : suc k + 1 ≡ suc (suc k) = omega arith in
      calls_together s n p (suc m) honest below
      ∙ ap₂ (λ x y. x ++ y) (kept_after k m (omega arith))
      (padded_open s n p (suc m) (omega arith)
      ∙ ap (λ x. x ++ (missed ∷ [])) (no_calls (start_record s p) own (suc m) (omega arith)))
      ∙ append_assoc own (replicate (suc k) missed) (missed ∷ [])
      ∙ ap (λ x. own ++ x) (replicate-append-replicate (suc k) 1 missed)
      ∙ ap (λ i. own ++ replicate i missed) one_more

  -- Records and inboxes.

  module _ (m : ℕ) where
    calls_are : (j : ℕ) → j < m → calls (run_of s n m) p j ≡ padded_calls s n p j
    calls_are j inside = ap (calls_of p) (round_at_lem s n m j inside) ∙ calls_in_round s n p j honest below

    -- as long as p took rounds, its records are the schedule's, and so are its inboxes
    records_are : (j : ℕ) → j ≤ m → j ≤ rounds_taken s p → record_at (run_of s n m) p j ≡ own_record s p j
    unfolding record_at calls_before after_calls
    records_are zero inside h = refl
    records_are (suc j) inside h =
        let d = start_record s p in
        let own = calls_of p s.events in
        ap₂ after_calls (records_are j (omega arith) (omega arith))
        (calls_are j (omega arith) ∙ padded_taken s n p j (omega arith))
        ∙ sym (after_append d (calls_before d own j) (calls_in d own j))

    inboxes_are : (j : ℕ) → j < m → j < rounds_taken s p → inbox_at (run_of s n m) p j ≡ own_inbox s p j
    inboxes_are j inside h =
        ap₂ taken_inbox (records_are j (omega arith) (omega arith)) (calls_are j inside ∙ padded_taken s n p j h)

    -- in every round of the run what p does of its own is one round, taken or not
    round_is : (j : ℕ) → j ≤ m → OneRound (record_at (run_of s n m) p j) (own_calls s p j) (ltb j (rounds_taken s p))
    round_is j inside = elim (dec_le j (rounds_taken s p)) [
      | yes h ↦ rw (records_are j inside h) (one_round (start_record s p) (calls_of p s.events) j)
      | no h ↦
          rw (no_calls (start_record s p) (calls_of p s.events) j (omega arith))
          (le-ltb j (rounds_taken s p) (omega arith))
    ]

    padded_is : (j : ℕ) → j ≤ m → Padded n (record_at (run_of s n m) p j) (padded_calls s n p j)
    padded_is j inside =
        padded n (record_at (run_of s n m) p j) (own_calls s p j) (ltb j (rounds_taken s p)) (round_is j inside)

    whole_is : (j : ℕ) → j < m → Unspent n (record_at (run_of s n m) p j) → Whole n (calls (run_of s n m) p j)
    whole_is j inside u =
        rw (calls_are j inside)
        (whole_round n (record_at (run_of s n m) p j) (padded_calls s n p j) u (padded_is j (omega arith)))

    -- in a round that p did not take in the schedule nothing is heard
    nothing_heard : (j : ℕ) → rounds_taken s p ≤ j → (inbox : List ℕ) → inbox_at (run_of s n m) p j ≡ some inbox
        → inbox ≡ empty_inbox n
    unfolding taken_inbox
    nothing_heard j h inbox e =
        let inside : j < m = omega (arith, taken_inside (run_of s n m) p j inbox e, rounds_length s n m) in
        let d = record_at (run_of s n m) p j in
        let unended = rw (le-ltb j (rounds_taken s p) h) at (round_is j (omega arith)) in
        go (is_accepted (take_of d (empty_inbox n)))
        (sym (open_inbox d (own_calls s p j) (take_round (empty_inbox n) ∷ []) unended)
        ∙ sym (ap (taken_inbox d) (calls_are j inside ∙ padded_open s n p j h))
        ∙ e)
      where
        go : (b : Bool) → cond b (some (empty_inbox n)) none ≡ some inbox → inbox ≡ empty_inbox n
        go true h = cc
        go false h = absurd (none-ne-some _ h)

    -- what p wrote in its own round it writes in that round of the run
    wrote_in_run : (j : ℕ) → j < m → (w : List ℕ) → OwnWrote s p j w
        → Wrote (record_at (run_of s n m) p j) (calls (run_of s n m) p j) w
    wrote_in_run j inside w h = elim (dec_le j (rounds_taken s p)) [
      | yes l ↦
          rw (calls_are j inside, records_are j (omega arith) l)
          (wrote_append (own_record s p j) (own_calls s p j) (cond (ltb j (rounds_taken s p)) []
          (take_round (empty_inbox n) ∷ [])) w h)
      | no l ↦
          absurd (subst (λ cs. Wrote (own_record s p j) cs w)
          (no_calls (start_record s p) (calls_of p s.events) j (omega arith)) h)
    ]

-- An inbox that p took in its round j stands in a take of the schedule.

record Taking (s : Schedule) (p j : ℕ) (inbox : List ℕ) : Type 0 where
  before : List Event
  takes : TakesAfter s before p inbox
  round : rounds_taken (up_to s before) p ≡ j
  on_record : record_after (up_to s before) p ≡ own_record s p j

taking : (s : Schedule) (p j : ℕ) (inbox : List ℕ) → own_inbox s p j ≡ some inbox → Taking s p j inbox
taking s p j inbox e =
    let d = start_record s p in
    let t = taken_at d (calls_of p s.events) j inbox e in
    let u = stands_at_lem p s.events t.before (take_round inbox) t.later t.stands in
    let on_record = ap (after_calls d) u.mine ∙ t.on_record in
    record {
      before = u.before;
      takes = record {
        later = u.later;
        stands = u.stands;
        is_accepted = rw on_record t.is_accepted;
      };
      round = ap (rounds_in d) u.mine ∙ t.round;
      on_record = on_record;
    }

-- The premises of the run of m rounds.

module _ (s : Schedule) (crew : Crew) (run : ℕ) (pre : SchedulePremises s crew run) where
  abbrev n : ℕ
  n = crew.n

  -- an honest node's number is below n: the list of no rounds says so already
  honest_in : (p : ℕ) → T (is_honest s p) → p < n
  honest_in p h = honest_below no_list crew run no_rounds p h
    where
      no_list : Execution
      no_list = record { starts = s.starts; rounds = [] }

      nothing : (p j : ℕ) (inbox : List ℕ) → inbox_at no_list p j ≡ some inbox → ⊥
      nothing p j inbox e = omega (arith, taken_inside no_list p j inbox e)

      no_rounds : Premises no_list crew run
      no_rounds = record {
        typed = pre.typed;
        crew_accepted = pre.crew_accepted;
        one_crew = pre.one_crew;
        distinct = pre.distinct;
        few = pre.few;
        whole = λ p j h inside early. absurd (omega arith);
        bytes = λ p j h inbox e. absurd (nothing p j inbox e);
        slots = λ p q j hp hq inbox b hears. absurd (nothing p j inbox hears.0);
      }

  module _ (m : ℕ) where
    inside_list : (p j : ℕ) (inbox : List ℕ) → inbox_at (run_of s n m) p j ≡ some inbox → j < m
    inside_list p j inbox e = omega (arith, taken_inside (run_of s n m) p j inbox e, rounds_length s n m)

    bytes_in : (p j : ℕ) → T (is_honest s p) → (inbox : List ℕ) → inbox_at (run_of s n m) p j ≡ some inbox
        → AreBytes inbox
    bytes_in p j h inbox e = elim (dec_lt j (rounds_taken s p)) [
      | yes took ↦
          let inside = inside_list p j inbox e in
          let t = taking s p j inbox (sym (inboxes_are s n p h (honest_in p h) m j inside took) ∙ e) in
          pre.bytes p h t.before inbox t.takes
      | no over ↦
          rw (nothing_heard s n p h (honest_in p h) m j (omega arith) inbox e) (empty_bytes n)
    ]

    slots_in_lem : (p q j : ℕ) → T (is_honest s p) → T (is_honest s q) → (inbox : List ℕ) (b : Ballot)
        → Hears (run_of s n m) p j q inbox b
        → (written : List ℕ) × (rest : List ℕ)
        × Wrote (record_at (run_of s n m) q j) (calls (run_of s n m) q j) written
        × (slot_at inbox q ≡ written ++ rest)
    slots_in_lem p q j hp hq inbox b hears = elim (dec_lt j (rounds_taken s p)) [
      | yes took ↦
          let inside = inside_list p j inbox hears.0 in
          let below = honest_in p hp in
          let t = taking s p j inbox (sym (inboxes_are s n p hp below m j inside took) ∙ hears.0) in
          let same = t.on_record ∙ sym (records_are s n p hp below m j (omega arith) (omega arith)) in
          let h =
          pre.slots p q hp hq t.before inbox b t.takes (ap (λ d. ballot_at d inbox q) same ∙ hears.1) in
          let wrote =
          wrote_all s t.before (on p (take_round inbox) ∷ t.takes.later) t.takes.stands q j h.0
          (subst (λ i. OwnWrote (up_to s t.before) q i h.0) t.round h.2) in
          (h.0, h.1, wrote_in_run s n q hq (honest_in q hq) m j inside h.0 wrote, h.3)
      | no over ↦
          let lost = nothing_heard s n p hp (honest_in p hp) m j (omega arith) inbox hears.0 in
          absurd (none-ne-some _ (sym (nothing_counts (record_at (run_of s n m) p j) n q)
          ∙ ap (λ x. ballot_at (record_at (run_of s n m) p j) x q) (sym lost) ∙ hears.1))
    ]

    -- all that is asked but whole rounds; these are given
    premises_from : ((p j : ℕ) → T (is_honest s p) → j < m → Early crew j → Whole n (calls (run_of s n m) p j))
        → Premises (run_of s n m) crew run
    premises_from whole = record {
      typed = pre.typed;
      crew_accepted = pre.crew_accepted;
      one_crew = pre.one_crew;
      distinct = pre.distinct;
      few = pre.few;
      whole = λ p j h inside early. whole p j h (omega (arith, rounds_length s n m)) early;
      bytes = bytes_in;
      slots = slots_in_lem;
    }

  -- Round after round: the run of m rounds meets the premises, so by demand 3 its records are unspent in round m, where
  -- that is early, and round m is whole too.

  same_records : (m k p j : ℕ) → T (is_honest s p) → j ≤ m → j ≤ k
      → record_at (run_of s n m) p j ≡ record_at (run_of s n k) p j
  unfolding record_at
  same_records m k p zero h l r = refl
  same_records m k p (suc j) h l r =
      ap₂ after_calls (same_records m k p j h (omega arith) (omega arith))
      (calls_are s n p h (honest_in p h) m j (omega arith)
      ∙ sym (calls_are s n p h (honest_in p h) k j (omega arith)))

  run_premises : (m : ℕ) → Premises (run_of s n m) crew run
  run_premises zero = premises_from 0 (λ p j h inside early. absurd (omega arith))
  run_premises (suc m) =
      let so_far = demand3 (run_of s n m) crew run (run_premises m) in
      premises_from (suc m) (λ p j h inside early.
      let u = so_far.unspent p j h (omega (arith, rounds_length s n m)) early in
      whole_is s n p h (honest_in p h) (suc m) j inside
      (rw (same_records m (suc m) p j h (omega arith) (omega arith)) at u))

-- In each round the takes come last.

takes_last : (s : Schedule) (crew : Crew) (run : ℕ) → SchedulePremises s crew run
    → (m j : ℕ) → j < m → TakesLast s (run_of s crew.n m) j
takes_last s crew run pre m j inside = record {
  others = by_node s (λ p. all_but_last (padded_calls s n p j)) n;
  takes = by_node s (λ p. last_only (padded_calls s n p j)) n;
  parts = round_at_lem s n m j inside;
  takes_none = λ p h.
      let t = ends p h in
      ap (taken_inbox (record_at (run_of s n m) p j))
      (by_node_lem s (λ q. all_but_last (padded_calls s n q j)) p n h (honest_in s crew run pre p h)
      ∙ (last_is_take n (record_at (run_of s n m) p j) (padded_calls s n p j) t).0)
      ∙ open_none (record_at (run_of s n m) p j) t.front t.unended;
  takes_one = λ p h.
      let t = ends p h in (
        t.inbox,
        by_node_lem s (λ q. last_only (padded_calls s n q j)) p n h (honest_in s crew run pre p h)
            ∙ (last_is_take n (record_at (run_of s n m) p j) (padded_calls s n p j) t).1,
      );
}
  where
    n : ℕ
    n = crew.n

    ends : (p : ℕ) → T (is_honest s p)
        → Padded crew.n (record_at (run_of s crew.n m) p j) (padded_calls s crew.n p j)
    ends p h = padded_is s crew.n p h (honest_in s crew run pre p h) m j (omega arith)

-- As many rounds as the fastest took.

at_most : (s : Schedule) (n p : ℕ) → T (is_honest s p) → p < n → rounds_taken s p ≤ most_rounds s n
unfolding most_rounds
at_most s zero p h l = absurd (omega arith)
at_most s (suc n) p h l = elim (ℕ_discrete n p) [
  | yes e ↦ omega (arith, its_own (is_honest s p) h, ap (λ q. cond (is_honest s q) (rounds_taken s q) 0) e)
  | no e ↦ omega (arith, at_most s n p h (omega arith))
]
  where
    its_own : (b : Bool) → T b → cond b (rounds_taken s p) 0 ≡ rounds_taken s p
    its_own true t = refl
    its_own false t = absurd t

no_more : (s : Schedule) (n m : ℕ) → ((p : ℕ) → T (is_honest s p) → rounds_taken s p ≤ m) → most_rounds s n ≤ m
unfolding most_rounds
no_more s zero m h = omega arith
no_more s (suc p) m h = omega (arith, no_more s p m h, one (is_honest s p) (h p))
  where
    one : (b : Bool) → (T b → rounds_taken s p ≤ m) → cond b (rounds_taken s p) 0 ≤ m
    one true k = k tt
    one false k = omega arith

pub lock_step_lem : LockStep
lock_step_lem s crew run pre = record {
  starts = refl;
  premises = run_premises s crew run pre m;
  takes_last = λ j l. takes_last s crew run pre m j (omega (arith, rounds_length s n m));
  long = λ p h. omega (arith, ample p h, rounds_length s n m);
  no_longer = λ k h. omega (arith, no_more s n k h, rounds_length s n m);
  last = λ p h.
      records_are s n p h (inside p h) m (rounds_taken s p) (omega (arith, ample p h)) (omega arith)
      ∙ last_record (start_record s p) (calls_of p s.events);
  records = λ p j h l. records_are s n p h (inside p h) m j (omega (arith, ample p h)) l;
  inboxes = λ p j h l. inboxes_are s n p h (inside p h) m j (omega (arith, ample p h)) l;
  losses = λ p j h l inbox e. nothing_heard s n p h (inside p h) m j l inbox e;
  calls = λ p h.
      let left = most_rounds s n - rounds_taken s p in
      let more : suc left ≡ length (first_rounds s n m) - rounds_taken s p =
      omega (arith, ample p h, rounds_length s n m) in
      kept_after s n p h (inside p h) left (most_rounds s n) (omega (arith, ample p h))
      ∙ ap (λ i. calls_of p s.events ++ replicate i (take_round (empty_inbox n))) more;
}
  where
    n : ℕ
    n = crew.n

    m : ℕ
    m = rounds_in_step s crew.n

    inside : (p : ℕ) → T (is_honest s p) → p < crew.n
    inside = honest_in s crew run pre

    ample : (p : ℕ) → T (is_honest s p) → rounds_taken s p ≤ most_rounds s crew.n
    ample p h = at_most s crew.n p h (inside p h)
