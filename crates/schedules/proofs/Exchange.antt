-- Two neighbouring steps of different nodes, neither of which takes what the other writes, can change places:
-- `Exchange` of specs/Schedule.
use mathlib.Core.Path.{◌≡◌, refl, sym, ap, ap₂, ◌∙◌, subst}
use mathlib.Core.List.{List, [], ◌∷◌, ◌++◌, append_assoc, head-eq_of_cons-eq, tail-eq_of_cons-eq}
use mathlib.Core.Logic.{inl, inr, ◌≢◌}
use mathlib.Core.Option.{some}
use Prim.Native.Nat.{ℕ}
use native.Mathlib.Decide.{ℕ_discrete}
use lib.Dec.{T}
use Rattle.wire.specs.Outcome.{is_accepted}
use Rattle.wire.specs.Bytes.{AreBytes}
use Rattle.crew.specs.declared.Crew.{Crew}
use Rattle.ballot.specs.Ballot.{Ballot}
use Rattle.inbox.specs.Inbox.{slot_at, ballot_at}
use Rattle.rounds.specs.Taking.{take_of}
use Rattle.agreement.specs.Statement.{take_round, Event, after_calls, calls_of, taken_inbox, Puts}
use Rattle.schedules.specs.Schedule.{Schedule, on, up_to, is_honest, start_record, record_after, rounds_in, calls_in}
use Rattle.schedules.specs.Schedule.{record_in, rounds_taken, OwnWrote, TakesAfter, SchedulePremises}
use Rattle.schedules.specs.Schedule.{TakesFrom, in_order, Exchange}
use Rattle.schedules.proofs.Rounds.{wrote_last}
use Rattle.schedules.proofs.Events.{calls_mine, calls_other, calls_append, calls_mine_last, calls_other_last}
use Rattle.schedules.proofs.Events.{wrote_all}

-- Two steps of different nodes: in either order every node has the same calls.

module _ (e f : Event) (apart : e.node ≢ f.node) where
  pair_same : (p : ℕ) (after : List Event) → calls_of p (e ∷ f ∷ after) ≡ calls_of p (f ∷ e ∷ after)
  pair_same p after = elim (ℕ_discrete e.node p) [
    | yes l ↦
        let r : f.node ≢ p = λ r. apart (l ∙ sym r) in
        calls_mine p e (f ∷ after) l
        ∙ ap (λ x. e.call ∷ x) (calls_other p f after r)
        ∙ sym (calls_mine p e after l)
        ∙ sym (calls_other p f (e ∷ after) r)
    | no l ↦ calls_other p e (f ∷ after) l ∙ onward l (ℕ_discrete f.node p)
  ]
    where
      onward : e.node ≢ p → Dec (f.node ≡ p) → calls_of p (f ∷ after) ≡ calls_of p (f ∷ e ∷ after)
      onward l (yes r) =
          calls_mine p f after r
          ∙ ap (λ x. f.call ∷ x) (sym (calls_other p e after l))
          ∙ sym (calls_mine p f (e ∷ after) r)
      onward l (no r) =
          calls_other p f after r ∙ sym (calls_other p e after l) ∙ sym (calls_other p f (e ∷ after) r)

  calls_same : (before after : List Event) (p : ℕ)
      → calls_of p (before ++ (e ∷ f ∷ after)) ≡ calls_of p (before ++ (f ∷ e ∷ after))
  calls_same before after p =
      calls_append p before (e ∷ f ∷ after)
      ∙ ap (λ x. calls_of p before ++ x) (pair_same p after)
      ∙ sym (calls_append p before (f ∷ e ∷ after))

-- Where an event stands in a list with f and then e in it.

data Place (before : List Event) (f e : Event) (after : List Event) (earlier : List Event) (x : Event)
    (later : List Event) : Type 0 where
  in_front : (between : List Event) → before ≡ earlier ++ (x ∷ between) → Place before f e after earlier x later
  at_first : before ≡ earlier → f ≡ x → Place before f e after earlier x later
  at_second : before ++ (f ∷ []) ≡ earlier → e ≡ x → Place before f e after earlier x later
  behind : (between : List Event) → before ++ (f ∷ e ∷ between) ≡ earlier → after ≡ between ++ (x ∷ later)
      → Place before f e after earlier x later

place : (before : List Event) (f e : Event) (after earlier : List Event) (x : Event) (later : List Event)
    → before ++ (f ∷ e ∷ after) ≡ earlier ++ (x ∷ later) → Place before f e after earlier x later
place [] f e after [] x later h = at_first refl (head-eq_of_cons-eq h)
place [] f e after (y ∷ []) x later h =
    at_second (ap (λ z. z ∷ []) (head-eq_of_cons-eq h)) (head-eq_of_cons-eq (tail-eq_of_cons-eq h))
place [] f e after (y ∷ z ∷ earlier) x later h =
    let rest = tail-eq_of_cons-eq h in
    behind earlier (ap₂ (λ a b. a ∷ b ∷ earlier) (head-eq_of_cons-eq h) (head-eq_of_cons-eq rest))
    (tail-eq_of_cons-eq rest)
place (y ∷ before) f e after [] x later h = in_front before (ap (λ z. z ∷ before) (head-eq_of_cons-eq h))
place (y ∷ before) f e after (z ∷ earlier) x later h =
    onward (head-eq_of_cons-eq h) (place before f e after earlier x later (tail-eq_of_cons-eq h))
  where
    onward : y ≡ z → Place before f e after earlier x later → Place (y ∷ before) f e after (z ∷ earlier) x later
    onward same (in_front between k) = in_front between (ap₂ (λ a l. a ∷ l) same k)
    onward same (at_first k l) = at_first (ap₂ (λ a l. a ∷ l) same k) l
    onward same (at_second k l) = at_second (ap₂ (λ a l. a ∷ l) same k) l
    onward same (behind between k l) = behind between (ap₂ (λ a l. a ∷ l) same k) l

-- What the premises ask of a call x that is made after these events.

module _ (s : Schedule) where
  abbrev Holds : List Event → ℕ → ℕ → List ℕ → Type 0
  Holds before q j inbox =
      (written : List ℕ) × (rest : List ℕ) × OwnWrote (up_to s before) q j written × (slot_at inbox q ≡ written ++ rest)

  abbrev Counts : List Event → ℕ → List ℕ → ℕ → Ballot → Type 0
  Counts before p inbox q m = ballot_at (record_after (up_to s before) p) inbox q ≡ some m

  abbrev Accepts : List Event → ℕ → List ℕ → Type 0
  Accepts before p inbox = T (is_accepted (take_of (record_after (up_to s before) p) inbox))

  abbrev Asked : List Event → Event → Type 0
  Asked before x =
      (inbox : List ℕ) → x.call ≡ take_round inbox → T (is_honest s x.node) → Accepts before x.node inbox
      → AreBytes inbox
      × ((q : ℕ) (m : Ballot) → T (is_honest s q) → Counts before x.node inbox q m
      → Holds before q (rounds_taken (up_to s before) x.node) inbox)

  asked : (all : List Event) (crew : Crew) (run : ℕ) → SchedulePremises (up_to s all) crew run
      → (before : List Event) (x : Event) (later : List Event) → all ≡ before ++ (x ∷ later) → Asked before x
  asked all crew run pre before x later stands inbox call honest accepts = (
    pre.bytes x.node honest before inbox take_of_x,
    λ q m hq counts. pre.slots x.node q honest hq before inbox m take_of_x counts,
  )
    where
      take_of_x : TakesAfter (up_to s all) before x.node inbox
      take_of_x = record {
        later = later;
        stands = stands ∙ ap (λ c. before ++ (on x.node c ∷ later)) call;
        is_accepted = accepts;
      }

  -- It is asked after other events too, if x's node made the same calls in them and what counts was written in them.
  carry : (before others : List Event) (x : Event) → calls_of x.node before ≡ calls_of x.node others
      → ((inbox : List ℕ) → x.call ≡ take_round inbox → Accepts others x.node inbox
      → (q : ℕ) (m : Ballot) → Counts others x.node inbox q m
      → Holds before q (rounds_taken (up_to s others) x.node) inbox
      → Holds others q (rounds_taken (up_to s others) x.node) inbox)
      → Asked before x → Asked others x
  carry before others x same wrote a inbox call honest accepts =
      let d = start_record s x.node in
      let records = ap (after_calls d) same in
      let there = a inbox call honest (rw records accepts) in (
        there.0,
        λ q m hq counts.
            wrote inbox call accepts q m counts
            (subst (λ j. Holds before q j inbox) (ap (rounds_in d) same)
            (there.1 q m hq (ap (λ r. ballot_at r inbox q) records ∙ counts))),
      )

  module _ (e f : Event) (apart : e.node ≢ f.node) (unused : TakesFrom s f e → ⊥) where
    -- f one step earlier: what counts had been written, unless it was e that wrote it
    before_e : Asked (s.events ++ (e ∷ [])) f → Asked s.events f
    before_e =
        carry (s.events ++ (e ∷ [])) s.events f (calls_other_last f.node s.events e apart) without_e
      where
        without_e : (inbox : List ℕ) → f.call ≡ take_round inbox → Accepts s.events f.node inbox
            → (q : ℕ) (m : Ballot) → Counts s.events f.node inbox q m
            → Holds (s.events ++ (e ∷ [])) q (rounds_taken s f.node) inbox
            → Holds s.events q (rounds_taken s f.node) inbox
        without_e inbox call accepts q m counts h = elim (ℕ_discrete e.node q) [
          | no other ↦ (h.0, h.1, rw (calls_other_last q s.events e other) at h.2, h.3)
          | yes own ↦
              elim (wrote_last (start_record s q) (calls_of q s.events) e.call (rounds_taken s f.node) h.0
              (rw (calls_mine_last q s.events e own) at h.2)) [
                | inl before ↦ (h.0, h.1, before, h.3)
                | inr by_e ↦
                    absurd (unused (record {
                      inbox = inbox;
                      is_take = call;
                      is_accepted = accepts;
                      message = m;
                      counts = rw own counts;
                      same_round = rw own by_e.0;
                      written = h.0;
                      rest = h.1;
                      puts = subst (λ x. Puts (record_after s x) e.call h.0) (sym own) by_e.1;
                      holds_it = rw own h.3;
                    }))
              ]
        ]

    -- e one step later: what counts has been written still
    after_f : Asked s.events e → Asked (s.events ++ (f ∷ [])) e
    after_f =
        carry s.events (s.events ++ (f ∷ [])) e
        (sym (calls_other_last e.node s.events f (λ x. apart (sym x))))
        (λ inbox call accepts q m counts h. (
          h.0,
          h.1,
          wrote_all (up_to s (s.events ++ (f ∷ []))) s.events (f ∷ []) refl q
              (rounds_taken (up_to s (s.events ++ (f ∷ []))) e.node) h.0 h.2,
          h.3,
        ))

    -- a call after both: every node has made the same calls
    after_both : (between : List Event) (x : Event)
        → Asked (s.events ++ (e ∷ f ∷ between)) x → Asked (s.events ++ (f ∷ e ∷ between)) x
    after_both between x =
        carry (s.events ++ (e ∷ f ∷ between)) (s.events ++ (f ∷ e ∷ between)) x
        (calls_same e f apart s.events between x.node)
        (λ inbox call accepts q m counts h.
        (h.0, h.1, rw (calls_same e f apart s.events between q) at h.2, h.3))

    module _ (after : List Event) (crew : Crew) (run : ℕ) (pre : SchedulePremises (in_order s e f after) crew run) where
      asked_then : (before : List Event) (x : Event) (later : List Event)
          → s.events ++ (e ∷ f ∷ after) ≡ before ++ (x ∷ later) → Asked before x
      asked_then = asked (s.events ++ (e ∷ f ∷ after)) crew run pre

      asked_now : (before : List Event) (x : Event) (later : List Event)
          → Place s.events f e after before x later → Asked before x
      asked_now before x later (in_front between k) =
          asked_then before x (between ++ (e ∷ f ∷ after))
          (ap (λ l. l ++ (e ∷ f ∷ after)) k ∙ append_assoc before (x ∷ between) (e ∷ f ∷ after))
      asked_now before x later (at_first k l) =
          rw (← k, ← l)
          (before_e (asked_then (s.events ++ (e ∷ [])) f after (sym (append_assoc s.events (e ∷ []) (f ∷ after)))))
      asked_now before x later (at_second k l) =
          rw (← k, ← l) (after_f (asked_then s.events e (f ∷ after) refl))
      asked_now before x later (behind between k l) =
          rw (← k) (after_both between x (asked_then (s.events ++ (e ∷ f ∷ between)) x later
          (ap (λ v. s.events ++ (e ∷ f ∷ v)) l
          ∙ sym (append_assoc s.events (e ∷ f ∷ between) (x ∷ later)))))

      other_order : SchedulePremises (in_order s f e after) crew run
      other_order = record {
        typed = pre.typed;
        crew_accepted = pre.crew_accepted;
        one_crew = pre.one_crew;
        distinct = pre.distinct;
        few = pre.few;
        bytes = λ p h before inbox t. (of_take p before inbox t h).0;
        slots = λ p q hp hq before inbox m t counts. (of_take p before inbox t hp).1 q m hq counts;
      }
        where
          of_take : (p : ℕ) (before : List Event) (inbox : List ℕ)
              → TakesAfter (in_order s f e after) before p inbox → T (is_honest s p)
              → AreBytes inbox
              × ((q : ℕ) (m : Ballot) → T (is_honest s q) → Counts before p inbox q m
              → Holds before q (rounds_taken (up_to s before) p) inbox)
          of_take p before inbox t hp =
              let x = on p (take_round inbox) in
              asked_now before x t.later (place s.events f e after before x t.later t.stands) inbox refl hp
              t.is_accepted

pub exchange : Exchange
exchange s e f after apart f_unused e_unused = record {
  records = λ p. ap (after_calls (start_record s p)) (same p);
  rounds = λ p. ap (rounds_in (start_record s p)) (same p);
  inboxes = λ p j.
      let d = start_record s p in
      ap (λ cs. taken_inbox (record_in d cs j) (calls_in d cs j)) (same p);
  premises = λ crew run. (
    other_order s e f apart f_unused after crew run,
    other_order s f e (λ x. apart (sym x)) e_unused after crew run,
  );
}
  where
    same : (p : ℕ) → calls_of p (s.events ++ (e ∷ f ∷ after)) ≡ calls_of p (s.events ++ (f ∷ e ∷ after))
    same = calls_same e f apart s.events after
