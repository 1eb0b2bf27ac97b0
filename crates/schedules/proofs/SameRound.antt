-- A message of another round does not count. 02 asks that what counts was written before it is taken; the premises of
-- a schedule say, in its sender's round of that number. Nothing is lost by it: the bytes of another round have another
-- phase or another kind, so the premises follow from 02's words alone.
use mathlib.Core.Path.{◌≡◌, refl, sym, ap, ap₂, ◌∙◌, subst}
use mathlib.Core.Bool.{Bool, true, false, ◌&&◌}
use mathlib.Core.List.{List, [], ◌∷◌, ◌++◌, append-nil, append_assoc}
use mathlib.Core.List.{head-eq_of_cons-eq, tail-eq_of_cons-eq}
use mathlib.Core.Logic.{◌⊎◌, inl, inr}
use mathlib.Core.Option.{some}
use Prim.Native.Nat.{ℕ, ◌≤◌, ◌<◌}
use native.Mathlib.Omega.{arith}
use native.Mathlib.Decide.{dec_lt, dec_le}
use lib.ListN.{length}
use lib.Dec.{T, ltb, eqb}
use borrow.Author.Tests.{eqb-true}
use Rattle.wire.specs.Sizes.{spent_phase}
use Rattle.wire.specs.Outcome.{is_accepted}
use Rattle.wire.proofs.Tests.{both_true}
use Rattle.crew.specs.declared.Crew.{Crew}
use Rattle.message.specs.Fields.{Message}
use Rattle.message.specs.Encoding.{kind_of}
use Rattle.ballot.specs.Ballot.{Ballot}
use Rattle.node.specs.declared.Node.{Node}
use Rattle.node.proofs.Coming.{Says, selects, confirms, decides}
use Rattle.node.proofs.Facts.{Typed}
use Rattle.node.proofs.SendLaws.{write_accepted}
use Rattle.inbox.specs.Inbox.{slot_at, is_of, ballot_at}
use Rattle.rounds.specs.Taking.{take_of}
use Rattle.agreement.specs.Statement.{Call, Event, write, ask, take_round, Execution, after_call, calls_of, Puts, Wrote}
use Rattle.agreement.specs.Statement.{phase_if, round_if, phase_at, round_at, Conclusions}
use Rattle.agreement.proofs.Demand.{demand3}
use Rattle.agreement.proofs.Simulation.{follows}
use Rattle.agreement.proofs.Written.{Heard, slot_heard}
use Rattle.schedules.specs.Schedule.{Schedule, on, up_to, is_honest, start_record, record_after, rounds_taken}
use Rattle.schedules.specs.Schedule.{own_calls, own_record, OwnWrote, TakesAfter, SchedulePremises, WrittenBefore}
use Rattle.schedules.specs.Schedule.{SameRound, lock_step, InLockStep}
use Rattle.schedules.proofs.Rounds.{leaves, OneRound, one_round, no_calls, last_record}
use Rattle.schedules.proofs.Events.{nothing_there}
use Rattle.schedules.proofs.LockStep.{lock_step_lem}

-- all writes of a round are made on the record with which it begins
round_wrote : (d : Node) (cs : List Call) (taken : Bool) (w : List ℕ) → OneRound d cs taken → Wrote d cs w
    → (buffer : List ℕ) × Puts d (write buffer) w
round_wrote d [] taken w h wrote = absurd wrote
round_wrote d (write buffer ∷ cs) taken w h (inl puts) = (buffer, puts)
round_wrote d (ask inbox ∷ cs) taken w h (inl puts) = absurd puts
round_wrote d (take_round inbox ∷ cs) taken w h (inl puts) = absurd puts
round_wrote d (c ∷ cs) taken w (inl h) (inr wrote) =
    absurd (subst (λ rest. Wrote (after_call d c) rest w) h.1 wrote)
round_wrote d (c ∷ cs) taken w (inr h) (inr wrote) =
    let onward = round_wrote (after_call d c) cs taken w h.1 wrote in
    (onward.0, subst (λ e. Puts e (write onward.0) w) (leaves d c h.0) onward.1)

-- what a message says of its place is the record's
says_place : {d : Node} {m : Message} → Says d m → (m.phase ≡ d.phase) × (kind_of m.body ≡ d.round)
says_place (selects one) = (refl, sym one)
says_place (confirms two turn plan) = (refl, sym two)
says_place (decides three) = (refl, sym three)

-- a message that counts is of the coming round
counted_place : (run phase round : ℕ) (m : Message) → is_of run phase round m ≡ true
    → (m.phase ≡ phase) × (kind_of m.body ≡ round)
counted_place run phase round m h =
    let both = both_true (eqb m.run run && eqb (kind_of m.body) round) (eqb m.phase phase) h in
    let first = both_true (eqb m.run run) (eqb (kind_of m.body) round) both.0 in
    (eqb-true _ _ both.1, eqb-true _ _ first.1)

-- a ballot that counts for a record comes from a record in the same place
heard_place : (writer reader : Node) (m : Ballot) → Heard writer reader m
    → (writer.phase ≡ reader.phase) × (writer.round ≡ reader.round)
heard_place writer reader m heard =
    let said = says_place heard.says in
    let place = counted_place reader.run reader.phase reader.round heard.message heard.counts in
    (sym said.0 ∙ place.0, sym said.1 ∙ place.1)

-- two rounds with one phase and number are one round
one_place : (crew : Crew) (i j : ℕ) → phase_at crew i ≡ phase_at crew j → round_at crew i ≡ round_at crew j → i ≡ j
one_place crew i j = go (eqb crew.class 1)
  where
    go : (first : Bool) → phase_if first i ≡ phase_if first j → round_if first i ≡ round_if first j → i ≡ j
    go true p r = omega arith
    go false p r = omega arith

module _ (s : Schedule) (crew : Crew) (run : ℕ) (pre : SchedulePremises s crew run) where
  abbrev list : Execution
  list = lock_step s crew.n

  in_step : InLockStep s crew run list
  in_step = lock_step_lem s crew run pre

  concludes : Conclusions list crew
  concludes = demand3 list crew run in_step.premises

  -- a record that is not spent stands at its round's place
  place_is : (p j : ℕ) → T (is_honest s p) → j ≤ rounds_taken s p → (own_record s p j).phase < spent_phase
      → ((own_record s p j).phase ≡ phase_at crew j) × ((own_record s p j).round ≡ round_at crew j)
  place_is p j h l left =
      let same = in_step.records p j h l in
      let inside = in_step.long p h in
      elim (dec_lt (phase_at crew j) spent_phase) [
        | yes early ↦
            let at = concludes.places p j h (omega arith) early in
            (sym (ap (λ (d : Node). d.phase) same) ∙ at.0, sym (ap (λ (d : Node). d.round) same) ∙ at.1)
        | no late ↦
            let gone = (concludes.spent p j h (omega arith) (omega arith)).0.phase in
            absurd (omega (arith, gone, ap (λ (d : Node). d.phase) same))
      ]

  -- After a schedule that meets the premises, let a slot of q count for p that begins with bytes which q wrote in any
  -- round of its own: that round has the number of the round that p is in.
  pub same_round : (p q : ℕ) → T (is_honest s p) → T (is_honest s q) → (inbox : List ℕ) (b : Ballot)
      → ballot_at (record_after s p) inbox q ≡ some b
      → (i : ℕ) (w rest : List ℕ) → OwnWrote s q i w → slot_at inbox q ≡ w ++ rest → i ≡ rounds_taken s p
  same_round p q hp hq inbox b counts i w rest wrote slot = elim (dec_le i (rounds_taken s q)) [
    | no over ↦
        absurd (subst (λ cs. Wrote (own_record s q i) cs w)
        (no_calls (start_record s q) (calls_of q s.events) i (omega arith)) wrote)
    | yes l ↦
        let d = own_record s q i in
        let round = one_round (start_record s q) (calls_of q s.events) i in
        let made = round_wrote d (own_calls s q i) (ltb i (rounds_taken s q)) w round wrote in
        let heard = slot_heard d (record_after s p) inbox made.0 w rest q b (typed l) made.1 slot counts in
        let here = heard_place d (record_after s p) b heard in
        let left = (write_accepted d made.0 (length w) made.1.0).1 in
        let mine = place_is q i hq l left in
        let end = last_record (start_record s p) (calls_of p s.events) in
        let still : (own_record s p (rounds_taken s p)).phase < spent_phase =
        omega (arith, left, here.0, ap (λ (x : Node). x.phase) end) in
        let theirs = place_is p (rounds_taken s p) hp (omega arith) still in
        one_place crew i (rounds_taken s p)
        (sym mine.0 ∙ here.0 ∙ sym (ap (λ (x : Node). x.phase) end) ∙ theirs.0)
        (sym mine.1 ∙ here.1 ∙ sym (ap (λ (x : Node). x.round) end) ∙ theirs.1)
  ]
    where
      typed : i ≤ rounds_taken s q → Typed (own_record s q i)
      typed l =
          let inside = in_step.long q hq in
          subst Typed (in_step.records q i hq l)
          (follows list crew run in_step.premises q i hq (omega arith)).typed

-- what stands in a list with x at its end is x, or stands before it
last_or_before : (before : List Event) (x : Event) (earlier : List Event) (y : Event) (later : List Event)
    → before ++ (x ∷ []) ≡ earlier ++ (y ∷ later)
    → ((before ≡ earlier) × (x ≡ y)) ⊎ ((between : List Event) × (before ≡ earlier ++ (y ∷ between)))
last_or_before [] x [] y later h = inl (refl, head-eq_of_cons-eq h)
last_or_before [] x (z ∷ earlier) y later h = absurd (nothing_there earlier y later (tail-eq_of_cons-eq h))
last_or_before (z ∷ before) x [] y later h = inr (before, ap (λ e. e ∷ before) (head-eq_of_cons-eq h))
last_or_before (z ∷ before) x (w ∷ earlier) y later h =
    let same = head-eq_of_cons-eq h in
    elim (last_or_before before x earlier y later (tail-eq_of_cons-eq h)) [
      | inl k ↦ inl (ap₂ (λ e es. e ∷ es) same k.0, k.1)
      | inr k ↦ inr (k.0, ap₂ (λ e es. e ∷ es) same k.1)
    ]

module _ (s : Schedule) (crew : Crew) (run : ℕ) (pre : WrittenBefore s crew run) where
  -- one event more, in a schedule that meets the premises so far
  one_more : (before : List Event) (x : Event) (later : List Event) → s.events ≡ before ++ (x ∷ later)
      → SchedulePremises (up_to s before) crew run → SchedulePremises (up_to s (before ++ (x ∷ []))) crew run
  one_more before x later stands so_far = record {
    typed = so_far.typed;
    crew_accepted = so_far.crew_accepted;
    one_crew = so_far.one_crew;
    distinct = so_far.distinct;
    few = so_far.few;
    bytes = λ p h earlier inbox t. elim (where_is p earlier inbox t) [
      | inl k ↦ pre.bytes p h earlier inbox (last_take p earlier inbox k t.is_accepted)
      | inr k ↦
          so_far.bytes p h earlier inbox (record { later = k.0; stands = k.1; is_accepted = t.is_accepted })
    ];
    slots = λ p q hp hq earlier inbox m t counts. elim (where_is p earlier inbox t) [
      | inl k ↦
          let w = pre.slots p q hp hq earlier inbox m (last_take p earlier inbox k t.is_accepted) counts in
          let then = subst (λ es. SchedulePremises (up_to s es) crew run) k.0 so_far in
          let same =
          same_round (up_to s earlier) crew run then p q hp hq inbox m counts w.0 w.1 w.2 w.3 w.4 in
          (w.1, w.2, subst (λ j. OwnWrote (up_to s earlier) q j w.1) same w.3, w.4)
      | inr k ↦
          so_far.slots p q hp hq earlier inbox m
          (record { later = k.0; stands = k.1; is_accepted = t.is_accepted }) counts
    ];
  }
    where
      where_is : (p : ℕ) (earlier : List Event) (inbox : List ℕ)
          → TakesAfter (up_to s (before ++ (x ∷ []))) earlier p inbox
          → ((before ≡ earlier) × (x ≡ on p (take_round inbox)))
          ⊎ ((between : List Event) × (before ≡ earlier ++ (on p (take_round inbox) ∷ between)))
      where_is p earlier inbox t =
          last_or_before before x earlier (on p (take_round inbox)) t.later t.stands

      last_take : (p : ℕ) (earlier : List Event) (inbox : List ℕ) → (before ≡ earlier) × (x ≡ on p (take_round inbox))
          → T (is_accepted (take_of (record_after (up_to s earlier) p) inbox)) → TakesAfter s earlier p inbox
      last_take p earlier inbox k accepts = record {
        later = later;
        stands = stands ∙ ap₂ (λ es y. es ++ (y ∷ later)) k.0 k.1;
        is_accepted = accepts;
      }

  onward : (before later : List Event) → s.events ≡ before ++ later → SchedulePremises (up_to s before) crew run
      → SchedulePremises s crew run
  onward before [] stands so_far =
      subst (λ es. SchedulePremises (up_to s es) crew run) (sym (stands ∙ append-nil before)) so_far
  onward before (x ∷ later) stands so_far =
      onward (before ++ (x ∷ [])) later (stands ∙ sym (append_assoc before (x ∷ []) later))
      (one_more before x later stands so_far)

pub written_before : SameRound
written_before s crew run pre = onward s crew run pre [] s.events refl pre.begun
