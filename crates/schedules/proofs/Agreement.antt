-- What demand 3 says of results, agreement and common start in a schedule's lock-step run, it says of the schedule:
-- `OutOfStep` of specs/Schedule.
use mathlib.Core.Path.{◌≡◌, sym, ap, ◌∙◌, subst}
use mathlib.Core.Bool.{Bool}
use mathlib.Core.List.{List}
use mathlib.Core.Logic.{◌⊎◌, inl, inr, ◌↔◌}
use mathlib.Core.Option.{some, none-ne-some}
use Prim.Native.Nat.{ℕ, ◌≤◌, ◌<◌}
use native.Mathlib.Omega.{arith}
use native.Mathlib.Decide.{dec_lt}
use lib.ListN.{length, length-take}
use lib.Dec.{T, ltb}
use Rattle.wire.specs.Sizes.{spent_phase}
use Rattle.wire.specs.Outcome.{accepted, is_accepted}
use Rattle.crew.specs.declared.Crew.{Crew}
use Rattle.crew.specs.Acceptance.{accept_of}
use Rattle.crew.proofs.Facts.{accepts, quorum_positive}
use Rattle.ballot.specs.Count.{tally, holds}
use Rattle.ballot.proofs.Counting.{tally_le, tally_none, nobody_of}
use Rattle.node.specs.declared.Node.{Node}
use Rattle.inbox.specs.Inbox.{ballot_at}
use Rattle.agreement.specs.Statement as demand
use Rattle.agreement.specs.Statement.{Execution, answer_to, made, numbered, calls_of, record_at, inbox_at, phase_at}
use Rattle.agreement.specs.Statement.{Every}
use Rattle.agreement.specs.Statement.{is_for, AnyWin, FirstWin, Conclusions}
use Rattle.agreement.proofs.Calls.{taken_inside}
use Rattle.agreement.proofs.Demand.{demand3}
use Rattle.agreement.proofs.Prefix.{cut, record_same, inbox_same, after_every_round}
use Rattle.schedules.specs.Schedule.{Schedule, is_honest, start_record, record_after, rounds_taken, own_record}
use Rattle.schedules.specs.Schedule.{own_inbox, empty_inbox, lock_step, InLockStep, Wins, Decided, PlanDecided}
use Rattle.schedules.specs.Schedule.{standing, OutOfStep}
use Rattle.schedules.proofs.Rounds.{not_taken}
use Rattle.schedules.proofs.Empty.{nothing_counts}
use Rattle.schedules.proofs.LockStep.{lock_step_lem}

-- a round whose inbox was taken is one that the node took
took_round : (s : Schedule) (p j : ℕ) (inbox : List ℕ) → own_inbox s p j ≡ some inbox → j < rounds_taken s p
took_round s p j inbox e = elim (dec_lt j (rounds_taken s p)) [
  | yes took ↦ took
  | no over ↦
      let nothing = not_taken (start_record s p) (calls_of p s.events) j (omega arith) in
      absurd (none-ne-some _ (sym nothing ∙ e))
]

-- Whatever wins, in whichever rounds.
module _ (wins : ℕ → ℕ → Type 0) where
  -- the plan that a node decided is one
  decided_once : {v w : ℕ} → FirstWin wins v → FirstWin wins w → v ≡ w
  decided_once {v} {w} a b = elim (dec_lt a.round b.round) [
    | yes l ↦ absurd (b.first a.round v l a.win)
    | no l ↦ elim (dec_lt b.round a.round) [
      | yes k ↦ absurd (a.first b.round w k b.win)
      | no k ↦
          let same : a.round ≡ b.round = omega arith in
          let low = a.least w (subst (λ j. wins j w) (sym same) b.win) in
          let high = b.least v (subst (λ j. wins j v) same a.win) in
          omega arith
    ]
  ]

  -- what is said of the result v of a node
  abbrev Stands : ℕ → Type 0
  Stands v = FirstWin wins v ⊎ ((AnyWin wins → ⊥) × (v ≡ 0))

  -- so two results of one node, of which that is said, are the same
  stands_once : {v w : ℕ} → Stands v → Stands w → v ≡ w
  stands_once (inl a) (inl b) = decided_once a b
  stands_once (inl a) (inr b) = absurd (b.0 (a.round, _, a.win))
  stands_once (inr a) (inl b) = absurd (a.0 (b.round, _, b.win))
  stands_once (inr a) (inr b) = a.1 ∙ sym b.1

-- A list in which p has the schedule's records and inboxes as long as it took rounds, and then hears nothing.
record Carries (s : Schedule) (n p : ℕ) (l : Execution) : Type 0 where
  records : (j : ℕ) → j ≤ rounds_taken s p → record_at l p j ≡ own_record s p j
  inboxes : (j : ℕ) → j < rounds_taken s p → inbox_at l p j ≡ own_inbox s p j
  losses : (j : ℕ) → rounds_taken s p ≤ j → (inbox : List ℕ) → inbox_at l p j ≡ some inbox → inbox ≡ empty_inbox n

-- In such a list p wins with what it wins with in the schedule.

module _ (s : Schedule) (crew : Crew) (ok : accept_of crew ≡ accepted tt) (p : ℕ) (l : Execution)
    (carries : Carries s crew.n p l) where
  abbrev Enough : ℕ → ℕ → List ℕ → Node → Type 0
  Enough j v inbox d =
      crew.d ≤ tally (λ q. holds (is_for crew (phase_at crew j) v) (ballot_at d inbox q)) crew.n

  wins_to : (j v : ℕ) → Wins s crew p j v → demand.Wins l crew p j v
  wins_to j v w =
      let took = took_round s p j w.1 w.2 in
      let same = carries.records j (omega arith) in
      (w.0, w.1, carries.inboxes j took ∙ w.2, subst (Enough j v w.1) (sym same) w.3)

  -- with an empty inbox nothing is won
  lost : (j v : ℕ) → rounds_taken s p ≤ j → demand.Wins l crew p j v → ⊥
  lost j v over w =
      let d = record_at l p j in
      let empty = carries.losses j over w.1 w.2 in
      omega (
        arith,
        quorum_positive (accepts crew ok).quorum,
        w.3,
        tally_none crew.n,
        tally_le (λ q. holds (is_for crew (phase_at crew j) v) (ballot_at d w.1 q)) nobody_of crew.n (λ q below t.
            subst (λ o. T (holds (is_for crew (phase_at crew j) v) o))
            (ap (λ x. ballot_at d x q) empty ∙ nothing_counts d crew.n q) t),
      )

  wins_from : (j v : ℕ) → demand.Wins l crew p j v → Wins s crew p j v
  wins_from j v w = elim (dec_lt j (rounds_taken s p)) [
    | yes took ↦
        let same = carries.records j (omega arith) in
        (w.0, w.1, sym (carries.inboxes j took) ∙ w.2, subst (Enough j v w.1) same w.3)
    | no over ↦ absurd (lost j v (omega arith) w)
  ]

  decided_to : Decided s crew p → demand.Decided l crew p
  decided_to d = (d.0, d.1, wins_to d.0 d.1 d.2)

  decided_from : demand.Decided l crew p → Decided s crew p
  decided_from d = (d.0, d.1, wins_from d.0 d.1 d.2)

  plan_to : (v : ℕ) → PlanDecided s crew p v → demand.PlanDecided l crew p v
  plan_to v d = record {
    round = d.round;
    win = wins_to d.round v d.win;
    least = λ w x. d.least w (wins_from d.round w x);
    first = λ i w before x. d.first i w before (wins_from i w x);
  }

  plan_from : (v : ℕ) → demand.PlanDecided l crew p v → PlanDecided s crew p v
  plan_from v d = record {
    round = d.round;
    win = wins_from d.round v d.win;
    least = λ w x. d.least w (wins_to d.round w x);
    first = λ i w before x. d.first i w before (wins_to i w x);
  }

  -- what demand 3 says of a result in the list, it says in the schedule
  result_from_lem : (v : ℕ) → demand.PlanDecided l crew p v ⊎ ((demand.Decided l crew p → ⊥) × (v ≡ 0))
      → Stands (Wins s crew p) v
  result_from_lem v (inl d) = inl (plan_from v d)
  result_from_lem v (inr d) = inr (λ x. d.0 (decided_to x), d.1)

-- From the run and demand 3 alone: all that is known of the list is that it is a lock-step run of the schedule.

module _ (s : Schedule) (crew : Crew) (run : ℕ) (l : Execution) (in_step : InLockStep s crew run l) where
  abbrev ok : accept_of crew ≡ accepted tt
  ok = in_step.premises.crew_accepted

  honest_in : (p : ℕ) → T (is_honest s p) → T (demand.honest l p)
  honest_in p h = subst (λ starts. T (ltb 0 (numbered p (made starts)))) (sym in_step.starts) h

  run_carries : (p : ℕ) → T (is_honest s p) → Carries s crew.n p l
  run_carries p h = record {
    records = λ j. in_step.records p j h;
    inboxes = λ j. in_step.inboxes p j h;
    losses = λ j. in_step.losses p j h;
  }

  -- demand 3 of the run
  concludes : Conclusions l crew
  concludes = demand3 l crew run in_step.premises

  -- The result of p: demand 3 of the run cut short after the rounds that p took, where it has the record of p.
  result : (p : ℕ) → T (is_honest s p) → Stands (Wins s crew p) (standing s p)
  result p h =
      subst (Stands (Wins s crew p)) (ap (λ (d : Node). d.result) end)
      (result_from_lem s crew ok p short short_carries (demand.standing short p)
      ((after_every_round l crew run in_step.premises m).result p (honest_in p h)))
    where
      m : ℕ
      m = rounds_taken s p

      short : Execution
      short = cut m l

      m_rounds : length short.rounds ≡ m
      m_rounds = omega (arith, length-take m l.rounds, in_step.long p h)

      short_carries : Carries s crew.n p short
      short_carries = record {
        records = λ j inside. record_same l m p j inside ∙ in_step.records p j h inside;
        inboxes = λ j inside. inbox_same l m p j inside ∙ in_step.inboxes p j h inside;
        losses = λ j over inbox e. absurd (omega (arith, taken_inside short p j inbox e, m_rounds));
      }

      end : record_at short p (length short.rounds) ≡ record_after s p
      end = ap (record_at short p) m_rounds ∙ record_same l m p m (omega arith) ∙ in_step.last p h

  -- so a node's result stays what it is in the rounds that others took and it did not
  same_standing : (p : ℕ) (h : T (is_honest s p)) → demand.standing l p ≡ standing s p
  same_standing p h =
      stands_once (Wins s crew p)
      (result_from_lem s crew ok p l (run_carries p h) (demand.standing l p) (concludes.result p (honest_in p h)))
      (result p h)

  agreement : (p q : ℕ) → T (is_honest s p) → T (is_honest s q)
      → (standing s p ≡ standing s q) ↔ (Decided s crew p ↔ Decided s crew q)
  agreement p q hp hq = (
    λ e.
        let both = agree.0 (same_standing p hp ∙ e ∙ sym (same_standing q hq)) in
        (λ d. q_from (both.0 (p_to d)), λ d. p_from (both.1 (q_to d))),
    λ both.
        sym (same_standing p hp)
        ∙ agree.1 (λ d. q_to (both.0 (p_from d)), λ d. p_to (both.1 (q_from d)))
        ∙ same_standing q hq,
  )
    where
      agree : (demand.standing l p ≡ demand.standing l q) ↔ (demand.Decided l crew p ↔ demand.Decided l crew q)
      agree = concludes.agreement p q (honest_in p hp) (honest_in q hq)

      p_to : Decided s crew p → demand.Decided l crew p
      p_to = decided_to s crew ok p l (run_carries p hp)

      p_from : demand.Decided l crew p → Decided s crew p
      p_from = decided_from s crew ok p l (run_carries p hp)

      q_to : Decided s crew q → demand.Decided l crew q
      q_to = decided_to s crew ok q l (run_carries q hq)

      q_from : demand.Decided l crew q → Decided s crew q
      q_from = decided_from s crew ok q l (run_carries q hq)

  common_start : (v : ℕ) → Every (λ x. T (is_accepted (answer_to x)) → x.plan ≡ v) s.starts
      → (p w : ℕ) → T (is_honest s p) → PlanDecided s crew p w → w ≡ v
  common_start v each p w h d =
      concludes.common_start v
      (subst (Every (λ x. T (is_accepted (answer_to x)) → x.plan ≡ v)) (sym in_step.starts) each)
      p w (honest_in p h) (plan_to s crew ok p l (run_carries p h) w d)

  -- Good phases, which 02 does not ask for: every node in the circle of a phase that is good in the run has decided.
  pub good_phase : (phase : ℕ) (circle : ℕ → Bool) → 1 ≤ phase → phase < spent_phase → demand.Good l crew phase circle
      → (p : ℕ) → T (circle p) → (j : ℕ) × (v : ℕ) × (phase_at crew j ≤ phase) × Wins s crew p j v
  good_phase phase circle from early good p inside =
      let h = subst (λ starts. T (ltb 0 (numbered p (made starts)))) in_step.starts (good.inside p inside) in
      let won = concludes.good_phase phase circle from early good p inside in
      (won.0, won.1, won.2, wins_from s crew ok p l (run_carries p h) won.0 won.1 won.3)

pub out_of_step_lem : OutOfStep
out_of_step_lem s crew run pre =
    let l = lock_step s crew.n in
    let in_step = lock_step_lem s crew run pre in
    record {
      result = result s crew run l in_step;
      agreement = agreement s crew run l in_step;
      common_start = common_start s crew run l in_step;
    }
