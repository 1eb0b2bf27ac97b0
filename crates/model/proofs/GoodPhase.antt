-- A good phase: its circle selects one plan, validates it in classes 2 and 3, and decides it. Stated of one phase,
-- whatever went before.
use mathlib.Core.Path.{◌≡◌, sym, ap, ◌∙◌}
use mathlib.Core.Bool.{Bool, ◌&&◌}
use mathlib.Core.List.{[]}
use mathlib.Core.Logic.{inl, inr, ◌≢◌}
use mathlib.Core.Option.{Option, none, some, some-injective}
use Prim.Native.Nat.{ℕ, ◌+◌, ◌-◌, ◌*◌, ◌≤◌, ◌<◌}
use native.Mathlib.Omega.{arith}
use lib.ListN.{get_or}
use lib.Dec.{T, eqb, lt→ltb}
use Rattle.wire.proofs.Tests.{tests, and_T, T_and}
use Rattle.wire.specs.Entry.{entries_from}
use Rattle.crew.specs.declared.Crew.{Crew}
use Rattle.crew.specs.Thresholds.{Class, one, two, three, any_above, valid_above}
use Rattle.crew.specs.Group.{validates}
use Rattle.ballot.specs.Count.{tally, count_if, holds}
use Rattle.ballot.specs.Ballot.{Ballot, inbox, votes, lists}
use Rattle.ballot.specs.Selection.{selection, taken}
use Rattle.ballot.specs.Validation.{validated}
use Rattle.ballot.specs.Decision.{fresh, decides}
use Rattle.ballot.proofs.Tests.{T-holds, turn_says}
use Rattle.ballot.proofs.Counting.{count_gather, tally_le, tally_meet, tally_not, tally_some, Same}
use Rattle.ballot.proofs.Selection.{Answers, taken_plan}
use Rattle.ballot.proofs.Slots.{same_vote, same_stamp, slot_counts, circle_passes}
use Rattle.ballot.proofs.Validation.{InTurn, valid_validated}
use Rattle.ballot.proofs.Decision.{Stamps, stamp_fresh}
use Rattle.ballot.proofs.Order.{taken_same}
use Rattle.ballot.proofs.Circle.{circle_counts, answers_one, answers_two, answers_three}
use Rattle.model.proofs.Voter.{Voter, Round, selecting, validating, deciding, round_number}
use Rattle.model.proofs.Engine.{Each, State, Inboxes, turned, step, saying, CanValidate}
use Rattle.model.proofs.Voters.{if_plan_is, confirms_is, lists_from}
use Rattle.model.proofs.Run.{at}
use Rattle.model.proofs.Invariant.{Invariant, listers}
use Rattle.model.proofs.Phases.{Unstamped}

-- What a class asks of the crew: in class 3 what validation asks passes 4b + 2f, so that a stamp is listed.
abbrev pub Strong : Class → Crew → Type 0
Strong one crew = Unit {0}
Strong two crew = Unit {0}
Strong three crew = 4 * crew.b + 2 * crew.f < valid_above crew

-- each circle node's slot, in each circle node's inbox, holds what that node says
abbrev pub Hears : Class → Crew → (ℕ → Bool) → Inboxes → State → Type 0
Hears class crew circle i s = Each crew circle λ p. Each crew circle λ q. i p q ≡ saying class crew s q

-- all of the circle have the same counting messages, and in none of them is the plan 0
pub record Alike (crew : Crew) (circle : ℕ → Bool) (i : Inboxes) : Type 0 where
  pub same : Each crew circle λ p. Each crew circle λ q. Same (inbox crew (i p)) (inbox crew (i q))
  pub plans : Each crew circle (λ p. count_if (votes 0) (inbox crew (i p)) ≡ 0)

-- the circle decides one plan with these inboxes
abbrev pub CircleDecides : Class → Crew → (ℕ → Bool) → ℕ → Inboxes → Type 0
CircleDecides class crew circle phase i =
    (v : ℕ) × Each crew circle (λ p. T (decides class crew phase (inbox crew (i p)) v))

module _ (crew : Crew) (circle : ℕ → Bool) (wide : crew.n ≤ tally circle crew.n + crew.b + crew.f)
    (quorum : 1 ≤ crew.d) (full : crew.d ≤ crew.n - crew.b - crew.f) (small : crew.c ≤ crew.n) where
  -- Selection: the circle takes one plan, where selection answers.
  one_plan : (class : Class) (i : Inboxes) (phase : ℕ) (nodes : ℕ → Voter)
      → Hears class crew circle i (at phase selecting nodes) → Alike crew circle i
      → Each crew circle (λ p. Answers (selection class crew (inbox crew (i p))))
      → (v : ℕ) × (v ≢ 0) × Each crew circle (λ p. taken class crew (inbox crew (i p)) ≡ v)
  one_plan class i phase nodes hears alike answers =
      let some-node = tally_some circle crew.n (omega arith) in
      go some-node.0 some-node.1 some-node.2
    where
      go : (q : ℕ) → q < crew.n → T (circle q)
          → (v : ℕ) × (v ≢ 0) × Each crew circle (λ p. taken class crew (inbox crew (i p)) ≡ v)
      go q lq kq =
          let many = circle_counts crew (i q) circle wide (λ a la ka. (_, hears q lq kq a la ka)) in (
            taken class crew (inbox crew (i q)),
            taken_plan class crew (inbox crew (i q)) (omega arith) (alike.plans q lq kq) (answers q lq kq),
            λ p lp kp. taken_same crew (inbox crew (i p)) (inbox crew (i q)) (alike.same p lp kp q lq kq) class,
          )

  -- Validation: where all of the circle have selected v, and enough of them validate, each of them validates it.
  all_validated : (class : Class) (i : Inboxes) (phase : ℕ) (nodes : ℕ → Voter) (v : ℕ)
      → CanValidate crew circle phase → v ≢ 0 → Each crew circle (λ p. InTurn crew phase (i p))
      → Hears class crew circle i (at phase validating nodes) → Each crew circle (λ q. (nodes q).select ≡ v)
      → Each crew circle (λ p. validated crew (inbox crew (i p)) ≡ v)
  all_validated class i phase nodes v enough plan in_turn hears select p lp kp =
      let many = tally_le (λ q. circle q && validates crew phase q) (λ q. holds (votes v) (i p q)) crew.n λ q lq k.
      let both = and_T (circle q) (validates crew phase q) k in
      let voted : T (eqb (nodes q).select v) = omega (tests, select q lq both.0) in
      T-holds (votes v) (i p q) (spoken q) (says q lq both.0 both.1) voted in
      valid_validated crew small phase (i p) (in_turn p lp kp) v
      (omega (arith, count_gather (votes v) (i p) crew.n))
    where
      spoken : ℕ → Ballot
      spoken q = record { vote = (nodes q).select; stamp = 0; entries = [] }

      says : (q : ℕ) → q < crew.n → T (circle q) → T (validates crew phase q) → i p q ≡ some (spoken q)
      says q lq kq turn = elim (if_plan_is {A = Option Ballot} (nodes q).select (some (spoken q)) none) [
        | inl z ↦ absurd (plan (omega (arith, select q lq kq)))
        | inr z ↦ hears p lp kp q lq kq ∙ turn_says (validates crew phase q) turn ∙ z.1
      ]

  -- Decision: where all of the circle say v, in classes 2 and 3 with the phase as stamp, each of them decides it.
  all_decide : (class : Class) (i : Inboxes) (phase : ℕ) (nodes : ℕ → Voter) (v : ℕ)
      → Hears class crew circle i (at phase deciding nodes)
      → Each crew circle (λ q. ((nodes q).vote ≡ v)
      × T (fresh class phase (record { vote = (nodes q).vote; stamp = (nodes q).stamp; entries = [] })))
      → Each crew circle (λ p. T (decides class crew phase (inbox crew (i p)) v))
  unfolding decides
  all_decide class i phase nodes v hears speak p lp kp =
      let test : Ballot → Bool = λ m. fresh class phase m && votes v m in
      let many = circle_passes crew (i p) test circle wide (λ q lq kq. (_, hears p lp kp q lq kq)) λ q lq kq m e.
      let y : Ballot = record { vote = (nodes q).vote; stamp = (nodes q).stamp; entries = [] } in
      let t = speak q lq kq in
      let same : y ≡ m = some-injective _ _ (sym (hears p lp kp q lq kq) ∙ e) in
      rw (← same) (T_and (fresh class phase y) (votes v y) t.1 (omega tests)) in
      omega tests

  -- Class 1: two rounds.
  pub two_rounds : (class : Class) → Unstamped class → any_above class crew < crew.n - crew.b - crew.f
      → (i g : Inboxes) (phase : ℕ) (round : Round) (nodes : ℕ → Voter) → round ≡ selecting
      → (let s = at phase round nodes in Hears class crew circle i s → Alike crew circle i
      → Hears class crew circle g (step class crew i s) → CircleDecides class crew circle phase g)
  two_rounds two a above i g phase round nodes r h alike h₂ = absurd a
  two_rounds three a above i g phase round nodes r h alike h₂ = absurd a
  two_rounds one a above i g phase validating nodes r h alike h₂ = absurd (omega (arith, ap round_number r))
  two_rounds one a above i g phase deciding nodes r h alike h₂ = absurd (omega (arith, ap round_number r))
  two_rounds one a above i g phase selecting nodes r h alike h₂ =
      let v = one_plan one i phase nodes h alike λ p lp kp.
      answers_one crew (i p) circle wide (λ q lq kq. (_, h p lp kp q lq kq)) above in (
        v.0,
        all_decide one g phase (turned one crew i phase selecting nodes) v.0 h₂ λ q lq kq.
            let x = taken one crew (inbox crew (i q)) in
            elim (if_plan_is x x (nodes q).vote) [
              | inl z ↦ absurd (v.1 (omega (arith, v.2 q lq kq)))
              | inr z ↦ (omega (arith, v.2 q lq kq), tt)
            ],
      )

  -- Classes 2 and 3: three rounds, where selection answers.
  three_rounds : (class : Class) → Stamps class → (i e g : Inboxes) (phase : ℕ) (nodes : ℕ → Voter)
      → CanValidate crew circle phase → Each crew circle (λ p. InTurn crew phase (e p))
      → (let nodes₁ = turned class crew i phase selecting nodes in
      Hears class crew circle i (at phase selecting nodes) → Alike crew circle i
      → Each crew circle (λ p. Answers (selection class crew (inbox crew (i p))))
      → Hears class crew circle e (at phase validating nodes₁)
      → Hears class crew circle g (at phase deciding (turned class crew e phase validating nodes₁))
      → CircleDecides class crew circle phase g)
  three_rounds class stamps i e g phase nodes enough in_turn h alike answers h₂ h₃ =
      let one = one_plan class i phase nodes h alike answers in
      go one.0 one.1 one.2
    where
      nodes₁ : ℕ → Voter
      nodes₁ = turned class crew i phase selecting nodes

      go : (v : ℕ) → v ≢ 0 → Each crew circle (λ p. taken class crew (inbox crew (i p)) ≡ v)
          → CircleDecides class crew circle phase g
      go v plan takes = (
        v,
        all_decide class g phase (turned class crew e phase validating nodes₁) v h₃ λ q lq kq.
            let x = validated crew (inbox crew (e q)) in
            let is-v = all_validated class e phase nodes₁ v enough plan in_turn h₂ takes q lq kq in
            elim (confirms_is x phase (nodes₁ q).base (nodes₁ q).stamp) [
              | inl z ↦ absurd (plan (omega arith))
              | inr z ↦ (omega arith, stamp_fresh class stamps phase _ (omega arith))
            ],
      )

  -- Class 3: selection answers, for the circle's highest stamp is listed by more than b of the circle.
  module _ (honest : ℕ → Bool) (inside : Each crew circle (λ q. T (honest q)))
      (strong : Strong three crew)
      (above : any_above three crew < crew.n - crew.b - crew.f)
      (phase : ℕ) (nodes : ℕ → Voter) (j : Invariant crew honest (at phase selecting nodes)) (i : Inboxes)
      (h : Hears three crew circle i (at phase selecting nodes)) (alike : Alike crew circle i)
      (p : ℕ) (lp : p < crew.n) (kp : T (circle p)) where
    spoken : ℕ → Ballot
    spoken q = record {
      vote = (nodes q).vote;
      stamp = (nodes q).stamp;
      entries = entries_from (nodes q).history 0 phase;
    }

    votes_plan : Each crew circle (λ q. (nodes q).vote ≢ 0)
    unfolding spoken
    votes_plan q lq kq e =
        let zero-vote = slot_counts crew (i p) (votes 0) q lq (spoken q) (h p lp kp q lq kq) (omega tests) in
        omega (arith, alike.plans p lp kp)

    -- those who let the stamp be validated are more than 2b + f, and at most b + f of them are outside the circle
    stamp_listed : Each crew circle λ q.
        0 < (nodes q).stamp → crew.b < count_if (lists (nodes q).vote (nodes q).stamp) (inbox crew (i p))
    unfolding spoken lists
    stamp_listed q lq kq pos =
        let hq = inside q lq kq in
        let ok = j.each q lq hq in
        let its : ℕ → Bool = listers honest nodes (nodes q).stamp (nodes q).base in
        let both : ℕ → Bool = λ a. circle a && its a in
        let test : Ballot → Bool = lists (nodes q).vote (nodes q).stamp in
        let meet = tally_meet circle its honest both crew.n inside
        (λ a la x. (and_T (honest a) (eqb (get_or (nodes a).history (nodes q).stamp 0) (nodes q).base) x).0)
        (λ a la x y. T_and (circle a) (its a) x y) in
        let listing = tally_le both (λ a. holds test (i p a)) crew.n λ a la x.
        let y = and_T (circle a) (its a) x in
        let z = and_T (honest a) (eqb (get_or (nodes a).history (nodes q).stamp 0) (nodes q).base) y.1 in
        let entry : get_or (nodes a).history (nodes q).stamp 0 ≡ (nodes q).vote = omega (tests, ok.voted) in
        T-holds test (i p a) (spoken a) (h p lp kp a la y.0)
        (lt→ltb 0 _ (lists_from (nodes a).history 0 phase (nodes q).stamp (nodes q).vote (omega arith)
        (omega (arith, ok.stamped)) entry (votes_plan q lq kq))) in
        omega (arith, tally_not honest crew.n, j.backing q lq hq pos, count_gather test (i p) crew.n)

    highest_answers : Answers (selection three crew (inbox crew (i p)))
    unfolding spoken
    highest_answers = answers_three crew (i p) circle wide (λ q lq kq. (spoken q, h p lp kp q lq kq)) above
        (λ x lx kx m e y ly ky o f same pos.
        let u = some-injective _ _ (sym (h p lp kp x lx kx) ∙ e) in
        let w = some-injective _ _ (sym (h p lp kp y ly ky) ∙ f) in
        let hx = inside x lx kx in
        let hy = inside y ly ky in
        let stamps : (nodes x).stamp ≡ (nodes y).stamp = omega (arith, same_stamp u, same_stamp w) in
        let one-base = j.unique x lx hx y ly hy stamps (omega (arith, same_stamp u)) in
        omega (arith, same_vote u, same_vote w, (j.each x lx hx).voted, (j.each y ly hy).voted))
        (λ x lx kx m e pos.
        let u = some-injective _ _ (sym (h p lp kp x lx kx) ∙ e) in
        rw (← (same_vote u), ← (same_stamp u)) (stamp_listed x lx kx (omega (arith, same_stamp u))))

  -- Classes 2 and 3: a good phase.
  pub good_rounds : (class : Class) → Stamps class → (honest : ℕ → Bool) → Each crew circle (λ q. T (honest q))
      → Strong class crew → any_above class crew < crew.n - crew.b - crew.f
      → (i e g : Inboxes) (phase : ℕ) (round : Round) (nodes : ℕ → Voter)
      → CanValidate crew circle phase → Each crew circle (λ p. InTurn crew phase (e p)) → round ≡ selecting
      → (let s = at phase round nodes in Invariant crew honest s → Hears class crew circle i s → Alike crew circle i
      → Hears class crew circle e (step class crew i s)
      → Hears class crew circle g (step class crew e (step class crew i s))
      → CircleDecides class crew circle phase g)
  good_rounds class a honest inside strong above i e g phase validating nodes enough in_turn r j h alike h₂ h₃ =
      absurd (omega (arith, ap round_number r))
  good_rounds class a honest inside strong above i e g phase deciding nodes enough in_turn r j h alike h₂ h₃ =
      absurd (omega (arith, ap round_number r))
  good_rounds one a honest inside strong above i e g phase selecting nodes enough in_turn r j h alike h₂ h₃ = absurd a
  good_rounds two a honest inside strong above i e g phase selecting nodes enough in_turn r j h alike h₂ h₃ =
      three_rounds two a i e g phase nodes enough in_turn h alike
      (λ p lp kp. answers_two crew (i p) circle wide (λ q lq kq. (_, h p lp kp q lq kq)) above) h₂ h₃
  good_rounds three a honest inside strong above i e g phase selecting nodes enough in_turn r j h alike h₂ h₃ =
      three_rounds three a i e g phase nodes enough in_turn h alike
      (highest_answers honest inside strong above phase nodes j i h alike) h₂ h₃
