-- Classes 2 and 3: a decision at a phase locks its plan, as the base of D − b honest nodes with a stamp from that phase
-- on. Rounds keep the lock, and while it holds nothing else is decided.
use mathlib.Core.Path.{◌≡◌, ap}
use mathlib.Core.Bool.{Bool, ◌&&◌}
use mathlib.Core.Logic.{◌⊎◌, inl, inr}
use mathlib.Core.Option.{some, some-injective}
use Prim.Native.Nat.{ℕ, suc, ◌+◌, ◌≤◌, ◌<◌}
use native.Mathlib.Omega.{arith}
use native.Mathlib.Decide.{ℕ_discrete}
use lib.ListN.{get_or}
use lib.Dec.{T}
use Rattle.wire.proofs.Tests.{tests, and_T}
use Rattle.crew.specs.declared.Crew.{Crew}
use Rattle.crew.specs.Thresholds.{Class, one, two, three}
use Rattle.crew.proofs.Facts.{Bounds}
use Rattle.ballot.specs.Count.{tally, holds}
use Rattle.ballot.specs.Ballot.{Ballot, inbox, votes, lists}
use Rattle.ballot.specs.Selection.{taken}
use Rattle.ballot.specs.Validation.{validated}
use Rattle.ballot.specs.Decision.{fresh, decides}
use Rattle.ballot.proofs.Tests.{holds_T}
use Rattle.ballot.proofs.Counting.{count_gather, tally_split, tally_not, tally_some}
use Rattle.ballot.proofs.Slots.{same_vote, same_stamp, EachFrom, FewByzantine, byzantine_at_most_b}
use Rattle.ballot.proofs.Validation.{validated_slots}
use Rattle.ballot.proofs.Decision.{Stamps, fresh_stamp}
use Rattle.ballot.proofs.Locked.{Core, Takes, lock_taken_two, lock_taken_three}
use Rattle.model.proofs.Voter.{Voter, Round, selecting, validating, deciding, round_number, entries_said}
use Rattle.model.proofs.Engine.{Each, State, Inboxes, turned, step, Faithful, Decides, opening}
use Rattle.model.proofs.Voters.{confirms_is, said_lists, kept_keeps, begins_blank}
use Rattle.model.proofs.Run.{at, Locking}
use Rattle.model.proofs.Invariant.{Invariant, invariant_begins, invariant_step, slot_selected}

-- between selection and validation a node has selected the locked plan, or none
abbrev Selected : Round → ℕ → ℕ → Type 0
Selected selecting select v = Unit {0}
Selected validating select v = (select ≡ v) ⊎ (select ≡ 0)
Selected deciding select v = Unit {0}

record Lock (crew : Crew) (honest : ℕ → Bool) (v : ℕ) (s : State) : Type 0 where
  -- the phase of the decision; 0 for a common start
  since : ℕ
  since_past : since ≤ s.phase
  -- D − b honest nodes at least have the base v, with a stamp from that phase on
  core : ℕ → Bool
  ample : crew.d ≤ tally core crew.n + crew.b
  members : Each crew core (λ q. T (honest q) × ((s.node q).base ≡ v) × (since ≤ (s.node q).stamp))
  -- every honest node has the base v, or an older stamp
  rest : Each crew honest (λ q. ((s.node q).base ≡ v) ⊎ ((s.node q).stamp < since))
  -- what honest nodes selected after that phase is v
  later : Each crew honest λ q.
      (x : ℕ) → since < x → (get_or (s.node q).history x 0 ≡ v) ⊎ (get_or (s.node q).history x 0 ≡ 0)
  selected : Each crew honest (λ q. Selected s.round (s.node q).select v)

-- where all honest nodes begin with v, it is locked
common_locks : (crew : Crew) (honest : ℕ → Bool) → FewByzantine crew honest → crew.d + crew.b + crew.f ≤ crew.n
    → (plans : ℕ → ℕ) (v : ℕ) → Each crew honest (λ q. plans q ≡ v) → Lock crew honest v (opening plans)
common_locks crew honest few reach plans v all = record {
  since = 0;
  since_past = omega arith;
  core = honest;
  ample = omega (arith, tally_not honest crew.n);
  members = λ q lq hq. (hq, all q lq hq, omega arith);
  rest = λ q lq hq. inl (all q lq hq);
  later = λ q lq hq x l. inr (begins_blank (plans q) x l);
  selected = λ q lq hq. tt;
}

module _ (class : Class) (stamps : Stamps class) (crew : Crew) (honest : ℕ → Bool) (few : FewByzantine crew honest)
    (bounds : Bounds crew) (i : Inboxes) (phase : ℕ)
    (nodes : ℕ → Voter) where
  -- Selection.

  module _ (j : Invariant crew honest (at phase selecting nodes))
      (f : Faithful class crew honest i (at phase selecting nodes)) (v : ℕ)
      (l : Lock crew honest v (at phase selecting nodes)) where
    -- every honest node takes v, or nothing
    all_take : Each crew honest (λ q. Takes v class crew (inbox crew (i q)))
    all_take q lq hq = go class stamps
      where
        spoken : ℕ → Ballot
        spoken a = record {
          vote = (nodes a).vote;
          stamp = (nodes a).stamp;
          entries = entries_said class (nodes a).history phase;
        }

        from : (a : ℕ) → a < crew.n → T (honest a) → (m : Ballot) → i q a ≡ some m → spoken a ≡ m
        from a la ha m e = some-injective _ _ (f.said q lq hq a la ha m e)

        shown : Core crew (i q) v l.since
        shown = record {
          core = l.core;
          ample = l.ample;
          says = λ a la ka m e.
              let d = l.members a la ka in
              let b = from a la d.0 m e in
              omega (arith, (j.each a la d.0).voted, same_vote b, same_stamp b);
        }

        rest : EachFrom honest crew (i q) (λ m. (m.vote ≡ v) ⊎ (m.stamp < l.since))
        rest a la ha m e =
            let b = from a la ha m e in
            elim (l.rest a la ha) [
              | inl z ↦ inl (omega (arith, (j.each a la ha).voted, same_vote b))
              | inr z ↦ inr (omega (arith, same_stamp b))
            ]

        listed : EachFrom honest crew (i q) (λ m. (w x : ℕ) → T (lists w x m) → l.since < x → w ≡ v)
        listed a la ha m e w x h y =
            let its : T (lists w x (spoken a)) = rw (from a la ha m e) h in
            let d = said_lists class (nodes a).history phase w x (nodes a).vote (nodes a).stamp its in
            elim (l.later a la ha x y) [ inl z ↦ omega arith | inr z ↦ absurd (d.1 (omega arith)) ]

        go : (class : Class) → Stamps class → Takes v class crew (inbox crew (i q))
        go one z = absurd z
        go two z = lock_taken_two crew bounds.reach (i q) v l.since shown honest few rest
        go three z = lock_taken_three crew bounds.reach (i q) v l.since shown honest few rest listed

    lock_selects : Lock crew honest v (at phase validating (turned class crew i phase selecting nodes))
    lock_selects = record {
      since = l.since;
      since_past = l.since_past;
      core = l.core;
      ample = l.ample;
      members = l.members;
      rest = l.rest;
      later = λ q lq hq x y.
          kept_keeps (nodes q).history phase (taken class crew (inbox crew (i q))) v x (all_take q lq hq)
          (l.later q lq hq x y);
      selected = all_take;
    }

  -- Validation.

  module _ (f : Faithful class crew honest i (at phase validating nodes)) (v : ℕ)
      (l : Lock crew honest v (at phase validating nodes)) where
    -- every honest node validates v, or nothing: more than b slots hold what is validated, so an honest one does
    all_validate : Each crew honest λ q.
        (validated crew (inbox crew (i q)) ≡ v) ⊎ (validated crew (inbox crew (i q)) ≡ 0)
    all_validate q lq hq = go (ℕ_discrete w 0) (ℕ_discrete w v)
      where
        w : ℕ
        w = validated crew (inbox crew (i q))

        go : Dec (w ≡ 0) → Dec (w ≡ v) → (w ≡ v) ⊎ (w ≡ 0)
        go (yes z) y = inr z
        go (no z) (yes y) = inl y
        go (no z) (no y) =
            let few-votes = byzantine_at_most_b crew (i q) (votes w) honest few λ a la ha m e x.
            let b = slot_selected class crew honest few bounds.small i phase nodes f q lq hq a la ha m e in
            elim (l.selected a la ha) [ inl u ↦ omega tests | inr u ↦ b.0 u ] in
            absurd (omega (arith, validated_slots crew (inbox crew (i q)) z))

    lock_confirms : Lock crew honest v (at phase deciding (turned class crew i phase validating nodes))
    lock_confirms = record {
      since = l.since;
      since_past = l.since_past;
      core = l.core;
      ample = l.ample;
      members = λ q lq kq.
          let d = l.members q lq kq in
          elim (confirms_is (validated crew (inbox crew (i q))) phase (nodes q).base (nodes q).stamp) [
            | inl z ↦ (d.0, omega arith, omega arith)
            | inr z ↦ elim (all_validate q lq d.0) [
              | inl y ↦ (d.0, omega arith, omega (arith, l.since_past))
              | inr y ↦ absurd (z.0 y)
            ]
          ];
      rest = λ q lq hq.
          elim (confirms_is (validated crew (inbox crew (i q))) phase (nodes q).base (nodes q).stamp) [
            | inl z ↦ elim (l.rest q lq hq) [ inl y ↦ inl (omega arith) | inr y ↦ inr (omega arith) ]
            | inr z ↦ elim (all_validate q lq hq) [ inl y ↦ inl (omega arith) | inr y ↦ absurd (z.0 y) ]
          ];
      later = l.later;
      selected = λ q lq hq. tt;
    }

  -- Decision.

  lock_settles : (v : ℕ) → Lock crew honest v (at phase deciding nodes)
      → Lock crew honest v (at (suc phase) selecting (turned class crew i phase deciding nodes))
  lock_settles v l = record {
    since = l.since;
    since_past = omega (arith, l.since_past);
    core = l.core;
    ample = l.ample;
    members = l.members;
    rest = l.rest;
    later = l.later;
    selected = λ q lq hq. tt;
  }

  module _ (j : Invariant crew honest (at phase deciding nodes))
      (f : Faithful class crew honest i (at phase deciding nodes)) (p : ℕ) (lp : p < crew.n) (hp : T (honest p))
      (v : ℕ) (d : T (decides class crew phase (inbox crew (i p)) v)) where
    voter : Ballot → Bool
    voter m = fresh class phase m && votes v m

    decider : ℕ → Bool
    decider q = honest q && holds voter (i p q)

    -- of the D slots that decide at least D − b are honest
    deciders_ample : crew.d ≤ tally decider crew.n + crew.b
    unfolding decides voter decider
    deciders_ample =
        omega (tests, d, count_gather voter (i p) crew.n, tally_split honest (λ q. holds voter (i p q)) crew.n)

    -- and each of them has the base v, with the phase as its stamp
    decider_is : Each crew decider (λ q. T (honest q) × ((nodes q).base ≡ v) × ((nodes q).stamp ≡ phase))
    unfolding decider voter
    decider_is q lq t =
        let x = and_T (honest q) (holds voter (i p q)) t in
        let h = holds_T voter (i p q) x.1 in
        let y = and_T (fresh class phase h.0) (votes v h.0) h.2 in
        let b = some-injective _ _ (f.said p lp hp q lq x.0 h.0 h.1) in
        let stamp = fresh_stamp class stamps phase h.0 y.0 in
        let base = (j.each q lq x.0).voted in
        (x.0, omega (tests, same_vote b), omega (arith, same_stamp b))

    one_decider : (q : ℕ) × (q < crew.n) × T (honest q) × ((nodes q).base ≡ v) × ((nodes q).stamp ≡ phase)
    one_decider =
        let q = tally_some decider crew.n (omega (arith, deciders_ample)) in
        let o = decider_is q.0 q.1 q.2 in
        (q.0, q.1, o.0, o.1, o.2)

    decision_locks : Lock crew honest v (at phase deciding nodes)
    decision_locks =
        let o = one_decider in
        record {
          since = phase;
          since_past = omega arith;
          core = decider;
          ample = deciders_ample;
          members = λ q lq t. let y = decider_is q lq t in (y.0, y.1, omega arith);
          rest = λ q lq hq. elim (ℕ_discrete (nodes q).stamp phase) [
            | yes z ↦
                let one-base = j.unique q lq hq o.0 o.1 o.2 (omega arith) (omega (arith, j.begun)) in
                inl (omega arith)
            | no z ↦ inr (omega (arith, (j.each q lq hq).stamped))
          ];
          later = λ q lq hq x y. inr ((j.each q lq hq).blank x y);
          selected = λ q lq hq. tt;
        }

    decision_locked : (w : ℕ) → Lock crew honest w (at phase deciding nodes) → v ≡ w
    decision_locked w l =
        let o = one_decider in
        elim (l.rest o.0 o.1 o.2) [ inl z ↦ omega arith | inr z ↦ omega (arith, l.since_past) ]

-- Any round.

module _ (class : Class) (stamps : Stamps class) (crew : Crew) (honest : ℕ → Bool) (few : FewByzantine crew honest)
    (bounds : Bounds crew) (i : Inboxes) where
  lock_step : (phase : ℕ) (round : Round) (nodes : ℕ → Voter)
      → Invariant crew honest (at phase round nodes) → Faithful class crew honest i (at phase round nodes)
      → (v : ℕ) → Lock crew honest v (at phase round nodes)
      → Lock crew honest v (step class crew i (at phase round nodes))
  lock_step phase selecting nodes j f v l = go class stamps f
    where
      go : (class : Class) → Stamps class → Faithful class crew honest i (at phase selecting nodes)
          → Lock crew honest v (step class crew i (at phase selecting nodes))
      go one a f = absurd a
      go two a f = lock_selects two a crew honest few bounds i phase nodes j f v l
      go three a f = lock_selects three a crew honest few bounds i phase nodes j f v l
  lock_step phase validating nodes j f v l = lock_confirms class stamps crew honest few bounds i phase nodes f v l
  lock_step phase deciding nodes j f v l = lock_settles class stamps crew honest few bounds i phase nodes v l

  -- what is decided is locked, and is what was locked before
  locks : (phase : ℕ) (round : Round) (nodes : ℕ → Voter)
      → Invariant crew honest (at phase round nodes) → Faithful class crew honest i (at phase round nodes)
      → Each crew honest λ p. (v : ℕ) → Decides class crew i (at phase round nodes) p v
      → Lock crew honest v (at phase round nodes) × ((w : ℕ) → Lock crew honest w (at phase round nodes) → v ≡ w)
  locks phase selecting nodes j f p lp hp v d = absurd (omega (arith, ap round_number d.0))
  locks phase validating nodes j f p lp hp v d = absurd (omega (arith, ap round_number d.0))
  locks phase deciding nodes j f p lp hp v d = (
    decision_locks class stamps crew honest few bounds i phase nodes j f p lp hp v d.1,
    decision_locked class stamps crew honest few bounds i phase nodes j f p lp hp v d.1,
  )

module _ (class : Class) (stamps : Stamps class) (crew : Crew) (honest : ℕ → Bool) (few : FewByzantine crew honest)
    (bounds : Bounds crew) where
  pub locking_later : Locking class crew honest
  locking_later = record {
    Inv = Invariant crew honest;
    Lock = Lock crew honest;
    begins = invariant_begins crew honest;
    common = common_locks crew honest few bounds.reach;
    inv_step = λ i s. invariant_step class stamps crew honest few bounds.small i s.phase s.round s.node;
    lock_step = λ i s. lock_step class stamps crew honest few bounds i s.phase s.round s.node;
    decision_locks = λ i s j f p lp hp v d.
        (locks class stamps crew honest few bounds i s.phase s.round s.node j f p lp hp v d).0;
    decision_locked = λ i s j f p lp hp v w d.
        (locks class stamps crew honest few bounds i s.phase s.round s.node j f p lp hp v d).1 w;
  }

  pub later_invariant : (s : State) → locking_later.Inv s → Invariant crew honest s
  unfolding locking_later
  later_invariant s j = j
