-- Classes 2 and 3: what holds of every honest node when a round begins; that a phase validates one plan; and that every
-- stamp is backed by the histories of those who let it be validated.
use mathlib.Core.Path.{◌≡◌, refl, ap}
use mathlib.Core.Bool.{Bool, not, ◌&&◌}
use mathlib.Core.Logic.{inl, inr, ◌≢◌}
use mathlib.Core.Option.{some}
use Prim.Native.Nat.{ℕ, suc, ◌+◌, ◌*◌, ◌≤◌, ◌<◌}
use native.Mathlib.Omega.{arith}
use lib.ListN.{length, get_or, length-replicate}
use lib.Dec.{eqb}
use Rattle.wire.specs.Sizes.{last_phase, spent_phase, history_size}
use Rattle.wire.proofs.Tests.{tests, and_T, T_and}
use Rattle.crew.specs.declared.Crew.{Crew}
use Rattle.crew.specs.Thresholds.{Class, one, two, three, valid_above}
use Rattle.crew.specs.Group.{validates}
use Rattle.ballot.specs.Count.{tally, holds}
use Rattle.ballot.specs.Ballot.{Ballot, inbox, votes}
use Rattle.ballot.specs.Selection.{taken}
use Rattle.ballot.specs.Validation.{validated}
use Rattle.ballot.specs.Decision.{decision}
use Rattle.ballot.proofs.Tests.{holds_T, said_turn}
use Rattle.ballot.proofs.Counting.{count_gather, tally_le, tally_split}
use Rattle.ballot.proofs.Slots.{same_vote, FewByzantine}
use Rattle.ballot.proofs.Validation.{validated_slots, validated_unique}
use Rattle.ballot.proofs.Decision.{Stamps}
use Rattle.model.proofs.Voter.{Voter, Round, selecting, validating, deciding, round_number}
use Rattle.model.proofs.Voter.{opened, selects, confirms, settles}
use Rattle.model.proofs.Engine.{Each, State, Inboxes, turned, step, Faithful, opening}
use Rattle.model.proofs.Voters.{if_plan_is, confirms_is, said_plan, begins_blank}
use Rattle.model.proofs.Voters.{kept_length, kept_other, kept_here}
use Rattle.model.proofs.Run.{at}

-- One node.

-- a sound record's stamp
abbrev pub StampOk : Round → ℕ → ℕ → Type 0
StampOk selecting stamp phase = stamp < phase
StampOk validating stamp phase = stamp < phase
StampOk deciding stamp phase = stamp ≤ phase

-- but between selection and validation the vote is the base
abbrev VoteOk : Round → Voter → Type 0
VoteOk selecting d = d.vote ≡ d.base
VoteOk validating d = Unit {0}
VoteOk deciding d = d.vote ≡ d.base

-- the phases without an entry so far
abbrev pub Unselected : Round → ℕ → ℕ → Type 0
Unselected selecting phase x = phase ≤ x
Unselected validating phase x = phase < x
Unselected deciding phase x = phase < x

-- between selection and validation a plan that was selected stands in the history
abbrev Recorded : Round → ℕ → Voter → Type 0
Recorded selecting phase d = Unit {0}
Recorded validating phase d = d.select ≢ 0 → get_or d.history phase 0 ≡ d.select
Recorded deciding phase d = Unit {0}

-- what holds of an honest node when this round of this phase begins; each round keeps it, whatever the node hears
pub record NodeOk (phase : ℕ) (round : Round) (d : Voter) : Type 0 where
  pub stamped : StampOk round d.stamp phase
  pub voted : VoteOk round d
  pub blank : (x : ℕ) → Unselected round phase x → get_or d.history x 0 ≡ 0
  pub long : length d.history ≡ history_size
  pub recorded : Recorded round phase d

node_begins : (v : ℕ) → NodeOk 1 selecting (opened v)
node_begins v = record {
  stamped = omega arith;
  voted = refl;
  blank = λ x l. begins_blank v x l;
  long = ap suc (length-replicate {A = ℕ} last_phase 0);
  recorded = tt;
}

node_selects : (phase v : ℕ) (d : Voter) → phase < spent_phase → NodeOk phase selecting d
    → NodeOk phase validating (selects phase v d)
node_selects phase v d t o = record {
  stamped = o.stamped;
  voted = tt;
  blank = λ x l. omega (arith, kept_other d.history phase v x (omega arith), o.blank x (omega arith));
  long = omega (arith, kept_length d.history phase v, o.long);
  recorded = λ plan. omega (arith, kept_here d.history phase v (omega (arith, o.long)) plan);
}

node_confirms : (phase v : ℕ) (d : Voter) → NodeOk phase validating d → NodeOk phase deciding (confirms phase v d)
node_confirms phase v d o = record {
  stamped = elim (if_plan_is v phase d.stamp) [ inl z ↦ omega (arith, o.stamped) | inr z ↦ omega arith ];
  voted = refl;
  blank = o.blank;
  long = o.long;
  recorded = tt;
}

node_settles : (phase v : ℕ) (d : Voter) → NodeOk phase deciding d → NodeOk (suc phase) selecting (settles v d)
node_settles phase v d o = record {
  stamped = omega (arith, o.stamped);
  voted = o.voted;
  blank = o.blank;
  long = o.long;
  recorded = tt;
}

-- All honest nodes.

-- the honest nodes whose history has v at phase t
abbrev pub listers : (ℕ → Bool) → (ℕ → Voter) → ℕ → ℕ → ℕ → Bool
listers honest nodes t v a = honest a && eqb (get_or (nodes a).history t 0) v

pub record Invariant (crew : Crew) (honest : ℕ → Bool) (s : State) : Type 0 where
  pub begun : 0 < s.phase
  pub each : Each crew honest (λ q. NodeOk s.phase s.round (s.node q))
  -- a stamp but 0 goes with one base
  pub unique : Each crew honest λ p. Each crew honest λ q.
      (s.node p).stamp ≡ (s.node q).stamp → 0 < (s.node p).stamp → (s.node p).base ≡ (s.node q).base
  -- and was validated by honest nodes that have it in their histories, and by others
  pub backing : Each crew honest λ q.
      0 < (s.node q).stamp
      → valid_above crew < 2 * (tally (listers honest s.node (s.node q).stamp (s.node q).base) crew.n
      + tally (λ a. not (honest a)) crew.n)

pub invariant_begins : (crew : Crew) (honest : ℕ → Bool) (plans : ℕ → ℕ) → Invariant crew honest (opening plans)
invariant_begins crew honest plans = record {
  begun = omega arith;
  each = λ q lq hq. node_begins (plans q);
  unique = λ p lp hp q lq hq e pos. omega arith;
  backing = λ q lq hq pos. omega arith;
}

module _ (class : Class) (crew : Crew) (honest : ℕ → Bool) (few : FewByzantine crew honest)
    (small : crew.c ≤ crew.n) (i : Inboxes) (phase : ℕ) (nodes : ℕ → Voter) where
  invariant_selects : phase < spent_phase → Invariant crew honest (at phase selecting nodes)
      → Invariant crew honest (at phase validating (turned class crew i phase selecting nodes))
  invariant_selects t j = record {
    begun = j.begun;
    each = λ q lq hq. node_selects phase (taken class crew (inbox crew (i q))) (nodes q) t (j.each q lq hq);
    unique = j.unique;
    backing = λ q lq hq pos.
        let stamp = (nodes q).stamp in
        let base = (nodes q).base in
        let still = tally_le (listers honest nodes stamp base)
        (listers honest (turned class crew i phase selecting nodes) stamp base) crew.n λ a la x.
        let y = and_T (honest a) (eqb (get_or (nodes a).history stamp 0) base) x in
        let before : stamp ≢ phase = omega (arith, (j.each q lq hq).stamped) in
        let entry = kept_other (nodes a).history phase (taken class crew (inbox crew (i a))) stamp before in
        T_and (honest a) _ y.0 (omega tests) in
        omega (arith, j.backing q lq hq pos);
  }

  module _ (f : Faithful class crew honest i (at phase validating nodes)) where
    -- in round 2 an honest slot holds the plan that its node selected
    pub slot_selected : Each crew honest λ p. Each crew honest λ q. (m : Ballot)
        → i p q ≡ some m → ((nodes q).select ≢ 0) × ((nodes q).select ≡ m.vote)
    slot_selected p lp hp q lq hq m e =
        let h = f.said p lp hp q lq hq m e in
        let b = said_plan (nodes q).select (said_turn (validates crew phase q) h).1 in
        (b.0, omega (arith, same_vote b.1))

    -- two honest nodes that validate a plan in this round validate the same one
    unique_validation : Each crew honest λ p. Each crew honest λ q.
        validated crew (inbox crew (i p)) ≢ 0 → validated crew (inbox crew (i q)) ≢ 0
        → validated crew (inbox crew (i p)) ≡ validated crew (inbox crew (i q))
    unique_validation p lp hp q lq hq =
        validated_unique crew small phase honest few (i p) (i q) (f.in_turn refl p lp hp) (f.in_turn refl q lq hq)
        λ a v w la ha s t.
        let m = holds_T (votes v) (i p a) s in
        let o = holds_T (votes w) (i q a) t in
        let x = slot_selected p lp hp a la ha m.0 m.1 in
        let y = slot_selected q lq hq a la ha o.0 o.1 in
        omega tests

    -- the honest slots that validate a plan come from nodes that have it in their histories
    validators_list : Invariant crew honest (at phase validating nodes) → Each crew honest λ q. (v : ℕ)
        → tally (λ a. honest a && holds (votes v) (i q a)) crew.n ≤ tally (listers honest nodes phase v) crew.n
    validators_list j q lq hq v = tally_le _ (listers honest nodes phase v) crew.n λ a la x.
        let y = and_T (honest a) (holds (votes v) (i q a)) x in
        let m = holds_T (votes v) (i q a) y.1 in
        let b = slot_selected q lq hq a la y.0 m.0 m.1 in
        T_and (honest a) (eqb (get_or (nodes a).history phase 0) v) y.0
        (omega (tests, (j.each a la y.0).recorded b.0))

    invariant_confirms : Invariant crew honest (at phase validating nodes)
        → Invariant crew honest (at phase deciding (turned class crew i phase validating nodes))
    invariant_confirms j = record {
      begun = j.begun;
      each = λ q lq hq. node_confirms phase (validated crew (inbox crew (i q))) (nodes q) (j.each q lq hq);
      unique = λ p lp hp q lq hq e pos.
          elim (confirms_is (validated crew (inbox crew (i p))) phase (nodes p).base (nodes p).stamp) [
            | inl z ↦ elim (confirms_is (validated crew (inbox crew (i q))) phase (nodes q).base (nodes q).stamp) [
              | inl w ↦ omega (arith, j.unique p lp hp q lq hq (omega arith) (omega arith))
              | inr w ↦ omega (arith, (j.each p lp hp).stamped)
            ]
            | inr z ↦ elim (confirms_is (validated crew (inbox crew (i q))) phase (nodes q).base (nodes q).stamp) [
              | inl w ↦ omega (arith, (j.each q lq hq).stamped)
              | inr w ↦ omega (arith, unique_validation p lp hp q lq hq z.0 w.0)
            ]
          ];
      backing = λ q lq hq pos.
          let v = validated crew (inbox crew (i q)) in
          elim (confirms_is v phase (nodes q).base (nodes q).stamp) [
            | inl z ↦ rw (z.2, z.1) (j.backing q lq hq (omega arith))
            | inr z ↦ rw (z.2, z.1) (omega (
              arith,
              validated_slots crew (inbox crew (i q)) z.0,
              count_gather (votes v) (i q) crew.n,
              tally_split honest (λ a. holds (votes v) (i q a)) crew.n,
              validators_list j q lq hq v,
            ))
          ];
    }

  invariant_settles : Invariant crew honest (at phase deciding nodes)
      → Invariant crew honest (at (suc phase) selecting (turned class crew i phase deciding nodes))
  invariant_settles j = record {
    begun = omega arith;
    each = λ q lq hq.
        node_settles phase (decision class crew phase (inbox crew (i q))) (nodes q) (j.each q lq hq);
    unique = j.unique;
    backing = j.backing;
  }

-- Any round.

pub unique_in_round : (class : Class) (crew : Crew) (honest : ℕ → Bool) → FewByzantine crew honest
    → crew.c ≤ crew.n → (i : Inboxes) (phase : ℕ) (round : Round) (nodes : ℕ → Voter) → round ≡ validating
    → Faithful class crew honest i (at phase round nodes) → Each crew honest λ p. Each crew honest λ q.
    validated crew (inbox crew (i p)) ≢ 0 → validated crew (inbox crew (i q)) ≢ 0
    → validated crew (inbox crew (i p)) ≡ validated crew (inbox crew (i q))
unique_in_round class crew honest few small i phase selecting nodes e f = absurd (omega (arith, ap round_number e))
unique_in_round class crew honest few small i phase validating nodes e f =
    unique_validation class crew honest few small i phase nodes f
unique_in_round class crew honest few small i phase deciding nodes e f = absurd (omega (arith, ap round_number e))

pub invariant_step : (class : Class) → Stamps class → (crew : Crew) (honest : ℕ → Bool) → FewByzantine crew honest
    → crew.c ≤ crew.n → (i : Inboxes) (phase : ℕ) (round : Round) (nodes : ℕ → Voter) → phase < spent_phase
    → Invariant crew honest (at phase round nodes) → Faithful class crew honest i (at phase round nodes)
    → Invariant crew honest (step class crew i (at phase round nodes))
invariant_step one a crew honest few small i phase selecting nodes t j f = absurd a
invariant_step two a crew honest few small i phase selecting nodes t j f =
    invariant_selects two crew honest few small i phase nodes t j
invariant_step three a crew honest few small i phase selecting nodes t j f =
    invariant_selects three crew honest few small i phase nodes t j
invariant_step class a crew honest few small i phase validating nodes t j f =
    invariant_confirms class crew honest few small i phase nodes f j
invariant_step class a crew honest few small i phase deciding nodes t j f =
    invariant_settles class crew honest few small i phase nodes j
