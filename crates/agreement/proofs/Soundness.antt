-- Law 4 of the engine: a start gives a sound record; an accepted take leaves a sound record, whatever the record and
-- the inbox; a refused call leaves the record as it was.
use mathlib.Core.Path.{◌≡◌, refl, ap, subst, ◌∙◌}
use mathlib.Core.Bool.{Bool, true, false, cond}
use mathlib.Core.List.{List}
use mathlib.Core.Logic.{◌⊎◌, inl, inr, ◌≢◌}
use Prim.Native.Nat.{ℕ, ◌+◌, ◌≤◌, ◌<◌}
use native.Mathlib.Omega.{arith}
use native.Mathlib.Decide.{ℕ_discrete}
use lib.ListN.{get_or, set}
use lib.Dec.{eqb}
use borrow.Author.Tests.{eq-eqb, eqb-true, eqb-false}
use Rattle.wire.specs.Sizes.{plan_limit, spent_phase}
use Rattle.wire.specs.Plan.{if_plan}
use Rattle.wire.specs.Outcome.{accepted, refused, value_or}
use Rattle.wire.specs.Bytes.{AreBytes, buffer_after}
use Rattle.crew.specs.declared.Crew.{Crew}
use Rattle.crew.specs.Thresholds.{class_of}
use Rattle.ballot.specs.Ballot.{Ballot}
use Rattle.ballot.specs.Selection.{taken}
use Rattle.ballot.specs.Validation.{validated}
use Rattle.ballot.specs.Decision.{decides, decision}
use Rattle.ballot.proofs.Least.{Voted, least_of_voted}
use Rattle.ballot.proofs.Selection.{taken_voted}
use Rattle.ballot.proofs.Validation.{validated_voted}
use Rattle.model.proofs.Voters.{if_plan_is, kept, kept_length, kept_other, kept_here}
use Rattle.node.specs.declared.Node.{Node}
use Rattle.node.specs.Soundness.{first_unselected, sound}
use Rattle.node.specs.Starting.{start_of}
use Rattle.node.specs.Sending.{write_coming_of, coming_bytes, coming_buffer_of}
use Rattle.node.proofs.Facts.{Sound, Typed, sound_facts, facts_sound, last_round}
use Rattle.node.proofs.StartLaws.{start_sound}
use Rattle.inbox.specs.Inbox.{ballots}
use Rattle.rounds.specs.Taking.{after_selection, after_validation, after_decision, after_round, take_of}
use Rattle.rounds.specs.Asking.{ask_of}
use Rattle.agreement.specs.Statement.{write, ask, take_round, after_call}
use Rattle.inbox.proofs.Plans.{voted_fits}
use Rattle.agreement.proofs.Answers.{take_accepted}

-- What the three rules do to the fields of a sound record.

-- a plan, or what stood there before
plan_or : (v old : ℕ) → 1 ≤ old → 1 ≤ if_plan v v old
plan_or v old h = elim (if_plan_is v v old) [ inl z ↦ omega (arith, z.1) | inr z ↦ omega (arith, z.1, z.0) ]

-- after a selection comes round 3 in class 1, round 2 in the others
abbrev next_if : Bool → ℕ
next_if first = cond first 3 2

module _ (class : ℕ) where
  abbrev next : ℕ
  next = next_if (eqb class 1)

  next_is : (next ≡ 3) ⊎ ((next ≡ 2) × (class ≢ 1))
  next_is = go (eqb class 1) refl
    where
      go : (first : Bool) → eqb class 1 ≡ first → (next_if first ≡ 3) ⊎ ((next_if first ≡ 2) × (class ≢ 1))
      go true e = inl refl
      go false e = inr (refl, eqb-false class 1 e)

  next_from : 2 ≤ next
  next_from = elim next_is [ inl e ↦ omega arith | inr e ↦ omega (arith, e.0) ]

  next_to : next ≤ 3
  next_to = elim next_is [ inl e ↦ omega arith | inr e ↦ omega (arith, e.0) ]

-- the first phase that is not yet selected: in round 1 the record's own, later the one after it
unselected_now : (d : Node) → d.round ≡ 1 → first_unselected d ≡ d.phase
unselected_now d one = ap (λ b. cond b d.phase (d.phase + 1)) (eq-eqb d.round 1 one)

unselected_next : (d : Node) → 2 ≤ d.round → first_unselected d ≡ d.phase + 1
unselected_next d late = go (eqb d.round 1) refl
  where
    go : (b : Bool) → eqb d.round 1 ≡ b → cond b d.phase (d.phase + 1) ≡ d.phase + 1
    go true e = absurd (omega (arith, eqb-true d.round 1 e))
    go false e = refl

module _ (d : Node) (s : Sound d) (left : d.phase < spent_phase) (v : ℕ) where
  selection_sound : d.round ≡ 1 → Sound (after_selection d v)
  selection_sound one = record {
    crew = s.crew;
    own = s.own;
    phase_from = s.phase_from;
    phase_to = s.phase_to;
    round_from = omega (arith, next_from d.crew.class);
    round_to = next_to d.crew.class;
    unvalidated = λ first two. elim (next_is d.crew.class) [ inl e ↦ omega arith | inr e ↦ e.1 first ];
    unspent = λ late. omega arith;
    vote = plan_or v d.vote s.vote;
    base = s.base;
    initial = rw (kept_other d.history d.phase v 0 (λ e. omega (arith, s.phase_from))) s.initial;
    stamp = s.stamp;
    stamp_before = λ early. s.stamp_before (omega arith);
    unstamped = s.unstamped;
    empty = λ phase from to.
        let later = unselected_next (after_selection d v) (next_from d.crew.class) in
        kept_other d.history d.phase v phase (λ e. omega arith)
        ∙ s.empty phase (omega (arith, unselected_now d one)) to;
  }

  validation_sound : d.round ≡ 2 → Sound (after_validation d v)
  validation_sound two = record {
    crew = s.crew;
    own = s.own;
    phase_from = s.phase_from;
    phase_to = s.phase_to;
    round_from = omega arith;
    round_to = omega arith;
    unvalidated = λ first e. omega arith;
    unspent = λ late. omega arith;
    vote = plan_or v d.base s.base;
    base = plan_or v d.base s.base;
    initial = s.initial;
    stamp = elim (if_plan_is v d.phase d.stamp) [
      | inl z ↦ omega (arith, z.1, s.stamp)
      | inr z ↦ omega (arith, z.1)
    ];
    stamp_before = λ early. omega arith;
    unstamped = λ first. absurd (s.unvalidated first two);
    empty = λ phase from to. s.empty phase (omega (arith, unselected_next d (omega arith))) to;
  }

  decision_sound : d.round ≡ 3 → Sound (after_decision d v)
  decision_sound three = record {
    crew = s.crew;
    own = s.own;
    phase_from = omega arith;
    phase_to = omega arith;
    round_from = omega arith;
    round_to = omega arith;
    unvalidated = λ first e. omega arith;
    unspent = λ late. omega arith;
    vote = s.vote;
    base = s.base;
    initial = s.initial;
    stamp = omega (arith, s.stamp);
    stamp_before = λ early. omega (arith, s.stamp);
    unstamped = s.unstamped;
    empty = λ phase from to. s.empty phase (omega (arith, unselected_next d (omega arith))) to;
  }

-- what the rules answer to a record
module _ (d : Node) (heard : List Ballot) where
  abbrev selected : ℕ
  selected = taken (class_of d.crew) d.crew heard

  abbrev confirmed : ℕ
  confirmed = validated d.crew heard

  abbrev decided : ℕ
  decided = decision (class_of d.crew) d.crew d.phase heard

  -- the record after its round, by the round
  by_round : (P : Node → Type 0) → Sound d → (d.round ≡ 1 → P (after_selection d selected))
      → (d.round ≡ 2 → P (after_validation d confirmed)) → (d.round ≡ 3 → P (after_decision d decided))
      → P (after_round d heard)
  unfolding after_round
  by_round P s first second third = go (eqb d.round 1) (eqb d.round 2) refl refl
    where
      go : (a b : Bool) → eqb d.round 1 ≡ a → eqb d.round 2 ≡ b
          → P (cond a (after_selection d selected) (cond b (after_validation d confirmed) (after_decision d decided)))
      go true b one two = first (eqb-true _ _ one)
      go false true one two = second (eqb-true _ _ two)
      go false false one two = third (last_round s (eqb-false _ _ one) (eqb-false _ _ two))

-- an accepted take leaves a sound record, whatever the inbox
pub take_sound : (d : Node) (inbox : List ℕ) (e : Node) → take_of d inbox ≡ accepted e → sound e ≡ true
take_sound d inbox e h =
    let t = take_accepted d inbox e h in
    let s = sound_facts d t.is_sound in
    let heard = ballots d inbox in
    let after = by_round d heard Sound s
    (selection_sound d s t.left (selected d heard))
    (validation_sound d s t.left (confirmed d heard))
    (decision_sound d s t.left (decided d heard)) in
    subst (λ (x : Node). sound x ≡ true) t.is_after (facts_sound (after_round d heard) after)

-- Its fields fit their types where the record's do and the inbox holds bytes.

fits_or : (v old : ℕ) → v < plan_limit → old < plan_limit → if_plan v v old < plan_limit
fits_or v old a b = elim (if_plan_is v v old) [ inl z ↦ omega (arith, z.1) | inr z ↦ omega (arith, z.1) ]

module _ (d : Node) (t : Typed d) (v : ℕ) (fits : v < plan_limit) where
  entry_fits : d.phase < spent_phase → (phase : ℕ) → get_or (kept d.history d.phase v) phase 0 < plan_limit
  entry_fits left phase = elim (ℕ_discrete phase d.phase) [
    | no other ↦ rw (kept_other d.history d.phase v phase other) (t.entries phase)
    | yes same ↦ elim (if_plan_is v (set d.history d.phase v) d.history) [
      | inl z ↦ rw z.1 (t.entries phase)
      | inr z ↦ rw (same, kept_here d.history d.phase v (omega (arith, t.long)) z.0) fits
    ]
  ]

  selection_typed : d.phase < spent_phase → Typed (after_selection d v)
  selection_typed left = record {
    run = t.run;
    vote = fits_or v d.vote fits t.vote;
    base = t.base;
    select = fits;
    result = t.result;
    entries = entry_fits left;
    long = kept_length d.history d.phase v ∙ t.long;
  }

  validation_typed : Typed (after_validation d v)
  validation_typed = record {
    run = t.run;
    vote = fits_or v d.base fits t.base;
    base = fits_or v d.base fits t.base;
    select = t.select;
    result = t.result;
    entries = t.entries;
    long = t.long;
  }

  decision_typed : Typed (after_decision d v)
  decision_typed = record {
    run = t.run;
    vote = t.vote;
    base = t.base;
    select = t.select;
    result = elim (if_plan_is d.result d.result v) [
      | inl z ↦ omega (arith, z.1)
      | inr z ↦ omega (arith, z.1, t.result)
    ];
    entries = t.entries;
    long = t.long;
  }

selected_voted : (d : Node) (heard : List Ballot) → Voted (selected d heard) heard
selected_voted d heard = taken_voted (class_of d.crew) d.crew heard

decided_voted : (d : Node) (heard : List Ballot) → Voted (decided d heard) heard
unfolding decision
decided_voted d heard = least_of_voted (decides (class_of d.crew) d.crew d.phase heard) heard

pub take_typed : (d : Node) (inbox : List ℕ) (e : Node) → Typed d → AreBytes inbox → take_of d inbox ≡ accepted e
    → Typed e
take_typed d inbox e typed bytes h =
    let t = take_accepted d inbox e h in
    let heard = ballots d inbox in
    let fits = voted_fits d inbox bytes in
    let after = by_round d heard Typed (sound_facts d t.is_sound)
    (λ one. selection_typed d typed (selected d heard) (fits _ (selected_voted d heard)) t.left)
    (λ two. validation_typed d typed (confirmed d heard) (fits _ (validated_voted d.crew heard)))
    (λ three. decision_typed d typed (decided d heard) (fits _ (decided_voted d heard))) in
    subst Typed t.is_after after

-- Law 4, whole.
pub record KeepsSound : Type 0 where
  -- a start gives a sound record
  pub started : (crew : Crew) (own run plan : ℕ) (d : Node) → start_of crew own run plan ≡ accepted d → sound d ≡ true
  -- an accepted take leaves a sound record, whose fields fit their types where they did before
  pub taken_sound : (d : Node) (inbox : List ℕ) (e : Node) → take_of d inbox ≡ accepted e → sound e ≡ true
  pub taken_typed : (d : Node) (inbox : List ℕ) (e : Node) → Typed d → AreBytes inbox → take_of d inbox ≡ accepted e
      → Typed e
  -- a refused call leaves the record, and a refused write the buffer
  pub take_refused : (d : Node) (inbox : List ℕ) (number : ℕ) → take_of d inbox ≡ refused number
      → after_call d (take_round inbox) ≡ d
  pub write_refused : (d : Node) (buffer : List ℕ) (number : ℕ) → write_coming_of d buffer ≡ refused number
      → (after_call d (write buffer) ≡ d) × (coming_buffer_of d buffer ≡ buffer)
  pub ask_refused : (d : Node) (inbox : List ℕ) (number : ℕ) → ask_of d inbox ≡ refused number
      → after_call d (ask inbox) ≡ d

pub keeps_sound : KeepsSound
keeps_sound = record {
  started = start_sound;
  taken_sound = take_sound;
  taken_typed = take_typed;
  take_refused = λ d inbox number e. ap (value_or d) e;
  write_refused = λ d buffer number e. (refl, ap (buffer_after (coming_bytes d) buffer) e);
  ask_refused = λ d inbox number e. refl;
}
