-- Soundness as facts, both ways, and what the types of a record's fields say: with these, later crates take a record
-- apart.
use mathlib.Core.Path.{◌≡◌, refl, sym, ap}
use mathlib.Core.Bool.{Bool, true, false, not, ◌&&◌, ◌||◌, or-true, true≢false}
use mathlib.Core.Logic.{◌⊎◌, inl, inr, ◌≢◌}
use Prim.Native.Nat.{ℕ, ◌-◌, ◌≤◌, ◌<◌}
use native.Mathlib.Omega.{arith}
use native.Mathlib.Decide.{ℕ_discrete, dec_lt}
use lib.ListN.{length, get_or}
use lib.Dec.{leb, ltb, eqb}
use borrow.Author.Tests.{ltb-true, leb-true, eqb-true, eqb-false, not-true, lt-ltb, le-leb, eq-eqb, ne_eqb}
use Rattle.wire.specs.Outcome.{accepted, is_accepted}
use Rattle.wire.proofs.Outcomes.{accepted_is}
use Rattle.wire.proofs.Tests.{both_true}
use Rattle.wire.specs.Sizes.{plan_limit, run_limit, last_phase, spent_phase, history_size}
use Rattle.crew.specs.Acceptance.{accept_of}
use Rattle.node.specs.declared.Node.{Node}
use Rattle.node.specs.Soundness.{
  crew_accepted,
  own_known,
  place_known,
  plans_known,
  stamp_known,
  first_unselected,
  rest_empty,
  sound,
}
use Rattle.node.proofs.Histories.{empty_is, is_empty}

-- 01's sentence on soundness, as facts
pub record Sound (d : Node) : Type 0 where
  pub crew : accept_of d.crew ≡ accepted tt
  pub own : d.own < d.crew.n
  pub phase_from : 1 ≤ d.phase
  pub phase_to : d.phase ≤ spent_phase
  pub round_from : 1 ≤ d.round
  pub round_to : d.round ≤ 3
  pub unvalidated : d.crew.class ≡ 1 → d.round ≢ 2
  pub unspent : 2 ≤ d.round → d.phase ≤ last_phase
  pub vote : 1 ≤ d.vote
  pub base : 1 ≤ d.base
  pub initial : 1 ≤ get_or d.history 0 0
  pub stamp : d.stamp ≤ d.phase
  pub stamp_before : d.round ≤ 2 → d.stamp < d.phase
  pub unstamped : d.crew.class ≡ 1 → d.stamp ≡ 0
  pub empty : (phase : ℕ) → first_unselected d ≤ phase → phase < history_size → get_or d.history phase 0 ≡ 0

-- what the types of the fields say: a run has four bytes, a plan two, a history 64 entries
pub record Typed (d : Node) : Type 0 where
  pub run : d.run < run_limit
  pub vote : d.vote < plan_limit
  pub base : d.base < plan_limit
  pub select : d.select < plan_limit
  pub result : d.result < plan_limit
  pub entries : (phase : ℕ) → get_or d.history phase 0 < plan_limit
  pub long : length d.history ≡ history_size

-- of two tests one passes where either does
either_true : (a b : Bool) → (a || b) ≡ true → (a ≡ true) ⊎ (b ≡ true)
either_true true b e = inl refl
either_true false b e = inr e

-- six tests that pass together pass each
all_six : (a b c d e f : Bool) → (a && b && c && d && e && f) ≡ true
    → (a ≡ true) × (b ≡ true) × (c ≡ true) × (d ≡ true) × (e ≡ true) × (f ≡ true)
all_six a b c d e f h =
    let h₅ = both_true (a && b && c && d && e) f h in
    let h₄ = both_true (a && b && c && d) e h₅.0 in
    let h₃ = both_true (a && b && c) d h₄.0 in
    let h₂ = both_true (a && b) c h₃.0 in
    let h₁ = both_true a b h₂.0 in
    (h₁.0, h₁.1, h₂.1, h₃.1, h₄.1, h₅.1)

-- 01's sentence on soundness as tests that pass, clause by clause; and its clause on the place
record Passes (d : Node) : Type 0 where
  crew : crew_accepted d.crew ≡ true
  own : own_known d ≡ true
  place : place_known d ≡ true
  plans : plans_known d ≡ true
  stamp : stamp_known d ≡ true
  empty : rest_empty d ≡ true

record Placed (d : Node) : Type 0 where
  phase_from : leb 1 d.phase ≡ true
  phase_to : leb d.phase spent_phase ≡ true
  round_from : leb 1 d.round ≡ true
  round_to : leb d.round 3 ≡ true
  unvalidated : not (eqb d.crew.class 1 && eqb d.round 2) ≡ true
  unspent : (eqb d.round 1 || leb d.phase last_phase) ≡ true

sound_passes : (d : Node) → sound d ≡ true → Passes d
unfolding sound
sound_passes d e =
    let t =
    all_six (crew_accepted d.crew) (own_known d) (place_known d) (plans_known d) (stamp_known d) (rest_empty d) e in
    record { crew = t.0; own = t.1; place = t.2; plans = t.3; stamp = t.4; empty = t.5 }

known_placed : (d : Node) → place_known d ≡ true → Placed d
known_placed d e =
    let t = all_six (leb 1 d.phase) (leb d.phase spent_phase) (leb 1 d.round) (leb d.round 3) _ _ e in
    record {
      phase_from = t.0;
      phase_to = t.1;
      round_from = t.2;
      round_to = t.3;
      unvalidated = t.4;
      unspent = t.5;
    }

-- class 1 has no round 2
no_validation : (class round : ℕ) → not (eqb class 1 && eqb round 2) ≡ true → class ≡ 1 → round ≢ 2
no_validation class round e one two =
    true≢false (sym (simp (eq-eqb class 1 one, eq-eqb round 2 two) at e))

pub sound_facts : (d : Node) → sound d ≡ true → Sound d
sound_facts d e =
    let tests = sound_passes d e in
    let place = known_placed d tests.place in
    let plans = both_true (leb 1 d.vote && leb 1 d.base) _ tests.plans in
    let votes = both_true (leb 1 d.vote) (leb 1 d.base) plans.0 in
    let stamps = both_true (ltb d.stamp d.phase || (eqb d.stamp d.phase && eqb d.round 3)) _
    tests.stamp in
    record {
      crew = accepted_is (accept_of d.crew) tests.crew;
      own = ltb-true _ _ tests.own;
      phase_from = leb-true _ _ place.phase_from;
      phase_to = leb-true _ _ place.phase_to;
      round_from = leb-true _ _ place.round_from;
      round_to = leb-true _ _ place.round_to;
      unvalidated = no_validation d.crew.class d.round place.unvalidated;
      unspent = λ late. elim (either_true (eqb d.round 1) (leb d.phase last_phase) place.unspent) [
        | inl one ↦ absurd (omega (arith, eqb-true d.round 1 one))
        | inr last ↦ leb-true _ _ last
      ];
      vote = leb-true _ _ votes.0;
      base = leb-true _ _ votes.1;
      initial = leb-true _ _ plans.1;
      stamp = elim (either_true (ltb d.stamp d.phase) _ stamps.0) [
        | inl below ↦ omega (arith, ltb-true d.stamp d.phase below)
        | inr same ↦ omega (arith, eqb-true d.stamp d.phase (both_true _ (eqb d.round 3) same).0)
      ];
      stamp_before = λ early. elim (either_true (ltb d.stamp d.phase) _ stamps.0) [
        | inl below ↦ ltb-true _ _ below
        | inr same ↦ absurd (omega (arith, eqb-true d.round 3 (both_true (eqb d.stamp d.phase) _ same).1))
      ];
      unstamped = λ one. elim (either_true (not (eqb d.crew.class 1)) (eqb d.stamp 0) stamps.1) [
        | inl other ↦ absurd (eqb-false _ _ (not-true _ other) one)
        | inr zero ↦ eqb-true _ _ zero
      ];
      empty = λ phase from to.
          is_empty d.history (first_unselected d) (history_size - first_unselected d) tests.empty phase from
          (omega arith);
    }

all_true : (a b c d e f : Bool) → a ≡ true → b ≡ true → c ≡ true → d ≡ true → e ≡ true → f ≡ true
    → (a && b && c && d && e && f) ≡ true
all_true a b c d e f ha hb hc hd he hf = rw (ha, hb, hc, hd, he, hf)

validation_allowed : (class round : ℕ) → (class ≡ 1 → round ≢ 2) → not (eqb class 1 && eqb round 2) ≡ true
validation_allowed class round h = elim (ℕ_discrete class 1) [
  | yes one ↦ simp (eq-eqb class 1 one, ne_eqb round 2 (h one))
  | no other ↦ simp (ne_eqb class 1 other)
]

round_left : (round phase : ℕ) → 1 ≤ round → (2 ≤ round → phase ≤ last_phase)
    → (eqb round 1 || leb phase last_phase) ≡ true
round_left round phase from h = elim (ℕ_discrete round 1) [
  | yes one ↦ simp (eq-eqb round 1 one)
  | no late ↦ simp (le-leb phase last_phase (h (omega arith)), or-true)
]

stamp_place_lem : (stamp phase round : ℕ) → round ≤ 3 → stamp ≤ phase → (round ≤ 2 → stamp < phase)
    → (ltb stamp phase || (eqb stamp phase && eqb round 3)) ≡ true
stamp_place_lem stamp phase round to most h = elim (dec_lt stamp phase) [
  | yes below ↦ simp (lt-ltb stamp phase below)
  | no same ↦ elim (dec_lt round 3) [
    | yes early ↦ absurd (omega (arith, h (omega arith)))
    | no last ↦ simp (eq-eqb stamp phase (omega arith), eq-eqb round 3 (omega arith), or-true)
  ]
]

stamp_class : (class stamp : ℕ) → (class ≡ 1 → stamp ≡ 0) → (not (eqb class 1) || eqb stamp 0) ≡ true
stamp_class class stamp h = elim (ℕ_discrete class 1) [
  | yes one ↦ simp (eq-eqb stamp 0 (h one), or-true)
  | no other ↦ simp (ne_eqb class 1 other)
]

pub facts_sound : (d : Node) → Sound d → sound d ≡ true
unfolding sound
facts_sound d s =
    let phase_from = le-leb _ _ s.phase_from in
    let phase_to = le-leb _ _ s.phase_to in
    let round_from = le-leb _ _ s.round_from in
    let round_to = le-leb _ _ s.round_to in
    let rounds = validation_allowed d.crew.class d.round s.unvalidated in
    let last = round_left d.round d.phase s.round_from s.unspent in
    let place = all_true _ _ _ _ _ _ phase_from phase_to round_from round_to rounds last in
    let vote = le-leb _ _ s.vote in
    let base = le-leb _ _ s.base in
    let initial = le-leb _ _ s.initial in
    let stamp = stamp_place_lem d.stamp d.phase d.round s.round_to s.stamp s.stamp_before in
    let class = stamp_class d.crew.class d.stamp s.unstamped in
    let rest = empty_is d.history (first_unselected d) (history_size - first_unselected d)
    (λ phase from to. s.empty phase from (omega arith)) in
    all_true _ _ _ _ _ _ (ap is_accepted s.crew) (lt-ltb _ _ s.own) place (rw (vote, base, initial))
    (rw (stamp, class)) rest

-- a sound record's round is 1, 2 or 3
pub last_round : {d : Node} → Sound d → d.round ≢ 1 → d.round ≢ 2 → d.round ≡ 3
last_round s first second = omega (arith, s.round_from, s.round_to)
