-- A sound record's crew has a place for each node in the columns, an inbox of its own can be walked, and what its round
-- comes to is what the rules say of its ballots.
use mathlib.Core.Path.{◌≡◌, refl, sym, ap, ◌∙◌}
use mathlib.Core.Bool.{Bool, true, false, cond}
use mathlib.Core.List.{List}
use Prim.Native.Nat.{ℕ, ◌*◌, ◌<◌, ◌≤◌}
use native.Mathlib.Omega.{arith}
use lib.Dec.{eqb}
use lib.ListN.{length, get_or}
use borrow.Author.Tests.{eqb-true, eqb-false, eq-eqb}
use Rattle.wire.specs.Sizes.{last_phase, spent_phase}
use Rattle.crew.specs.declared.Crew.{Crew}
use Rattle.crew.specs.Thresholds.{Class, one, two, three, class_of}
use Rattle.crew.proofs.Facts.{accepts}
use Rattle.message.specs.Layout.{slot_size}
use Rattle.ballot.specs.Ballot.{Ballot}
use Rattle.ballot.specs.Selection.{plan, nothing, taken}
use Rattle.ballot.specs.Validation.{validated}
use Rattle.ballot.specs.Decision.{decision}
use Rattle.node.specs.declared.Node.{Node}
use Rattle.node.specs.Soundness.{first_unselected, sound}
use Rattle.node.proofs.Facts.{sound_facts}
use Rattle.rounds.specs.Taking.{after_selection, after_validation, after_decision, after_round}
use Rattle.rounds.specs.Steps.{coming_round, plan_if, plan_in, ruled, OwnInbox, Heard, after_plan}

-- the classes by number, which tells them apart
abbrev pub number : Class → ℕ
number one = 1
number two = 2
number three = 3

-- a crew that selects as class 3 does is of class 3, where its class is one of the three
pub three_is : (crew : Crew) → 1 ≤ crew.class → crew.class ≤ 3 → class_of crew ≡ three → crew.class ≡ 3
three_is crew from to is = go (eqb crew.class 1) refl (eqb crew.class 2) refl (ap number is)
  where
    go : (first : Bool) → eqb crew.class 1 ≡ first → (second : Bool) → eqb crew.class 2 ≡ second
        → number (cond first one (cond second two three)) ≡ 3 → crew.class ≡ 3
    go true e second f is = absurd (omega arith)
    go false e true f is = absurd (omega arith)
    go false e false f is = omega (arith, eqb-false crew.class 1 e, eqb-false crew.class 2 f)

-- a sound record with an inbox of its own
pub sound_own : (d : Node) (bytes : List ℕ) → sound d ≡ true → length bytes ≡ slot_size * d.crew.n
    → OwnInbox d.crew bytes
sound_own d bytes ok whole =
    record { places = (accepts d.crew (sound_facts d ok).crew).quorum.size_to; whole = whole }

-- and where the record is not spent
pub sound_heard : (d : Node) (asked : Bool) (bytes : List ℕ) (fill : ℕ) → sound d ≡ true → d.phase < spent_phase
    → length bytes ≡ slot_size * d.crew.n → fill ≡ get_or d.history last_phase 0
    → Heard (coming_round d asked) bytes fill
sound_heard d asked bytes fill ok early whole is =
    let facts = sound_facts d ok in
    let crew = (accepts d.crew facts.crew).quorum in
    record {
      own = sound_own d bytes ok whole;
      class_from = crew.class_from;
      class_to = crew.class_to;
      early = early;
      empty = λ first.
          let from : first_unselected d ≤ last_phase = rw (eq-eqb _ _ first) (omega arith) in
          is ∙ facts.empty last_phase from (omega arith);
    }

-- the plan that an answer stands for
plan_kept : (v : ℕ) → plan_in (plan_if v) ≡ v
plan_kept v = go (eqb v 0) refl
  where
    go : (b : Bool) → eqb v 0 ≡ b → plan_in (cond b nothing (plan v)) ≡ v
    go true e = sym (eqb-true v 0 e)
    go false e = refl

-- the record after what a round comes to is the record after the round
pub after_ruled : (d : Node) (heard : List Ballot)
    → after_plan d (plan_in (ruled (coming_round d false) heard)) ≡ after_round d heard
unfolding after_round
after_ruled d heard = by_round (eqb d.round 1) (eqb d.round 2)
  where
    selected : ℕ
    selected = taken (class_of d.crew) d.crew heard

    valid : ℕ
    valid = validated d.crew heard

    decided : ℕ
    decided = decision (class_of d.crew) d.crew d.phase heard

    after : Bool → Bool → ℕ → Node
    after first second v = cond first (after_selection d v) (cond second (after_validation d v) (after_decision d v))

    by_round : (first second : Bool)
        → after first second (plan_in (cond first (plan_if selected) (cond second (plan_if valid) (plan_if decided))))
        ≡ cond first (after_selection d selected) (cond second (after_validation d valid) (after_decision d decided))
    by_round true second = ap (after_selection d) (plan_kept selected)
    by_round false true = ap (after_validation d) (plan_kept valid)
    by_round false false = ap (after_decision d) (plan_kept decided)
