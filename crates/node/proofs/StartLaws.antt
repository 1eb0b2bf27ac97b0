-- What a start answers, case by case, and what an accepted start gives: the first part of law 4 of the engine.
use mathlib.Core.Path.{◌≡◌, refl, sym, subst, ◌∙◌}
use mathlib.Core.Bool.{true, false}
use Prim.Native.Nat.{ℕ, ◌≤◌, ◌<◌}
use native.Mathlib.Omega.{arith}
use native.Mathlib.Decide.{ℕ_discrete}
use lib.ListN.{get_or, set, replicate, length-set, length-replicate}
use lib.Seq.{get_or-set_same, get_or-set_other}
use lib.Dec.{leb, ltb}
use borrow.Author.Tests.{ltb-true, leb-true, lt-ltb, le-ltb, le-leb}
use Rattle.wire.specs.Outcome.{Outcome, accepted, refused, after}
use Rattle.wire.proofs.Arrays.{same_everywhere}
use Rattle.wire.proofs.Outcomes.{passed, refused_not_accepted}
use Rattle.wire.specs.Sizes.{plan_limit, run_limit, history_size}
use Rattle.crew.specs.declared.Crew.{Crew}
use Rattle.crew.specs.Acceptance.{accept_of}
use Rattle.node.specs.declared.Node.{Node}
use Rattle.node.specs.Record.{begun, blank}
use Rattle.node.specs.Soundness.{sound}
use Rattle.node.specs.Starting.{start_of}
use Rattle.node.proofs.Facts.{Typed, facts_sound}

module _ (crew : Crew) (own run plan : ℕ) where
  pub start_begins : accept_of crew ≡ accepted tt → own < crew.n → 1 ≤ plan
      → start_of crew own run plan ≡ accepted (begun crew own run plan)
  unfolding start_of
  start_begins ok small some = simp (ok, lt-ltb _ _ small, le-leb _ _ some)

  pub start_without_plan : accept_of crew ≡ accepted tt → own < crew.n → plan ≡ 0
      → start_of crew own run plan ≡ refused 6
  unfolding start_of
  start_without_plan ok small none = simp (ok, lt-ltb _ _ small, none)

  pub start_beyond_crew : accept_of crew ≡ accepted tt → crew.n ≤ own → start_of crew own run plan ≡ refused 5
  unfolding start_of
  start_beyond_crew ok large = simp (ok, le-ltb _ _ large)

  pub start_without_crew : (number : ℕ) → accept_of crew ≡ refused number → start_of crew own run plan ≡ refused number
  unfolding start_of
  start_without_crew number e = simp e

-- an operation that goes before another was accepted where the whole is
after_accepted : {A : Type 0} (before : Outcome (Unit {0})) (next : Outcome A) {value : A}
    → after before next ≡ accepted value → (before ≡ accepted tt) × (next ≡ accepted value)
after_accepted (accepted value) next e = (refl, e)
after_accepted (refused number) next e = absurd (refused_not_accepted number _ e)

-- an accepted start: what was asked of it holds, and its record is the one that a node begins with
pub record Begins (crew : Crew) (own run plan : ℕ) (d : Node) : Type 0 where
  pub crew_accepted : accept_of crew ≡ accepted tt
  pub own_below : own < crew.n
  pub plan_given : 1 ≤ plan
  pub is_begun : d ≡ begun crew own run plan

pub start_accepted : (crew : Crew) (own run plan : ℕ) (d : Node) → start_of crew own run plan ≡ accepted d
    → Begins crew own run plan d
unfolding start_of
start_accepted crew own run plan d e =
    let whole = after_accepted (accept_of crew) _ e in
    let small = passed (ltb own crew.n) 5 _ whole.1 in
    let given = passed (leb 1 plan) 6 _ small.1 in
    record {
      crew_accepted = whole.0;
      own_below = ltb-true _ _ small.0;
      plan_given = leb-true _ _ given.0;
      is_begun = cc given.1;
    }

-- the first history: the initial plan, then nothing
first_plan : (plan : ℕ) → get_or (set (replicate history_size 0) 0 plan) 0 0 ≡ plan
first_plan plan = get_or-set_same (replicate history_size 0) 0 plan 0 (rw length-replicate (omega arith))

then_nothing : (plan phase : ℕ) → 1 ≤ phase → get_or (set (replicate history_size 0) 0 plan) phase 0 ≡ 0
then_nothing plan phase h =
    get_or-set_other (replicate history_size 0) 0 phase plan 0 (λ e. omega arith)
    ∙ same_everywhere history_size phase 0

-- law 4, its first part: a started record is sound
pub start_sound : (crew : Crew) (own run plan : ℕ) (d : Node) → start_of crew own run plan ≡ accepted d → sound d ≡ true
unfolding begun
start_sound crew own run plan d e =
    let b = start_accepted crew own run plan d e in
    rw b.is_begun (facts_sound (begun crew own run plan) record {
      crew = b.crew_accepted;
      own = b.own_below;
      phase_from = omega arith;
      phase_to = omega arith;
      round_from = omega arith;
      round_to = omega arith;
      unvalidated = λ one two. omega arith;
      unspent = λ late. omega arith;
      vote = b.plan_given;
      base = b.plan_given;
      initial = rw (first_plan plan) b.plan_given;
      stamp = omega arith;
      stamp_before = λ early. omega arith;
      unstamped = λ one. refl;
      empty = λ phase from to. then_nothing plan phase (omega arith);
    })

-- its fields fit their types where the run and the plan do
pub start_typed : (crew : Crew) (own run plan : ℕ) (d : Node) → start_of crew own run plan ≡ accepted d
    → run < run_limit → plan < plan_limit → Typed d
unfolding begun
start_typed crew own run plan d e run_fits plan-fits =
    subst Typed (sym (start_accepted crew own run plan d e).is_begun) record {
      run = run_fits;
      vote = plan-fits;
      base = plan-fits;
      select = omega arith;
      result = omega arith;
      entries = λ phase. elim (ℕ_discrete phase 0) [
        | yes first ↦ rw (first, first_plan plan) plan-fits
        | no later ↦ rw (then_nothing plan phase (omega arith)) (omega arith)
      ];
      long = length-set (replicate history_size 0) 0 plan ∙ length-replicate {A = ℕ} history_size 0;
    }

-- the record that a refused start shows is not sound
pub blank_unsound : sound blank ≡ false
unfolding sound blank accept_of
blank_unsound = refl
