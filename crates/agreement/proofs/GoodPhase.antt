-- A good phase of the list is one of the abstract engine, so its circle decides.
use mathlib.Core.Path.{◌≡◌, sym, ap, ◌∙◌}
use mathlib.Core.Bool.{Bool}
use mathlib.Core.Option.{none, none-ne-some}
use Prim.Native.Nat.{ℕ, ◌≤◌, ◌<◌}
use native.Mathlib.Omega.{arith}
use lib.Dec.{T}
use borrow.Author.Tests.{eq-eqb}
use Rattle.wire.specs.Sizes.{spent_phase}
use Rattle.crew.specs.declared.Crew.{Crew}
use Rattle.crew.specs.Thresholds.{one, class_of}
use Rattle.ballot.specs.Count.{count_if}
use Rattle.ballot.specs.Ballot.{inbox, same_ballot}
use Rattle.model.proofs.Voter.{round_number}
use Rattle.model.proofs.Engine as model
use Rattle.model.proofs.Engine.{saying, state, Held}
use Rattle.model.proofs.Theorems as engine
use Rattle.agreement.specs.Statement.{Execution, record_at, phase_at, round_at, Premises, Wins}
use Rattle.agreement.specs.Statement.{ballots_in, heard, Good}
use Rattle.agreement.proofs.Written.{forward}
use Rattle.agreement.proofs.Places.{place_early}
use Rattle.agreement.proofs.Simulation.{slot_in, said, run_of, crew_is, heard_is, honest_below, took}
use Rattle.agreement.proofs.Simulation.{coming_is}
use Rattle.agreement.proofs.Faithful.{admissible}
use Rattle.agreement.proofs.Decisions.{decides_wins}

-- class 1 by its number
class_one : (crew : Crew) → crew.class ≡ 1 → class_of crew ≡ one
class_one crew first = rw (eq-eqb crew.class 1 first)

module _ (l : Execution) (crew : Crew) (run : ℕ) (pre : Premises l crew run) (phase : ℕ) (early : phase < spent_phase)
    (circle : ℕ → Bool) (good : Good l crew phase circle) where
  -- a round of the phase is in the list, before the records are spent
  held : (j : ℕ) → (state (run_of l crew) j).phase ≡ phase → Held (run_of l crew) j
  held j e =
      let left : (state (run_of l crew) j).phase < spent_phase = omega arith in
      (good.complete j ((place_early (run_of l crew) j left).0 ∙ e), left)

  -- its place is the state's
  place_is : (j : ℕ) → (state (run_of l crew) j).phase ≡ phase
      → (phase_at crew j ≡ phase) × (round_at crew j ≡ round_number (state (run_of l crew) j).round)
  place_is j e = let place = place_early (run_of l crew) j (held j e).1 in (place.0 ∙ e, place.1)

  -- the counting messages, from the bytes and as the engine has them
  same_heard : (j p : ℕ) → (state (run_of l crew) j).phase ≡ phase → T (circle p)
      → heard l p j ≡ inbox crew (said l j p)
  same_heard j p e k =
      let h = good.inside p k in
      let t = took l crew run pre p j h (held j e) in
      let same_crew = crew_is l crew run pre p j h (omega (arith, (held j e).0)) in
      ap (ballots_in (record_at l p j)) t.taken ∙ heard_is l crew run pre p j same_crew t.bytes t.taken

  speaks : (j p q : ℕ) → (state (run_of l crew) j).phase ≡ phase → T (circle p) → T (circle q)
      → (saying (class_of crew) crew (state (run_of l crew) j) q ≡ none → ⊥) → said l j p q ≡ none → ⊥
  speaks j p q e kp kq loud absent =
      let same = coming_is l crew run pre q j (good.inside q kq) (omega (arith, (held j e).0)) in
      let counts = good.counts j p q (place_is j e).0 kp kq (λ silent. loud (sym same ∙ ap forward silent)) in
      none-ne-some _ (sym absent ∙ ap (λ o. slot_in (record_at l p j) o q) counts.2.0 ∙ counts.2.1)

  good_run : model.GoodFor (run_of l crew) phase circle
  good_run = record {
    inside = λ q lq kq. good.inside q kq;
    wide = good.wide;
    group = λ later. good.group (λ first. later (class_one crew first));
    complete = λ j e. (held j e).0;
    equal = λ j e first p lp kp q lq kq m.
        ap (count_if (same_ballot m)) (sym (same_heard j p e kp))
        ∙ good.equal j p q (place_is j e).0 ((place_is j e).1 ∙ ap round_number first) kp kq m
        ∙ ap (count_if (same_ballot m)) (same_heard j q e kq);
    counts = λ j e p lp kp q lq kq loud. speaks j p q e kp kq loud;
  }

  pub good_phase : 1 ≤ phase → (p : ℕ) → T (circle p)
      → (j : ℕ) × (v : ℕ) × (phase_at crew j ≤ phase) × Wins l crew p j v
  good_phase from p k =
      let h = good.inside p k in
      let d = engine.good_phase (run_of l crew) (admissible l crew run pre) phase from early circle good_run p
      (honest_below l crew run pre p h) k in
      (d.0, d.1, omega (arith, (place_is d.0 d.2).0), decides_wins l crew run pre p d.0 d.1 h d.3)
