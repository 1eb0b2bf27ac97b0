-- Demand 3, proved.
use mathlib.Core.Path.{◌≡◌, sym, ap, ◌∙◌, subst}
use Prim.Native.Nat.{ℕ, suc, ◌≤◌, ◌<◌}
use native.Mathlib.Omega.{arith}
use lib.ListN.{length}
use lib.Dec.{T}
use Rattle.wire.specs.Sizes.{spent_phase}
use Rattle.crew.specs.declared.Crew.{Crew}
use Rattle.model.proofs.Voter.{round_number}
use Rattle.model.proofs.Engine.{state}
use Rattle.node.specs.declared.Node.{Node}
use Rattle.agreement.specs.Statement.{Execution, honest, calls, record_at, phase_at, round_at, Early, Premises}
use Rattle.agreement.specs.Statement.{Unspent, Spent, Demand3}
use Rattle.agreement.proofs.Answers.{unspent_calls, take_spent, spent_calls}
use Rattle.agreement.proofs.Calls.{refused_keeps}
use Rattle.agreement.proofs.Places.{place_early, early_is, late_is}
use Rattle.agreement.proofs.Simulation.{run_of, follows, crew_is}
use Rattle.agreement.proofs.Decisions.{result, agreement, common_start}
use Rattle.agreement.proofs.GoodPhase.{good_phase}

module _ (l : Execution) (crew : Crew) (run : ℕ) (pre : Premises l crew run) (p j : ℕ) (h : T (honest l p))
    (inside : j ≤ length l.rounds) where
  abbrev d : Node
  d = record_at l p j

  phase_is : d.phase ≡ (state (run_of l crew) j).phase
  phase_is = ap (λ (x : Node). x.phase) (follows l crew run pre p j h inside).is

  round_is : d.round ≡ round_number (state (run_of l crew) j).round
  round_is = ap (λ (x : Node). x.round) (follows l crew run pre p j h inside).is

  places : Early crew j → ((record_at l p j).phase ≡ phase_at crew j) × ((record_at l p j).round ≡ round_at crew j)
  places early =
      let place = place_early (run_of l crew) j (early_is (run_of l crew) j early) in
      (phase_is ∙ sym place.0, round_is ∙ sym place.1)

  unspent : Early crew j → Unspent crew.n (record_at l p j)
  unspent early =
      let f = follows l crew run pre p j h inside in
      let left : d.phase < spent_phase = omega (arith, phase_is, early_is (run_of l crew) j early) in
      subst (λ (c : Crew). Unspent c.n d) (crew_is l crew run pre p j h inside) (unspent_calls d f.is_sound left)

  spent : spent_phase ≤ phase_at crew j → Spent (record_at l p j) × (record_at l p (suc j) ≡ record_at l p j)
  unfolding record_at
  spent late =
      let f = follows l crew run pre p j h inside in
      let last = late_is (run_of l crew) j late in (
        spent_calls d f.is_sound (phase_is ∙ last.0) (round_is ∙ ap round_number last.1),
        (refused_keeps d (take_spent d f.is_sound (omega (arith, phase_is, last.0))) (calls l p j)).0,
      )

pub demand3 : Demand3
demand3 l crew run pre = record {
  result = result l crew run pre;
  agreement = agreement l crew run pre;
  common_start = common_start l crew run pre;
  good_phase = λ phase circle from early good. good_phase l crew run pre phase early circle good from;
  places = places l crew run pre;
  unspent = unspent l crew run pre;
  spent = spent l crew run pre;
}
