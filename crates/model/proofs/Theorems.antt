-- What holds of every run that meets the premises of demand 3, whatever its crew's class: agreement, common start, good
-- phases, and what a standing result is. The byte layer builds on these.
use mathlib.Core.Path.{◌≡◌, sym, ◌∙◌}
use mathlib.Core.Bool.{Bool}
use mathlib.Core.Logic.{◌⊎◌, inl, inr, ◌≢◌, ◌↔◌}
use Prim.Native.Nat.{ℕ, ◌≤◌, ◌<◌}
use native.Mathlib.Omega.{arith}
use Rattle.wire.specs.Sizes.{spent_phase}
use Rattle.crew.proofs.Facts.{accepts, group_small}
use Rattle.model.proofs.Voter.{validating}
use Rattle.model.proofs.Engine.{Each, Run, class, state, Held, Admissible, GoodFor}
use Rattle.model.proofs.Engine.{validated_at, DecidesAt, HasDecided, NotYet, FirstDecision, last_result}
use Rattle.model.proofs.Run.{locked_agreement, locked_start}
use Rattle.model.proofs.Invariant.{unique_in_round}
use Rattle.model.proofs.Classes.{lock, run_invariant}
use Rattle.model.proofs.Results.{decided_plan, result_is}
use Rattle.model.proofs.GoodRun.{phase_decides}

module _ (run : Run) (ok : Admissible run) where
  -- Unique validation: honest nodes that validate a plan in a round validate the same one.
  pub one_validation : (j : ℕ) → Held run j → (state run j).round ≡ validating
      → Each run.crew run.honest λ p. Each run.crew run.honest λ q.
      validated_at run j p ≢ 0 → validated_at run j q ≢ 0 → validated_at run j p ≡ validated_at run j q
  one_validation j held r =
      unique_in_round (class run) run.crew run.honest ok.few
      (group_small (accepts run.crew ok.crew_accepted)) (run.rounds j) (state run j).phase
      (state run j).round (state run j).node r (ok.faithful j held)

  -- Agreement: whatever honest nodes decide, in whatever rounds, is one plan.
  pub agreement : Each run.crew run.honest λ p. Each run.crew run.honest λ q.
      (i j v w : ℕ) → DecidesAt run i p v → DecidesAt run j q w → v ≡ w
  agreement = locked_agreement run (lock run ok) ok.faithful

  -- Common start: where all honest nodes begin with v, nothing else is decided.
  pub common_start : (v : ℕ) → Each run.crew run.honest (λ q. run.plans q ≡ v)
      → Each run.crew run.honest λ p. (j w : ℕ) → DecidesAt run j p w → w ≡ v
  common_start = locked_start run (lock run ok) ok.faithful

  -- Good phase: it decides its whole circle, whatever went before.
  pub good_phase : (phase : ℕ) → 1 ≤ phase → phase < spent_phase → (circle : ℕ → Bool) → GoodFor run phase circle
      → Each run.crew circle λ p. (j : ℕ) × (v : ℕ) × ((state run j).phase ≡ phase) × DecidesAt run j p v
  good_phase phase from early circle good = phase_decides run ok phase early circle good from (run_invariant run ok)

  -- A standing result is the plan that the node decided, and 0 where it has decided none.
  pub result : Each run.crew run.honest λ p.
      FirstDecision run p run.total (last_result run p) ⊎ (NotYet run p run.total × (last_result run p ≡ 0))
  result p lp hp = result_is run ok p lp hp run.total (omega arith)

  -- Standing results of two honest nodes are equal exactly when both have decided or neither has.
  pub results_equal : Each run.crew run.honest λ p. Each run.crew run.honest λ q.
      (last_result run p ≡ last_result run q)
      ↔ ((HasDecided run p → HasDecided run q) × (HasDecided run q → HasDecided run p))
  results_equal p lp hp q lq hq = (
    λ e. (follows p lp hp q lq hq e, follows q lq hq p lp hp (sym e)),
    λ both. elim (result p lp hp) [
      | inl r ↦ elim (result q lq hq) [
        | inl u ↦ agreement p lp hp q lq hq r.round u.round _ _ r.decides u.decides
        | inr u ↦ absurd (undecided q (both.0 (r.round, last_result run p, r.decides)) u.0)
      ]
      | inr r ↦ elim (result q lq hq) [
        | inl u ↦ absurd (undecided p (both.1 (u.round, last_result run q, u.decides)) r.0)
        | inr u ↦ r.1 ∙ sym u.1
      ]
    ],
  )
    where
      undecided : (p : ℕ) → HasDecided run p → NotYet run p run.total → ⊥
      undecided p d u = u d.0 d.1 d.2.0.0 d.2

      follows : Each run.crew run.honest λ p. Each run.crew run.honest λ q.
          last_result run p ≡ last_result run q → HasDecided run p → HasDecided run q
      follows p lp hp q lq hq e d = elim (result q lq hq) [
        | inl u ↦ (u.round, last_result run q, u.decides)
        | inr u ↦ elim (result p lp hp) [
          | inl r ↦ absurd (decided_plan run ok p lp hp r.round (last_result run p) r.decides (e ∙ u.1))
          | inr r ↦ absurd (undecided p d r.0)
        ]
      ]
