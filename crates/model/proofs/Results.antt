-- A node's result is the plan that it decided, and 0 where it has decided none.
use mathlib.Core.Path.{◌≡◌, refl, ap, subst}
use mathlib.Core.List.{List}
use mathlib.Core.Logic.{◌⊎◌, inl, inr, ◌≢◌}
use Prim.Native.Nat.{ℕ, zero, suc, ◌≤◌, ◌<◌}
use native.Mathlib.Omega.{arith}
use native.Mathlib.Decide.{ℕ_discrete}
use lib.Dec.{T, eqb→eq}
use Rattle.crew.proofs.Facts.{accepts, quorum_positive}
use Rattle.ballot.specs.Count.{count_if}
use Rattle.ballot.specs.Ballot.{Ballot, inbox, votes}
use Rattle.ballot.specs.Decision.{decision}
use Rattle.ballot.proofs.Slots.{no_slot_counts}
use Rattle.ballot.proofs.Decision.{decision_decides, decides_voted, decision_least, decision_plan}
use Rattle.model.proofs.Voter.{Round, selecting, validating, deciding, round_number, turn}
use Rattle.model.proofs.Engine.{Run, class, state, Held, DecidesAt, NotYet, FirstDecision, Admissible}
use Rattle.model.proofs.Voters.{if_plan_is}
use Rattle.model.proofs.Run.{moves}

module _ (run : Run) (ok : Admissible run) (p : ℕ) (lp : p < run.crew.n) (hp : T (run.honest p)) where
  abbrev ballots : ℕ → List Ballot
  ballots j = inbox run.crew (run.rounds j p)

  quorum : 0 < run.crew.d
  quorum = quorum_positive (accepts run.crew ok.crew_accepted).quorum

  pub no_zero_votes : (j : ℕ) → Held run j → count_if (votes 0) (inbox run.crew (run.rounds j p)) ≡ 0
  no_zero_votes j h = no_slot_counts run.crew (run.rounds j p) (votes 0) λ q lq m e t.
      ok.plans j h p lp hp q lq m e (eqb→eq m.vote 0 t)

  -- what a node decides is a plan
  pub decided_plan : (j v : ℕ) → DecidesAt run j p v → v ≢ 0
  decided_plan j v d e =
      let voted = decides_voted (class run) run.crew (state run j).phase (ballots j) quorum v d.1.1 in
      omega (arith, no_zero_votes j d.0, ap (λ x. count_if (votes x) (ballots j)) e)

  -- the plan decided in the first j rounds, or 0
  abbrev Result : ℕ → ℕ → Type 0
  Result j v = FirstDecision run p j v ⊎ (NotYet run p j × (v ≡ 0))

  -- one round more does not change a plan that was decided
  longer : (j v : ℕ) → FirstDecision run p j v → Result (suc j) v
  longer j v r = inl (record {
    round = r.round;
    before = omega (arith, r.before);
    decides = r.decides;
    least = r.least;
    first = r.first;
  })

  -- a round without a decision
  idle : (j v : ℕ) → ((w : ℕ) → DecidesAt run j p w → ⊥) → Result j v → Result (suc j) v
  idle j v quiet (inl r) = longer j v r
  idle j v quiet (inr r) = inr (
    λ i w t d. elim (ℕ_discrete i j) [
      | yes e ↦ quiet w (subst (λ x. DecidesAt run x p w) e d)
      | no e ↦ r.0 i w (omega arith) d
    ],
    r.1,
  )

  -- Round 3: a result that stands is kept, and otherwise the decision becomes the result.

  abbrev decided : ℕ → ℕ
  decided j = decision (class run) run.crew (state run j).phase (ballots j)

  module _ (j : ℕ) (held : Held run j) (r : (state run j).round ≡ deciding) where
    decision_result : NotYet run p j → Dec (decided j ≡ 0) → Result (suc j) (decided j)
    decision_result free (yes z) =
        let no_zero = no_zero_votes j held in
        idle j (decided j)
        (λ u d. decision_plan (class run) run.crew (state run j).phase (ballots j) quorum u d.1.1 no_zero z)
        (inr (free, z))
    decision_result free (no z) = inl (record {
      round = j;
      before = omega arith;
      decides = (held, (r, decision_decides (class run) run.crew (state run j).phase (ballots j) z));
      least = λ u d. decision_least (class run) run.crew (state run j).phase (ballots j) quorum u d.1.1;
      first = free;
    })

    settles : (v after : ℕ) → (v ≢ 0 → after ≡ v) → (v ≡ 0 → after ≡ decided j) → Result j v → Result (suc j) after
    settles v after keeps takes (inl s) = rw (keeps (decided_plan s.round v s.decides)) (longer j v s)
    settles v after keeps takes (inr s) = rw (takes s.1) (decision_result s.0 (ℕ_discrete (decided j) 0))

  takes_round : (j : ℕ) → Held run j → (round : Round) → (state run j).round ≡ round
      → Result j ((state run j).node p).result
      → Result (suc j)
      (turn (class run) run.crew (state run j).phase round (ballots j) ((state run j).node p)).result
  takes_round j held selecting r s =
      idle j _ (λ w d. omega (arith, ap round_number r, ap round_number d.1.0)) s
  takes_round j held validating r s =
      idle j _ (λ w d. omega (arith, ap round_number r, ap round_number d.1.0)) s
  takes_round j held deciding r s =
      let v = ((state run j).node p).result in
      settles j held r v _
      (λ plan. elim (if_plan_is v v (decided j)) [ inl z ↦ absurd (plan z.0) | inr z ↦ omega arith ])
      (λ free. elim (if_plan_is v v (decided j)) [ inl z ↦ omega arith | inr z ↦ absurd (z.0 free) ])
      s

  pub result_is : (j : ℕ) → j ≤ run.total
      → FirstDecision run p j ((state run j).node p).result ⊎ (NotYet run p j × (((state run j).node p).result ≡ 0))
  unfolding state
  result_is zero h = inr (λ i v t d. omega arith, refl)
  result_is (suc j) h =
      let before = result_is j (omega arith) in
      moves run (λ s. Result (suc j) (s.node p).result) j
      (λ t. takes_round j (omega arith, t) (state run j).round refl before)
      (λ t. idle j _ (λ w d. omega (arith, d.0.1)) before)
