-- Decisions from the inboxes are the abstract engine's, so its theorems hold of them: standing results, agreement
-- and common start.
use mathlib.Core.Path.{◌≡◌, refl, sym, ap, ◌∙◌, subst}
use mathlib.Core.List.{List}
use mathlib.Core.Logic.{◌⊎◌, inl, inr, ◌↔◌}
use mathlib.Core.Option.{some, none-ne-some}
use Prim.Native.Nat.{ℕ}
use native.Mathlib.Omega.{arith}
use native.Mathlib.Decide.{dec_lt}
use lib.ListN.{length}
use lib.Dec.{T, leb, leb→le, le→leb, ltb→lt}
use Rattle.wire.specs.Sizes.{spent_phase}
use Rattle.wire.specs.Outcome.{is_accepted}
use Rattle.crew.specs.declared.Crew.{Crew}
use Rattle.crew.specs.Thresholds.{class_of}
use Rattle.ballot.specs.Count.{tally, holds}
use Rattle.ballot.specs.Ballot.{inbox}
use Rattle.ballot.specs.Decision.{decides}
use Rattle.ballot.proofs.Counting.{count_gather}
use Rattle.model.proofs.Voter.{Round, selecting, validating, deciding, round_number}
use Rattle.model.proofs.Engine as model
use Rattle.model.proofs.Engine.{state, Held, DecidesAt}
use Rattle.model.proofs.Theorems as engine
use Rattle.node.specs.declared.Node.{Node}
use Rattle.node.specs.Record.{begun}
use Rattle.node.proofs.StartLaws.{start_accepted}
use Rattle.inbox.specs.Inbox.{ballot_at}
use Rattle.agreement.specs.Statement.{Execution, answer_to, made, honest, record_of, record_at}
use Rattle.agreement.specs.Statement.{inbox_at, phase_at, Every, Premises, is_for, Wins, Decided, PlanDecided}
use Rattle.agreement.specs.Statement.{standing}
use Rattle.agreement.proofs.Calls.{taken_inside}
use Rattle.agreement.proofs.Starts.{started}
use Rattle.agreement.proofs.Places.{place_early}
use Rattle.agreement.proofs.Simulation.{slot_in, said, run_of, follows, honest_below, took, took_none}
use Rattle.agreement.proofs.Faithful.{admissible}

-- round 3 is the decision
third_round : (round : Round) → round_number round ≡ 3 → round ≡ deciding
third_round selecting e = absurd (omega arith)
third_round validating e = absurd (omega arith)
third_round deciding e = refl

module _ (l : Execution) (crew : Crew) (run : ℕ) (pre : Premises l crew run) where
  -- The slots that are for a plan, counted from the bytes and as the engine has them.

  decides_is : (p j phase v : ℕ) (bytes : List ℕ) → inbox_at l p j ≡ some bytes
      → decides (class_of crew) crew phase (inbox crew (said l j p)) v
      ≡ leb crew.d (tally (λ q. holds (is_for crew phase v) (ballot_at (record_at l p j) bytes q)) crew.n)
  unfolding decides
  decides_is p j phase v bytes e =
      let test = is_for crew phase v in
      ap (leb crew.d)
      (count_gather test (said l j p) crew.n
      ∙ ap (λ o. tally (λ q. holds test (slot_in (record_at l p j) o q)) crew.n) e)

  -- a round in which an honest node took an inbox is in the list, and comes before the records are spent
  took_held : (p j : ℕ) → T (honest l p) → (bytes : List ℕ) → inbox_at l p j ≡ some bytes → Held (run_of l crew) j
  took_held p j h bytes e =
      let inside = taken_inside l p j bytes e in
      elim (dec_lt (state (run_of l crew) j).phase spent_phase) [
        | yes left ↦ (inside, left)
        | no spent ↦
            let nothing = took_none l crew run pre p j h (omega arith) (omega arith) in
            absurd (none-ne-some _ (sym nothing ∙ e))
      ]

  -- the engine's rule decides v, by what p heard in round j
  abbrev Enough : ℕ → ℕ → ℕ → ℕ → Type 0
  Enough p j v phase = T (decides (class_of crew) crew phase (inbox crew (said l j p)) v)

  pub wins_decides : (p j v : ℕ) → T (honest l p) → Wins l crew p j v → DecidesAt (run_of l crew) j p v
  wins_decides p j v h w =
      let held = took_held p j h w.1 w.2 in
      let place = place_early (run_of l crew) j held.1 in
      let third = third_round (state (run_of l crew) j).round (sym place.1 ∙ w.0) in
      let enough = subst T (sym (decides_is p j (phase_at crew j) v w.1 w.2)) (le→leb crew.d _ w.3) in
      (held, (third, subst (Enough p j v) place.0 enough))

  pub decides_wins : (p j v : ℕ) → T (honest l p) → DecidesAt (run_of l crew) j p v → Wins l crew p j v
  decides_wins p j v h d =
      let t = took l crew run pre p j h d.0 in
      let place = place_early (run_of l crew) j d.0.1 in
      let enough = subst (Enough p j v) (sym place.0) d.1.1 in (
        place.1 ∙ ap round_number d.1.0,
        t.bytes,
        t.taken,
        leb→le crew.d _ (subst T (decides_is p j (phase_at crew j) v t.bytes t.taken) enough),
      )

  decided_is : (p : ℕ) → T (honest l p) → Decided l crew p ↔ model.HasDecided (run_of l crew) p
  decided_is p h = (
    λ d. (d.0, d.1, wins_decides p d.0 d.1 h d.2),
    λ d. (d.0, d.1, decides_wins p d.0 d.1 h d.2),
  )

  standing_is : (p : ℕ) → T (honest l p) → standing l p ≡ model.last_result (run_of l crew) p
  standing_is p h = ap (λ (x : Node). x.result) (follows l crew run pre p (length l.rounds) h (omega arith)).is

  -- What a standing result stands for.

  pub result : (p : ℕ) → T (honest l p)
      → PlanDecided l crew p (standing l p) ⊎ ((Decided l crew p → ⊥) × (standing l p ≡ 0))
  result p h = elim (engine.result (run_of l crew) (admissible l crew run pre) p (honest_below l crew run pre p h) h) [
    | inl r ↦ inl (subst (PlanDecided l crew p) (sym (standing_is p h)) (record {
      round = r.round;
      win = decides_wins p r.round _ h r.decides;
      least = λ w x. r.least w (wins_decides p r.round w h x);
      first = λ i w before x. r.first i w before (wins_decides p i w h x);
    }))
    | inr r ↦ inr (
      λ d.
          let e = (decided_is p h).0 d in
          r.0 e.0 e.1 e.2.0.0 e.2,
      standing_is p h ∙ r.1,
    )
  ]

  -- Agreement.

  pub agreement : (p q : ℕ) → T (honest l p) → T (honest l q)
      → (standing l p ≡ standing l q) ↔ (Decided l crew p ↔ Decided l crew q)
  agreement p q hp hq =
      let equal = engine.results_equal (run_of l crew) (admissible l crew run pre)
      p (honest_below l crew run pre p hp) hp q (honest_below l crew run pre q hq) hq in
      let dp = decided_is p hp in
      let dq = decided_is q hq in
      let sp = standing_is p hp in
      let sq = standing_is q hq in (
        λ e. let both = equal.0 (sym sp ∙ e ∙ sq) in
            (λ d. dq.1 (both.0 (dp.0 d)), λ d. dp.1 (both.1 (dq.0 d))),
        λ both. sp ∙ equal.1 (λ d. dq.0 (both.0 (dp.1 d)), λ d. dp.0 (both.1 (dq.1 d))) ∙ sym sq,
      )

  -- Common start.

  module _ (v : ℕ) (all : Every (λ s. T (is_accepted (answer_to s)) → s.plan ≡ v) l.starts) where
    begins_with : (q : ℕ) → T (honest l q) → (record_of q (made l.starts)).vote ≡ v
    unfolding begun
    begins_with q h =
        let d = record_of q (made l.starts) in
        let made_by = started (λ s. T (is_accepted (answer_to s)) → s.plan ≡ v) (λ d. (d.crew ≡ crew) × (d.run ≡ run))
        q l.starts all pre.one_crew (ltb→lt 0 _ h) in
        let s = made_by.start in
        let b = start_accepted s.crew s.own s.run s.plan d made_by.answer in
        ap (λ (x : Node). x.vote) b.is_begun
        ∙ made_by.of_start (subst (λ o. T (is_accepted o)) (sym made_by.answer) tt)

    pub common_start : (p w : ℕ) → T (honest l p) → PlanDecided l crew p w → w ≡ v
    common_start p w h d =
        engine.common_start (run_of l crew) (admissible l crew run pre) v (λ q lq hq. begins_with q hq)
        p (honest_below l crew run pre p h) h d.round w (wins_decides p d.round w h d.win)
