-- Validation by counts: one plan at most is validated in a phase, and only one that stands in slots.
-- Builds on specs/Validation.antt.
use mathlib.Core.Path.{◌≡◌, sym, ◌∙◌}
use mathlib.Core.Bool.{Bool, not}
use mathlib.Core.List.{List}
use mathlib.Core.Logic.{◌≢◌}
use mathlib.Core.Option.{some, some-injective}
use Prim.Native.Nat.{ℕ, ◌+◌, ◌*◌, ◌≤◌, ◌<◌}
use native.Mathlib.Omega.{arith}
use native.Mathlib.Decide.{ℕ_discrete}
use lib.Dec.{T}
use Rattle.wire.proofs.Tests.{tests}
use Rattle.crew.specs.declared.Crew.{Crew}
use Rattle.crew.specs.Thresholds.{valid_above}
use Rattle.crew.specs.Group.{validates}
use Rattle.ballot.specs.Count.{tally, count_if, holds}
use Rattle.ballot.specs.Ballot.{Ballot, inbox, votes}
use Rattle.ballot.specs.Validation.{valid, validated}
use Rattle.ballot.proofs.Tests.{holds_T}
use Rattle.ballot.proofs.Counting.{Implies, all_of, tally_none}
use Rattle.ballot.proofs.Turns.{turns}
use Rattle.ballot.proofs.Least.{Voted, least_of_passes, least_of_voted, least_of_only}
use Rattle.ballot.proofs.Slots.{Slots, same_vote, FewByzantine, overlap}

module _ (crew : Crew) where
  pub validated_voted : (ballots : List Ballot) → Voted (validated crew ballots) ballots
  unfolding validated
  validated_voted ballots = least_of_voted (valid crew ballots) ballots

  -- twice the slots in which a plan stands that is validated pass c + b
  pub validated_slots : (ballots : List Ballot) → validated crew ballots ≢ 0
      → valid_above crew < 2 * count_if (votes (validated crew ballots)) ballots
  unfolding validated valid
  validated_slots ballots d = omega (tests, least_of_passes (valid crew ballots) ballots d)

  -- nobody but the phase's validators has a slot that counts
  abbrev pub InTurn : ℕ → Slots → Type 0
  InTurn phase slots = (q : ℕ) → q < crew.n → (m : Ballot) → slots q ≡ some m → T (validates crew phase q)

  -- whose slot passes a test validates
  sender_validates : (phase : ℕ) (slots : Slots) → InTurn phase slots → (p : Ballot → Bool)
      → Implies crew.n (λ q. holds p (slots q)) (validates crew phase)
  sender_validates phase slots in_turn p q l t = let h = holds_T p (slots q) t in in_turn q l h.0 h.1

  module _ (small : crew.c ≤ crew.n) (phase : ℕ) where
    -- two plans that validators vote for, and no honest one for both: not both are valid
    valid_apart : (honest : ℕ → Bool) → FewByzantine crew honest → (left right : Slots)
        → InTurn phase left → InTurn phase right → (v w : ℕ)
        → ((q : ℕ) → q < crew.n → T (honest q) → T (holds (votes v) (left q)) → T (holds (votes w) (right q)) → ⊥)
        → count_if (votes v) (inbox crew left) + count_if (votes w) (inbox crew right) ≤ valid_above crew
    valid_apart honest few left right in_left in_right v w apart =
        omega (
          arith,
          (turns crew small).size phase,
          overlap crew honest few (validates crew phase) left right (votes v) (votes w)
              (sender_validates phase left in_left (votes v)) (sender_validates phase right in_right (votes w)) apart,
        )

    -- two inboxes of a phase, in which no honest sender says two things: one plan is validated, if any is
    pub validated_unique : (honest : ℕ → Bool) → FewByzantine crew honest → (left right : Slots)
        → InTurn phase left → InTurn phase right
        → ((q v w : ℕ) → q < crew.n → T (honest q) → T (holds (votes v) (left q)) → T (holds (votes w) (right q))
        → v ≡ w)
        → validated crew (inbox crew left) ≢ 0 → validated crew (inbox crew right) ≢ 0
        → validated crew (inbox crew left) ≡ validated crew (inbox crew right)
    validated_unique honest few left right in_left in_right one_plan l r =
        let v = validated crew (inbox crew left) in
        let w = validated crew (inbox crew right) in
        elim (ℕ_discrete v w) [
          | yes e ↦ e
          | no e ↦ absurd (omega (
            arith,
            validated_slots (inbox crew left) l,
            validated_slots (inbox crew right) r,
            valid_apart honest few left right in_left in_right v w (λ q lq hq s t. e (one_plan q v w lq hq s t)),
          ))
        ]

    -- a plan in slots enough is the one that is validated
    pub valid_validated : (slots : Slots) → InTurn phase slots → (v : ℕ)
        → valid_above crew < 2 * count_if (votes v) (inbox crew slots) → validated crew (inbox crew slots) ≡ v
    unfolding validated valid
    valid_validated slots in_turn v many =
        least_of_only (valid crew (inbox crew slots)) (inbox crew slots) v (omega arith) (omega tests) λ w t.
        elim (ℕ_discrete w v) [ yes e ↦ e | no e ↦ absurd (omega (tests, rival w e)) ]
      where
        nobody_lies : tally (λ q. not (all_of q)) crew.n ≤ crew.b
        nobody_lies = omega (arith, tally_none crew.n)

        -- no slot votes for both
        rival : (w : ℕ) → w ≢ v
            → count_if (votes v) (inbox crew slots) + count_if (votes w) (inbox crew slots) ≤ valid_above crew
        rival w d = valid_apart all_of nobody_lies slots slots in_turn in_turn v w λ q lq hq s t.
            let m = holds_T (votes v) (slots q) s in
            let o = holds_T (votes w) (slots q) t in
            let same = same_vote (some-injective _ _ (sym m.1 ∙ o.1)) in
            d (omega tests)
