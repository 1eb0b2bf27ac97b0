-- What a set of senders says, and how many slots of an inbox then pass a test: the bounds by which every later argument
-- counts.
use mathlib.Core.Path.{◌≡◌, ap}
use mathlib.Core.Bool.{Bool, not}
use mathlib.Core.Option.{Option, some}
use Prim.Native.Nat.{ℕ, ◌+◌, ◌≤◌, ◌<◌}
use native.Mathlib.Omega.{arith}
use lib.Dec.{T, not_T}
use Rattle.crew.specs.declared.Crew.{Crew}
use Rattle.crew.specs.Thresholds.{E}
use Rattle.ballot.specs.Count.{tally, count_if, holds}
use Rattle.ballot.specs.Ballot.{Ballot, inbox}
use Rattle.ballot.proofs.Tests.{holds_T, T-holds}
use Rattle.ballot.proofs.Counting.{Implies, tally_le, tally_has, tally_none, tally_meet, tally_apart, nobody_of}
use Rattle.ballot.proofs.Counting.{count_gather}

-- the slots of an inbox, by port
abbrev pub Slots : Type 0
Slots = ℕ → Option Ballot

-- One slot.

pub same_vote : {a b : Ballot} → a ≡ b → a.vote ≡ b.vote
same_vote e = ap (λ (m : Ballot). m.vote) e

pub same_stamp : {a b : Ballot} → a ≡ b → a.stamp ≡ b.stamp
same_stamp e = ap (λ (m : Ballot). m.stamp) e

-- All slots.

-- every ballot that comes from these senders
abbrev pub EachFrom : (ℕ → Bool) → Crew → Slots → (Ballot → Type 0) → Type 0
EachFrom senders crew slots P = (q : ℕ) → q < crew.n → T (senders q) → (m : Ballot) → slots q ≡ some m → P m

-- at most b nodes are not honest
abbrev pub FewByzantine : Crew → (ℕ → Bool) → Type 0
FewByzantine crew honest = tally (λ q. not (honest q)) crew.n ≤ crew.b

module _ (crew : Crew) (slots : Slots) (p : Ballot → Bool) where
  pub slot_counts : (q : ℕ) → q < crew.n → (m : Ballot) → slots q ≡ some m → T (p m)
      → 0 < count_if p (inbox crew slots)
  slot_counts q l m e t =
      omega (
        arith,
        count_gather p slots crew.n,
        tally_has (λ a. holds p (slots a)) crew.n q l (T-holds p (slots q) m e t),
      )

  pub no_slot_counts : ((q : ℕ) → q < crew.n → (m : Ballot) → slots q ≡ some m → T (p m) → ⊥)
      → count_if p (inbox crew slots) ≡ 0
  no_slot_counts h =
      omega (
        arith,
        count_gather p slots crew.n,
        tally_none crew.n,
        tally_le (λ q. holds p (slots q)) nobody_of crew.n λ q l t.
            let r = holds_T p (slots q) t in h q l r.0 r.1 r.2,
      )

  -- what no honest ballot passes, at most b slots pass
  pub byzantine_at_most_b : (honest : ℕ → Bool) → FewByzantine crew honest
      → EachFrom honest crew slots (λ m. T (p m) → ⊥)
      → count_if p (inbox crew slots) ≤ crew.b
  byzantine_at_most_b honest few h =
      omega (
        arith,
        count_gather p slots crew.n,
        tally_le (λ q. holds p (slots q)) (λ q. not (honest q)) crew.n λ q l t.
            let r = holds_T p (slots q) t in not_T (honest q) (λ y. h q l y r.0 r.1 r.2),
      )

  -- what no ballot of a core of D − b senders passes, at most E slots pass
  pub outside_core_at_most_E : crew.d ≤ crew.n → (core : ℕ → Bool) → crew.d ≤ tally core crew.n + crew.b
      → EachFrom core crew slots (λ m. T (p m) → ⊥) → count_if p (inbox crew slots) ≤ E crew
  outside_core_at_most_E reach core ample h =
      omega (
        arith,
        count_gather p slots crew.n,
        tally_none crew.n,
        tally_apart (λ q. holds p (slots q)) core nobody_of crew.n λ q l t k.
            let r = holds_T p (slots q) t in h q l k r.0 r.1 r.2,
      )

  -- what every ballot of a circle of n − b − f senders passes, as many slots pass
  pub circle_passes : (circle : ℕ → Bool) → crew.n ≤ tally circle crew.n + crew.b + crew.f
      → ((q : ℕ) → q < crew.n → T (circle q) → (m : Ballot) × (slots q ≡ some m))
      → EachFrom circle crew slots (λ m. T (p m)) → crew.n ≤ count_if p (inbox crew slots) + crew.b + crew.f
  circle_passes circle wide present h =
      omega (
        arith,
        count_gather p slots crew.n,
        tally_le circle (λ q. holds p (slots q)) crew.n λ q l k.
            let r = present q l k in T-holds p (slots q) r.0 r.1 (h q l k r.0 r.1),
      )

-- Overlap: two tests that no honest slot passes both. If their slots come from certain senders, the two counts make at
-- most the number of these senders and b.
pub overlap : (crew : Crew) (honest : ℕ → Bool) → FewByzantine crew honest → (senders : ℕ → Bool) (left right : Slots)
    (p r : Ballot → Bool)
    → Implies crew.n (λ q. holds p (left q)) senders → Implies crew.n (λ q. holds r (right q)) senders
    → ((q : ℕ) → q < crew.n → T (honest q) → T (holds p (left q)) → T (holds r (right q)) → ⊥)
    → count_if p (inbox crew left) + count_if r (inbox crew right) ≤ tally senders crew.n + crew.b
overlap crew honest few senders left right p r in_left in_right apart =
    omega (
      arith,
      count_gather p left crew.n,
      count_gather r right crew.n,
      tally_meet (λ q. holds p (left q)) (λ q. holds r (right q)) senders (λ q. not (honest q)) crew.n
          in_left in_right λ q l s t. not_T (honest q) (λ h. apart q l h s t),
    )
