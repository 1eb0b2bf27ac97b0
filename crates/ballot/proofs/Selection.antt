-- Selection by counts: whether none, exactly one or several plans are backed, when the answer is not 'none', and that
-- the plan taken is a slot's vote. Builds on specs/Selection.antt.
use mathlib.Core.Path.{◌≡◌, refl, ap, ◌∙◌}
use mathlib.Core.Bool.{Bool, true, false, not, cond, ◌&&◌}
use mathlib.Core.List.{List}
use mathlib.Core.Logic.{◌⊎◌, inl, inr, ◌≢◌}
use mathlib.Core.Option.{Option, none, some}
use Prim.Native.Nat.{ℕ, ◌≤◌, ◌<◌}
use native.Mathlib.Omega.{arith}
use native.Mathlib.Decide.{ℕ_discrete}
use lib.ListN.{length}
use lib.Dec.{T, eqb}
use borrow.Author.Tests.{eqb-true, eqb-false}
use Rattle.wire.proofs.Tests.{tests, and_T, T_and, or_T, T-or-l, T-or-r}
use Rattle.crew.specs.declared.Crew.{Crew}
use Rattle.crew.specs.Thresholds.{Class, one, two, three}
use Rattle.ballot.specs.Count.{count_if}
use Rattle.ballot.specs.Ballot.{Ballot, votes, lists}
use Rattle.ballot.specs.Least.{least}
use Rattle.ballot.specs.Selection.{supports, possible, backed, Backing, nobody, sole, several, besides, backing}
use Rattle.ballot.specs.Selection.{Choice, plan, any, nothing, any_if, enough, answer, selection}
use Rattle.ballot.specs.Selection.{taken_on, taken}
use Rattle.ballot.proofs.Counting.{count_le}
use Rattle.ballot.proofs.Least.{with_vote, with_vote_votes, Least, nowhere, found, least_is, Voted}
use Rattle.ballot.proofs.AnyPlan.{any_voted, any_plan_lem}

-- passes p and has another vote than v
abbrev pub other_vote : (Ballot → Bool) → ℕ → Ballot → Bool
other_vote p v m = p m && not (votes v m)

pub data Backs (p : Ballot → Bool) (ballots : List Ballot) : Backing → Type 0 where
  by_none : count_if p ballots ≡ 0 → Backs p ballots nobody
  by_one : (v : ℕ) → 0 < count_if (with_vote p v) ballots → count_if (other_vote p v) ballots ≡ 0
      → Backs p ballots (sole v)
  by_more : (v : ℕ) → 0 < count_if (with_vote p v) ballots → 0 < count_if (other_vote p v) ballots
      → Backs p ballots several

module _ (p : Ballot → Bool) (ballots : List Ballot) where
  pub backing_is : Backs p ballots (backing p ballots)
  unfolding backing
  backing_is = go (least p ballots) (least_is p ballots)
    where
      others : ℕ → ℕ
      others v = count_if (other_vote p v) ballots

      split : (v : ℕ) (a : Bool) → eqb (others v) 0 ≡ a → 0 < count_if (with_vote p v) ballots
          → Backs p ballots (cond a (sole v) several)
      split v true e i = by_one v i (eqb-true (others v) 0 e)
      split v false e i = by_more v i (omega (arith, eqb-false (others v) 0 e))

      go : (o : Option ℕ) → Least p ballots o → Backs p ballots (besides p ballots o)
      go none (nowhere z) = by_none z
      go (some v) (found _ i z) = split v (eqb (others v) 0) refl i

  -- none or only v
  abbrev OnlyBacks : ℕ → Backing → Type 0
  OnlyBacks v b = ((b ≡ nobody) × (count_if p ballots ≡ 0)) ⊎ (b ≡ sole v)

  -- where no other plan than v is backed, v alone is, or none
  backing_only : (v : ℕ) → count_if (other_vote p v) ballots ≡ 0 → OnlyBacks v (backing p ballots)
  backing_only v h = go (backing p ballots) backing_is
    where
      rival : (w : ℕ) → w ≢ v → count_if (with_vote p w) ballots ≤ count_if (other_vote p v) ballots
      rival w d = count_le (with_vote p w) (other_vote p v) ballots λ m t.
          let x = and_T (p m) (votes w m) t in T_and (p m) (not (votes v m)) x.0 (omega tests)

      same : (w : ℕ) → 0 < count_if (with_vote p w) ballots → w ≡ v
      same w i = elim (ℕ_discrete w v) [ yes d ↦ d | no d ↦ omega (arith, rival w d) ]

      go : (b : Backing) → Backs p ballots b → OnlyBacks v b
      go nobody (by_none z) = inl (refl, z)
      go (sole w) (by_one _ i z) = inr (ap sole (same w i))
      go several (by_more w i j) = absurd (omega (arith, ap (λ x. count_if (other_vote p x) ballots) (same w i)))

-- Who supports a ballot.

module _ (m k : Ballot) where
  pub supports_is : T (supports m k) → (k.vote ≡ m.vote) ⊎ (k.stamp < m.stamp)
  supports_is h = elim (or_T (votes m.vote k) _ h) [ inl t ↦ inl (omega tests) | inr t ↦ inr (omega tests) ]

  pub supports_vote : k.vote ≡ m.vote → T (supports m k)
  supports_vote e = T-or-l (votes m.vote k) _ (omega tests)

  pub supports_below : k.stamp < m.stamp → T (supports m k)
  supports_below l = T-or-r (votes m.vote k) _ (omega tests)

-- class 3: what it is for a ballot's vote to be backed
pub backed_three : (crew : Crew) (ballots : List Ballot) (m : Ballot) → T (backed three crew ballots m)
    → T (possible crew ballots m) × (crew.b < count_if (lists m.vote m.stamp) ballots)
unfolding backed
backed_three crew ballots m h = let d = and_T (possible crew ballots m) _ h in (d.0, omega tests)

pub back_three : (crew : Crew) (ballots : List Ballot) (m : Ballot) → T (possible crew ballots m)
    → crew.b < count_if (lists m.vote m.stamp) ballots → T (backed three crew ballots m)
unfolding backed
back_three crew ballots m p l = T_and (possible crew ballots m) _ p (omega tests)

-- The answer.

module _ (class : Class) (crew : Crew) (ballots : List Ballot) where
  -- where no other plan than v is backed, the answer is v, or none is backed and it goes by how many slots count
  pub selection_only : (v : ℕ) → count_if (other_vote (backed class crew ballots) v) ballots ≡ 0
      → (selection class crew ballots ≡ plan v)
      ⊎ ((selection class crew ballots ≡ answer class nobody (enough class crew ballots))
      × (count_if (backed class crew ballots) ballots ≡ 0))
  unfolding selection
  selection_only v only = elim (backing_only (backed class crew ballots) ballots v only) [
    | inl r ↦ inr (ap (λ b. answer class b (enough class crew ballots)) r.0, r.1)
    | inr r ↦ inl (ap (λ b. answer class b (enough class crew ballots)) r)
  ]

  -- where only v is backed, and it is wherever slots enough count, the answer is v or 'none'
  pub selection_finds : (v : ℕ) → count_if (other_vote (backed class crew ballots) v) ballots ≡ 0
      → (T (enough class crew ballots) → 0 < count_if (backed class crew ballots) ballots)
      → (selection class crew ballots ≡ plan v) ⊎ (selection class crew ballots ≡ nothing)
  selection_finds v only backs = elim (selection_only v only) [
    | inl e ↦ inl e
    | inr e ↦ inr (e.0 ∙ short (enough class crew ballots) λ t. omega (arith, backs t))
  ]
    where
      short : (e : Bool) → (T e → ⊥) → answer class nobody e ≡ nothing
      short true h = absurd (h tt)
      short false h = refl

-- the answer is not 'none'
abbrev pub Answers : Choice → Type 0
Answers (plan v) = Unit {0}
Answers any = Unit {0}
Answers nothing = ⊥

pub enough_answers : (class : Class) (crew : Crew) (ballots : List Ballot) → T (enough class crew ballots)
    → Answers (selection class crew ballots)
unfolding selection
enough_answers class crew ballots h =
    go class (backing (backed class crew ballots) ballots) (enough class crew ballots) h
  where
    go : (class : Class) (b : Backing) (e : Bool) → T e → Answers (answer class b e)
    go class b false h = absurd h
    go class nobody true h = tt
    go class (sole v) true h = tt
    go one several true h = tt
    go two several true h = tt
    go three several true h = tt

-- class 3: one backed plan is enough, and so are more
pub backed_answers : (crew : Crew) (ballots : List Ballot) → 0 < count_if (backed three crew ballots) ballots
    → Answers (selection three crew ballots)
unfolding selection
backed_answers crew ballots h =
    go (backing (backed three crew ballots) ballots) (backing_is (backed three crew ballots) ballots)
  where
    go : (b : Backing) → Backs (backed three crew ballots) ballots b
        → Answers (answer three b (enough three crew ballots))
    go nobody (by_none z) = absurd (omega arith)
    go (sole v) x = tt
    go several x = tt

-- The plan taken.

-- a plan that is answered is some ballot's vote
abbrev pub VotedChoice : List Ballot → Choice → Type 0
VotedChoice ballots (plan v) = 0 < count_if (votes v) ballots
VotedChoice ballots any = Unit {0}
VotedChoice ballots nothing = Unit {0}

module _ (class : Class) (crew : Crew) (ballots : List Ballot) where
  pub selection_voted : VotedChoice ballots (selection class crew ballots)
  unfolding selection
  selection_voted = go class (backing test ballots) (enough class crew ballots) (backing_is test ballots)
    where
      test : Ballot → Bool
      test = backed class crew ballots

      open_choice : (e : Bool) → VotedChoice ballots (any_if e)
      open_choice true = tt
      open_choice false = tt

      go : (class : Class) (b : Backing) (e : Bool) → Backs test ballots b → VotedChoice ballots (answer class b e)
      go class nobody e d = open_choice e
      go class (sole v) e (by_one _ i z) = omega (arith, with_vote_votes test v ballots)
      go one several e d = open_choice e
      go two several e d = open_choice e
      go three several e d = tt

  -- what is taken is some ballot's vote, or 0
  pub taken_voted : Voted (taken class crew ballots) ballots
  unfolding taken
  taken_voted = go (selection class crew ballots) selection_voted
    where
      go : (c : Choice) → VotedChoice ballots c → Voted (taken_on crew ballots c) ballots
      go (plan v) h = inr h
      go any h = any_voted crew ballots
      go nothing h = inl refl

  -- where selection answers, slots count and none votes 0, a plan is taken
  pub taken_plan : 0 < length ballots → count_if (votes 0) ballots ≡ 0 → Answers (selection class crew ballots)
      → taken class crew ballots ≢ 0
  unfolding taken
  taken_plan some-slot no_zero = go (selection class crew ballots) selection_voted
    where
      go : (c : Choice) → VotedChoice ballots c → Answers c → taken_on crew ballots c ≢ 0
      go (plan v) h a = λ e. omega (arith, ap (λ w. count_if (votes w) ballots) e)
      go any h a = any_plan_lem crew ballots some-slot no_zero
      go nothing h a = absurd a
