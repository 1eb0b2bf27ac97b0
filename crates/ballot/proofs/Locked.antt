-- Selection keeps a lock: a node that selects while v is locked takes v, or nothing (source document 000, theorems 5 to
-- 7). Stated of one inbox of n slots.
use mathlib.Core.Path.{◌≡◌, refl, ap}
use mathlib.Core.Bool.{Bool, true, false, not, ◌&&◌}
use mathlib.Core.List.{List}
use mathlib.Core.Logic.{◌⊎◌, inl, inr, ◌≢◌}
use Prim.Native.Nat.{ℕ, ◌+◌, ◌≤◌, ◌<◌}
use native.Mathlib.Omega.{arith}
use native.Mathlib.Decide.{ℕ_discrete, dec_le}
use lib.ListN.{length}
use lib.Dec.{T, leb, eqb→eq, T_not}
use Rattle.wire.proofs.Tests.{tests, and_T, T_and}
use Rattle.crew.specs.declared.Crew.{Crew}
use Rattle.crew.specs.Thresholds.{Class, one, two, three, E}
use Rattle.ballot.specs.Count.{tally, count_if}
use Rattle.ballot.specs.Ballot.{Ballot, inbox, votes, stamped, lists}
use Rattle.ballot.specs.Selection.{supports, possible, backed, enough, selection, any_plan, taken_on, taken}
use Rattle.ballot.specs.Selection.{nobody, plan, nothing, answer}
use Rattle.ballot.proofs.Counting.{count_le, count_none, count_not, length_count}
use Rattle.ballot.proofs.AnyPlan.{any_leader}
use Rattle.ballot.proofs.Selection.{other_vote, supports_is, supports_vote, supports_below}
use Rattle.ballot.proofs.Selection.{backed_three, selection_only, selection_finds}
use Rattle.ballot.proofs.Slots.{Slots, EachFrom, FewByzantine, byzantine_at_most_b, outside_core_at_most_E}

-- the node takes v, or nothing
abbrev pub Takes : ℕ → Class → Crew → List Ballot → Type 0
Takes v class crew ballots = (taken class crew ballots ≡ v) ⊎ (taken class crew ballots ≡ 0)

takes : (v : ℕ) (class : Class) (crew : Crew) (ballots : List Ballot)
    → (selection class crew ballots ≡ plan v) ⊎ (selection class crew ballots ≡ nothing)
    → Takes v class crew ballots
unfolding taken
takes v class crew ballots (inl e) = inl (ap (taken_on crew ballots) e)
takes v class crew ballots (inr e) = inr (ap (taken_on crew ballots) e)

-- What an inbox shows of a lock: a core of D − b senders at least, whose ballots all vote v with a stamp from t on.
pub record Core (crew : Crew) (slots : Slots) (v t : ℕ) : Type 0 where
  pub core : ℕ → Bool
  pub ample : crew.d ≤ tally core crew.n + crew.b
  pub says : EachFrom core crew slots (λ m. (m.vote ≡ v) × (t ≤ m.stamp))

module _ (crew : Crew) (reach : crew.d + crew.b + crew.f ≤ crew.n) (slots : Slots) (v t : ℕ)
    (lock : Core crew slots v t) where
  abbrev ballots : List Ballot
  ballots = inbox crew slots

  -- at most E ballots come from outside the lock
  pub outside_lock_at_most_E : (p : Ballot → Bool) → ((m : Ballot) → m.vote ≡ v → t ≤ m.stamp → T (p m) → ⊥)
      → count_if p (inbox crew slots) ≤ E crew
  outside_lock_at_most_E p h =
      outside_core_at_most_E crew slots p (omega arith) lock.core lock.ample λ q l k m e.
      let d = lock.says q l k m e in h m d.0 d.1

  -- Class 1: a rival has at most E slots; where more than 2E count, v has more than E.

  rivals_one : count_if (other_vote (backed one crew ballots) v) ballots ≡ 0
  unfolding backed
  rivals_one = count_none _ ballots λ m h.
      let d = and_T (backed one crew ballots m) (not (votes v m)) h in
      omega (tests, outside_lock_at_most_E (votes m.vote) (λ k e _ x. omega tests))

  backs_one : T (enough one crew ballots) → 0 < count_if (backed one crew ballots) ballots
  unfolding enough backed
  backs_one h =
      let others = outside_lock_at_most_E (λ m. not (votes v m)) (λ k e _ x. omega tests) in
      let many : E crew < count_if (votes v) ballots = omega (tests, count_not (votes v) ballots) in
      omega (
        tests,
        count_le (votes v) (backed one crew ballots) ballots λ m x.
            omega (tests, ap (λ w. count_if (votes w) ballots) (eqb→eq m.vote v x)),
      )

  pub lock_taken_one : Takes v one crew (inbox crew slots)
  lock_taken_one = takes v one crew ballots (selection_finds one crew ballots v rivals_one backs_one)

  -- Classes 2 and 3: of the honest ballots those that do not vote v have a stamp below t.

  module _ (honest : ℕ → Bool) (few : FewByzantine crew honest)
      (rest : EachFrom honest crew slots (λ m. (m.vote ≡ v) ⊎ (m.stamp < t))) where
    -- a rival with a stamp up to t is not possible: nobody in the core supports it
    not_possible : (m : Ballot) → m.vote ≢ v → m.stamp ≤ t → T (possible crew ballots m) → ⊥
    unfolding possible
    not_possible m d l h =
        omega (
          tests,
          outside_lock_at_most_E (supports m) λ k e x y.
              elim (supports_is m k y) [ inl z ↦ omega arith | inr z ↦ omega arith ],
        )

    -- Class 2: a rival backed by more than b possible slots would have an honest one, with a stamp below t.

    rivals_two : count_if (other_vote (backed two crew ballots) v) ballots ≡ 0
    unfolding backed
    rivals_two = count_none _ ballots λ m h.
        let d = and_T (backed two crew ballots m) (not (votes v m)) h in
        omega (
          tests,
          byzantine_at_most_b crew slots (λ k. possible crew ballots k && votes m.vote k) honest few λ q l y k e x.
              let z = and_T (possible crew ballots k) (votes m.vote k) x in
              elim (rest q l y k e) [
                | inl w ↦ omega tests
                | inr w ↦ not_possible k (omega tests) (omega arith) z.0
              ],
        )

    -- the core's ballots are possible where more than E + b slots count: every honest slot supports them
    core_possible : E crew + crew.b < length ballots → (m : Ballot) → m.vote ≡ v → t ≤ m.stamp
        → T (possible crew ballots m)
    unfolding possible
    core_possible h m e l =
        omega (
          tests,
          count_not (supports m) ballots,
          byzantine_at_most_b crew slots (λ k. not (supports m k)) honest few λ q i y k o x.
              T_not (supports m k) x (elim (rest q i y k o) [
                | inl w ↦ supports_vote m k (omega arith)
                | inr w ↦ supports_below m k (omega arith)
              ]),
        )

    backs_two : T (enough two crew ballots) → 0 < count_if (backed two crew ballots) ballots
    unfolding enough backed
    backs_two h =
        let mine : Ballot → Bool = λ m. votes v m && leb t m.stamp in
        let others = outside_lock_at_most_E (λ m. not (mine m)) λ k e l x.
        T_not (mine k) x (T_and (votes v k) (leb t k.stamp) (omega tests) (omega tests)) in
        let many : crew.b < count_if mine ballots = omega (tests, count_not mine ballots) in
        let possibles = count_le mine (λ k. possible crew ballots k && votes v k) ballots λ k x.
        let d = and_T (votes v k) (leb t k.stamp) x in
        let its : T (possible crew ballots k) = core_possible (omega tests) k (omega tests) (omega tests) in
        T_and (possible crew ballots k) (votes v k) its d.0 in
        omega (
          tests,
          count_le mine (backed two crew ballots) ballots λ m x.
              let d = and_T (votes v m) (leb t m.stamp) x in
              omega (
                tests,
                ap (λ w. count_if (λ k. possible crew ballots k && votes w k) ballots) (eqb→eq m.vote v d.0),
              ),
        )

    pub lock_taken_two : Takes v two crew (inbox crew slots)
    lock_taken_two = takes v two crew ballots (selection_finds two crew ballots v rivals_two backs_two)

    -- Class 3: what an honest ballot lists at a phase after t is v, so a rival is listed after t by at most b slots.

    module _ (listed : EachFrom honest crew slots (λ m. (w x : ℕ) → T (lists w x m) → t < x → w ≡ v)) where
      rivals_three : count_if (other_vote (backed three crew ballots) v) ballots ≡ 0
      rivals_three = count_none _ ballots λ m h.
          let d = and_T (backed three crew ballots m) (not (votes v m)) h in
          let e = backed_three crew ballots m d.0 in
          omega (
            tests,
            byzantine_at_most_b crew slots (lists m.vote m.stamp) honest few λ q l y k o x.
                elim (dec_le m.stamp t) [
                  | yes z ↦ not_possible m (omega tests) z e.0
                  | no z ↦ omega (tests, listed q l y k o m.vote m.stamp x (omega arith))
                ],
          )

      -- after a decision (t > 0) at most E slots have stamp 0
      finds_three : 0 < t → Takes v three crew ballots
      unfolding enough
      finds_three pos =
          takes v three crew ballots (selection_finds three crew ballots v rivals_three λ h.
          omega (tests, outside_lock_at_most_E (stamped 0) (λ k e l x. omega tests)))

      -- under a common start (t = 0) every honest ballot votes v, so v leads wherever more than E slots count
      leads_three : t ≡ 0 → T (enough three crew ballots) → any_plan crew ballots ≡ v
      unfolding enough
      leads_three z h =
          let others = byzantine_at_most_b crew slots (λ m. not (votes v m)) honest few λ q l y k o x.
          elim (rest q l y k o) [ inl w ↦ omega tests | inr w ↦ omega arith ] in
          let zeros = count_le (stamped 0) (λ m. true) ballots (λ m x. tt) in
          let leader : crew.b < count_if (votes v) ballots
          = omega (tests, length_count ballots, count_not (votes v) ballots) in
          any_leader crew ballots v leader λ w d.
          omega (tests, count_le (votes w) (λ m. not (votes v m)) ballots (λ m x. omega tests))

      start_three : t ≡ 0 → Takes v three crew ballots
      unfolding taken
      start_three z = elim (selection_only three crew ballots v rivals_three) [
        | inl e ↦ inl (ap (taken_on crew ballots) e)
        | inr e ↦ rw e.0 (go (enough three crew ballots) (leads_three z))
      ]
        where
          go : (e : Bool) → (T e → any_plan crew ballots ≡ v)
              → (taken_on crew ballots (answer three nobody e) ≡ v)
              ⊎ (taken_on crew ballots (answer three nobody e) ≡ 0)
          go true h = inl (h tt)
          go false h = inr refl

      pub lock_taken_three : Takes v three crew (inbox crew slots)
      lock_taken_three = elim (ℕ_discrete t 0) [ yes z ↦ start_three z | no z ↦ finds_three (omega arith) ]
