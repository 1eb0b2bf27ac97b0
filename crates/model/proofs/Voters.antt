-- What a ballot of an honest node tells of the node, and what a history lists. Builds on Voter.antt.
use mathlib.Core.Path.{◌≡◌, refl, sym, ap, ◌∙◌}
use mathlib.Core.Bool.{Bool, true, false, cond}
use mathlib.Core.List.{List, [], ◌∷◌, ◌++◌}
use mathlib.Core.Logic.{◌⊎◌, inl, inr, ◌≢◌}
use mathlib.Core.Option.{none, some, none-ne-some, some-injective}
use Prim.Native.Nat.{ℕ, zero, suc, ◌+◌, ◌≤◌, ◌<◌}
use native.Mathlib.Omega.{arith}
use native.Mathlib.Decide.{ℕ_discrete, dec_lt}
use lib.ListN.{length, get_or, set, replicate, length-set}
use lib.Seq.{get_or-set_same, get_or-set_other, set_out}
use lib.Dec.{T, leb, eqb, eqb→eq, ltb→lt}
use borrow.Author.Tests.{leb-true, eqb-true, eqb-false, le-leb}
use Rattle.wire.specs.Sizes.{last_phase}
use Rattle.wire.specs.Plan.{if_plan}
use Rattle.wire.proofs.Arrays.{same_everywhere}
use Rattle.wire.proofs.Tests.{tests, and_T, T_and}
use Rattle.wire.specs.Entry.{Entry, entry_of, entries_from}
use Rattle.crew.specs.Thresholds.{Class, one, two, three}
use Rattle.ballot.specs.Count.{count_if}
use Rattle.ballot.specs.Ballot.{Ballot, is_entry, lists}
use Rattle.ballot.proofs.Counting.{bit_T, bit_pos, count_append}
use Rattle.model.proofs.Voter.{entries_said}

pub if_plan_is : {A : Type 0} (v : ℕ) (new old : A)
    → ((v ≡ 0) × (if_plan v new old ≡ old)) ⊎ ((v ≢ 0) × (if_plan v new old ≡ new))
if_plan_is v new old = go (eqb v 0) refl
  where
    go : (b : Bool) → eqb v 0 ≡ b → ((v ≡ 0) × (cond b old new ≡ old)) ⊎ ((v ≢ 0) × (cond b old new ≡ new))
    go true e = inl (eqb-true v 0 e, refl)
    go false e = inr (eqb-false v 0 e, refl)

-- a node that says something only where v is a plan
pub said_plan : {a m : Ballot} (v : ℕ) → if_plan v (some a) none ≡ some m → (v ≢ 0) × (a ≡ m)
said_plan {a} v e = elim (if_plan_is v (some a) none) [
  | inl z ↦ absurd (none-ne-some _ (sym z.1 ∙ e))
  | inr z ↦ (z.0, some-injective _ _ (sym z.1 ∙ e))
]

-- What validation does to base and stamp together.
pub confirms_is : (v phase base stamp : ℕ)
    → ((v ≡ 0) × (if_plan v v base ≡ base) × (if_plan v phase stamp ≡ stamp))
    ⊎ ((v ≢ 0) × (if_plan v v base ≡ v) × (if_plan v phase stamp ≡ phase))
confirms_is v phase base stamp = go (eqb v 0) refl
  where
    go : (b : Bool) → eqb v 0 ≡ b
        → ((v ≡ 0) × (cond b base v ≡ base) × (cond b stamp phase ≡ stamp))
        ⊎ ((v ≢ 0) × (cond b base v ≡ v) × (cond b stamp phase ≡ phase))
    go true e = inl (eqb-true v 0 e, refl, refl)
    go false e = inr (eqb-false v 0 e, refl, refl)

-- A history that gets the plan v at a phase, if v is a plan.

module _ (history : List ℕ) (phase v : ℕ) where
  abbrev pub kept : List ℕ
  kept = if_plan v (set history phase v) history

  pub kept_length : length kept ≡ length history
  kept_length = elim (if_plan_is v (set history phase v) history) [
    | inl z ↦ ap length z.1
    | inr z ↦ ap length z.1 ∙ length-set history phase v
  ]

  pub kept_other : (x : ℕ) → x ≢ phase → get_or kept x 0 ≡ get_or history x 0
  kept_other x d = elim (if_plan_is v (set history phase v) history) [
    | inl z ↦ ap (λ h. get_or h x 0) z.1
    | inr z ↦ ap (λ h. get_or h x 0) z.1 ∙ get_or-set_other history phase x v 0 d
  ]

  pub kept_here : phase < length history → v ≢ 0 → get_or kept phase 0 ≡ v
  kept_here h d = elim (if_plan_is v (set history phase v) history) [
    | inl z ↦ absurd (d z.0)
    | inr z ↦ ap (λ h. get_or h phase 0) z.1 ∙ get_or-set_same history phase v 0 h
  ]

  -- where v is w or none, and an entry is w or none, it stays so
  pub kept_keeps : (w x : ℕ) → (v ≡ w) ⊎ (v ≡ 0) → (get_or history x 0 ≡ w) ⊎ (get_or history x 0 ≡ 0)
      → (get_or kept x 0 ≡ w) ⊎ (get_or kept x 0 ≡ 0)
  kept_keeps w x h o = go (ℕ_discrete x phase) (dec_lt phase (length history)) (ℕ_discrete v 0)
    where
      old : get_or kept x 0 ≡ get_or history x 0 → (get_or kept x 0 ≡ w) ⊎ (get_or kept x 0 ≡ 0)
      old e = elim o [ inl z ↦ inl (e ∙ z) | inr z ↦ inr (e ∙ z) ]

      go : Dec (x ≡ phase) → Dec (phase < length history) → Dec (v ≡ 0) → (get_or kept x 0 ≡ w) ⊎ (get_or kept x 0 ≡ 0)
      go (no d) y z = old (kept_other x d)
      go (yes d) y (yes z) = elim (if_plan_is v (set history phase v) history) [
        | inl u ↦ old (ap (λ h. get_or h x 0) u.1)
        | inr u ↦ absurd (u.0 z)
      ]
      go (yes d) (yes y) (no z) = elim h [
        | inl e ↦ inl (ap (λ i. get_or kept i 0) d ∙ kept_here y z ∙ e)
        | inr e ↦ absurd (z e)
      ]
      go (yes d) (no y) (no z) = elim (if_plan_is v (set history phase v) history) [
        | inl u ↦ absurd (z u.0)
        | inr u ↦ old (ap (λ h. get_or h x 0) (u.1 ∙ set_out history phase v (omega arith)))
      ]

-- A ballot lists what its node's history holds, and nothing else.

-- the entry of phase j, where it has a plan, is the one that is looked for
entry_lists : (j v phase w : ℕ) → 0 < count_if (is_entry phase w) (entry_of j v) → (j ≡ phase) × (v ≡ w) × (v ≢ 0)
unfolding count_if
entry_lists j v phase w h = go (leb 1 v) refl h
  where
    it : Entry
    it = record { phase = j; plan = v }

    go : (full : Bool) → leb 1 v ≡ full → 0 < count_if (is_entry phase w) (cond full (it ∷ []) [])
        → (j ≡ phase) × (v ≡ w) × (v ≢ 0)
    go false e h = absurd (omega arith)
    go true e h =
        let same = and_T (eqb j phase) (eqb v w) (bit_pos (is_entry phase w it) (omega arith)) in
        (eqb→eq j phase same.0, eqb→eq v w same.1, λ z. omega (arith, leb-true 1 v e))

from_lists : (history : List ℕ) (from count phase w : ℕ)
    → 0 < count_if (is_entry phase w) (entries_from history from count)
    → (get_or history phase 0 ≡ w) × (w ≢ 0)
unfolding entries_from count_if
from_lists history from zero phase w h = absurd (omega arith)
from_lists history from (suc count) phase w h =
    go (dec_lt 0 (count_if (is_entry phase w) first)) (from_lists history (from + 1) count phase w)
  where
    first : List Entry
    first = entry_of from (get_or history from 0)

    later : List Entry
    later = entries_from history (from + 1) count

    go : Dec (0 < count_if (is_entry phase w) first)
        → (0 < count_if (is_entry phase w) later → (get_or history phase 0 ≡ w) × (w ≢ 0))
        → (get_or history phase 0 ≡ w) × (w ≢ 0)
    go (yes here) rec =
        let e = entry_lists from (get_or history from 0) phase w here in
        (ap (λ x. get_or history x 0) (sym e.0) ∙ e.1, λ z. e.2 (e.1 ∙ z))
    go (no here) rec = rec (omega (arith, count_append (is_entry phase w) first later))

pub said_lists : (class : Class) (history : List ℕ) (phase w x v t : ℕ)
    → T (lists w x (record { vote = v; stamp = t; entries = entries_said class history phase }))
    → (get_or history x 0 ≡ w) × (w ≢ 0)
unfolding lists count_if
said_lists one history phase w x v t h = absurd h
said_lists two history phase w x v t h = absurd h
said_lists three history phase w x v t h = from_lists history 0 phase x w (ltb→lt 0 _ h)

-- a plan of the history is listed at its phase
pub lists_from : (history : List ℕ) (from count phase v : ℕ) → from ≤ phase → phase < from + count
    → get_or history phase 0 ≡ v → v ≢ 0 → 0 < count_if (is_entry phase v) (entries_from history from count)
unfolding entries_from count_if
lists_from history from zero phase v l h e d = absurd (omega arith)
lists_from history from (suc count) phase v l h e d =
    go (ℕ_discrete phase from) (λ late. lists_from history (from + 1) count phase v late (omega arith) e d)
  where
    first : List Entry
    first = entry_of from (get_or history from 0)

    later : List Entry
    later = entries_from history (from + 1) count

    it : Entry
    it = record { phase = from; plan = get_or history from 0 }

    full : 1 ≤ get_or history from 0 → first ≡ it ∷ []
    full e = rw (le-leb 1 _ e)

    go : Dec (phase ≡ from) → (from + 1 ≤ phase → 0 < count_if (is_entry phase v) later)
        → 0 < count_if (is_entry phase v) (first ++ later)
    go (no y) rec = omega (arith, count_append (is_entry phase v) first later, rec (omega arith))
    go (yes y) rec =
        let same : get_or history from 0 ≡ v = ap (λ x. get_or history x 0) (sym y) ∙ e in
        let there : 1 ≤ get_or history from 0 = omega (arith, d) in
        omega (
          arith,
          count_append (is_entry phase v) first later,
          ap (count_if (is_entry phase v)) (full there),
          bit_T (is_entry phase v it)
              (T_and (eqb from phase) (eqb (get_or history from 0) v) (omega tests) (omega tests)),
        )

-- A node that begins has an empty history after phase 0.

pub begins_blank : (v x : ℕ) → 0 < x → get_or (v ∷ replicate last_phase 0) x 0 ≡ 0
begins_blank v zero h = absurd (omega arith)
begins_blank v (suc x) h = same_everywhere last_phase x 0
