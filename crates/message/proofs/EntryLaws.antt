-- The entries in a list of bytes: how many there are, the first of them, and what the loop goes by that only tests them.
use mathlib.Core.Path.{◌≡◌, refl, ap, sym, ◌∙◌}
use mathlib.Core.Bool.{Bool, true, false, cond, ◌&&◌}
use mathlib.Core.List.{List, ◌∷◌}
use Prim.Native.Nat.{ℕ, zero, suc, ◌+◌, ◌*◌, ◌-◌, ◌<◌, ◌≤◌}
use native.Mathlib.Nat.{add-zero, add_assoc, sub-zero}
use native.Mathlib.Omega.{arith}
use native.Mathlib.Decide.{dec_lt}
use lib.Dec.{leb}
use lib.ListN.{length, get_or, drop}
use lib.Seq.{get_or-drop, drop-drop}
use borrow.Author.Tests.{le-leb, lt-leb, lt-ltb, le-ltb}
use Rattle.std.specs.Prelude.{Some, None}
use Rattle.wire.specs.Entry.{Entry}
use Rattle.wire.specs.Bytes.{number_at}
use Rattle.wire.specs.Sizes.{plan_size}
use Rattle.wire.proofs.Tests.{and_false, and_true}
use Rattle.message.specs.Layout.{entries_place, entry_size}
use Rattle.message.specs.Bounds.{entries_ok}
use Rattle.message.specs.Reading.{entries_in, entry_in_slice}
use Rattle.message.specs.Promises.{keeps, BehindEntry}

pub entries_count : (k : ℕ) (s : List ℕ) → length (entries_in k s) ≡ k
unfolding entries_in
entries_count zero s = refl
entries_count (suc k) s = ap suc (entries_count k (drop entry_size s))

-- the first of k + 1 entries at a place, and the others
pub entries_next : (k place : ℕ) (s : List ℕ)
    → entries_in (suc k) (drop place s)
    ≡ record { phase = get_or s place 0; plan = number_at plan_size s (place + 1) }
    ∷ entries_in k (drop (place + entry_size) s)
unfolding entries_in
entries_next k place s = simp (get_or-drop, drop-drop, add-zero, add_assoc)

-- Entries keep their bounds where the first does by itself and the others do. Each side also asks that the least phase
-- which its first entry may have is no later than the message's.
one_entry : (least phase : ℕ) (e : Entry) (es : List Entry)
    → (leb least phase && entries_ok least phase (e ∷ es))
    ≡ (keeps least e && (leb (e.phase + 1) phase && entries_ok (e.phase + 1) phase es))
unfolding entries_ok
one_entry least phase e es = elim (dec_lt e.phase phase) [
  | yes before ↦ elim (dec_lt e.phase least) [
    | yes falls ↦ simp (lt-leb _ _ falls, and_false)
    | no rises ↦
        let early = le-leb least phase (omega arith) in
        let next = le-leb (e.phase + 1) phase (omega arith) in
        simp (early, le-leb least e.phase (omega arith), lt-ltb _ _ before, next)
  ]
  | no late ↦ simp (le-ltb e.phase phase (omega arith), lt-leb (e.phase + 1) phase (omega arith), and_false)
]

-- What all entries answer; and what is left to test before entry i: that the least phase which it may have is no later
-- than the message's, and that the entries from i on keep their bounds.
abbrev whole : (s : List ℕ) → (count phase : ℕ) → Bool
whole s count phase = entries_ok 0 phase (entries_in count (drop entries_place s))

abbrev rest : (s : List ℕ) → (count phase i least : ℕ) → Bool
rest s count phase i least =
    leb least phase && entries_ok least phase (entries_in (count - i) (drop (entries_place + entry_size * i) s))

-- before entry i, of which there are count: what is left to test answers for all
pub record Left (s : List ℕ) (count phase i least : ℕ) : Type 0 where
  pub place : i ≤ count
  pub same : rest s count phase i least ≡ whole s count phase

pub all_left : (s : List ℕ) (count phase : ℕ) → Left s count phase 0 0
all_left s count phase = record { place = omega arith; same = simp (sub-zero, le-leb 0 phase (omega arith)) }

module _ {s : List ℕ} {count phase i least : ℕ} (left : Left s count phase i least) where
  step : i < count → (keeps least (entry_in_slice s i) && rest s count phase (i + 1) ((entry_in_slice s i).phase + 1))
      ≡ whole s count phase
  step more =
      let some : count - i ≡ suc (count - (i + 1)) = omega arith in
      let next : entries_place + entry_size * (i + 1) ≡ entries_place + entry_size * i + entry_size = omega arith in
      let first = rw (some, entries_next (count - (i + 1)) (entries_place + entry_size * i) s) at left.same in
      rw next (sym (one_entry least phase _ _) ∙ first)

  -- an entry that keeps its bounds leaves those after it
  pub entry_passes : i < count → keeps least (entry_in_slice s i) ≡ true
      → Left s count phase (i + 1) ((entry_in_slice s i).phase + 1)
  entry_passes more keeps_so = record { place = omega arith; same = rw keeps_so at (step more) }

  -- an entry that breaks a bound settles the answer
  pub entry_breaks : i < count → keeps least (entry_in_slice s i) ≡ false → false ≡ whole s count phase
  entry_breaks more breaks = rw breaks at (step more)

  -- with no entry left, only the message's phase counts
  pub none_left : count ≤ i → leb least phase ≡ whole s count phase
  unfolding entries_ok entries_in
  none_left done =
      let none : count - i ≡ 0 = omega arith in
      sym (and_true (leb least phase)) ∙ rw none at left.same

-- what is told of an entry tells whether it keeps its bounds
pub keeps_told : (keeps : Bool) (phase : ℕ) {told : ℕ} → Some told ≡ cond keeps (Some phase) None
    → (keeps ≡ true) × (told ≡ phase)
keeps_told true phase e = (refl, cc)
keeps_told false phase e = cc

pub breaks_told : (keeps : Bool) (phase : ℕ) → None ≡ cond keeps (Some phase) None → keeps ≡ false
breaks_told true phase e = cc
breaks_told false phase e = refl

-- an entry behind another one, by what is told of it
module _ {s : List ℕ} {count phase i last : ℕ} (left : Left s count phase i (last + 1)) (j : ℕ) (here : i ≡ j)
    (more : j < count) where
  pub one_behind : {told : ℕ} → BehindEntry (entry_in_slice s j) last (Some told) → Left s count phase (j + 1) (told + 1)
  one_behind entry =
      let told = keeps_told (keeps (last + 1) (entry_in_slice s j)) (entry_in_slice s j).phase entry.answer in
      rw told.1 (entry_passes (rw here at left) more told.0)

  pub none_behind : BehindEntry (entry_in_slice s j) last None → false ≡ whole s count phase
  none_behind entry =
      entry_breaks (rw here at left) more (breaks_told (keeps (last + 1) (entry_in_slice s j)) _ entry.answer)
