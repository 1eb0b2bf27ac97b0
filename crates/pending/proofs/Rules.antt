-- What is said of cuts and says, as theorems on the definitions.
use mathlib.Core.Path.{◌≡◌, refl}
use mathlib.Core.Bool.{Bool, true, false, cond}
use mathlib.Core.List.{List, [], ◌∷◌}
use Prim.Native.Nat.{ℕ, zero, suc, ◌<◌}
use native.Mathlib.Omega.{arith}
use lib.ListN.{length, get_or, set, get_or-eq_default}
use lib.Seq.{get_or-set_same, set-set}
use borrow.Author.Tests.{lt-ltb, ltb-false}
use Rattle.crew.specs.Parts.{most_nodes}
use Rattle.pending.specs.declared.Pending.{Pending}
use Rattle.pending.specs.declared.Waiting.{Waiting}
use Rattle.pending.specs.Pairs.{known, with_cut, with_say, idle, standing, waiting_from}

-- whether what a sender sends is lost goes by the cuts alone: what takes a place with its cut keeps every sender's
same_cuts : (l : List Waiting) (s k : ℕ) (w : Waiting) → w.cut ≡ (get_or l s idle).cut
    → (get_or (set l s w) k idle).cut ≡ (get_or l k idle).cut
same_cuts [] s k w e = refl
same_cuts (x ∷ l) zero zero w e = e
same_cuts (x ∷ l) zero (suc k) w e = refl
same_cuts (x ∷ l) (suc s) zero w e = refl
same_cuts (x ∷ l) (suc s) (suc k) w e = same_cuts l s k w e

-- at no sender's place nothing stands
pub standing_waits : (p : Pending) (s : ℕ) → length p.from ≡ most_nodes → standing p s ≡ waiting_from p s
unfolding waiting_from
standing_waits p s long = go (known s) refl
  where
    go : (t : Bool) → known s ≡ t → standing p s ≡ cond t (standing p s) idle
    go true e = refl
    go false e = get_or-eq_default p.from idle (omega (arith, ltb-false s most_nodes e))

module _ (p : Pending) (s : ℕ) (inside : s < most_nodes) where
  -- of two says for one pair the last stands
  pub last_say_stands : (plan stamp plan' stamp' : ℕ)
      → with_say (with_say p s plan stamp) s plan' stamp' ≡ with_say p s plan' stamp'
  unfolding with_say
  last_say_stands plan stamp plan' stamp' =
      let said : Waiting = record { cut = (standing p s).cut; plan = plan; stamp = stamp } in
      let same = same_cuts p.from s s said refl in
      rw (lt-ltb s most_nodes inside) (simp (same, set-set))

  -- what is cut is lost
  pub cut_stands : length p.from ≡ most_nodes → (waiting_from (with_cut p s) s).cut ≡ true
  unfolding waiting_from with_cut
  cut_stands long =
      let room : s < length p.from = omega arith in
      rw (lt-ltb s most_nodes inside, get_or-set_same p.from s _ idle room)

-- no say takes a cut back
pub say_keeps_cuts : (p : Pending) (s plan stamp s' : ℕ)
    → (waiting_from (with_say p s plan stamp) s').cut ≡ (waiting_from p s').cut
unfolding with_say waiting_from
say_keeps_cuts p s plan stamp s' = go (known s) (known s')
  where
    said : Waiting
    said = record { cut = (standing p s).cut; plan = plan; stamp = stamp }

    go : (t u : Bool) → (cond u (standing (cond t (record { from = set p.from s said }) p) s') idle).cut
        ≡ (cond u (standing p s') idle).cut
    go true true = same_cuts p.from s s' said refl
    go true false = refl
    go false u = refl
