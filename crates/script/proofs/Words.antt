-- The first word of a list and the rest.
use mathlib.Core.Path.{◌≡◌, refl, ap, sym, ◌∙◌}
use mathlib.Core.Bool.{Bool, true, false, cond}
use mathlib.Core.List.{List, [], ◌∷◌}
use Prim.Native.Nat.{ℕ, suc, ◌+◌, ◌-◌, ◌<◌, ◌≤◌}
use native.Mathlib.Omega.{arith}
use lib.ListN.{length, take, drop, length-drop}
use lib.Seq.{drop-drop, take_all}
use lib.Dec.{eqb}
use Rattle.script.specs.Lines.{until, split, onto}
use Rattle.script.proofs.Walk.{until_le}

last_go : (t : Bool) (x b : ℕ) (l : List ℕ) → (length l ≤ until b l → split b l ≡ l ∷ [])
    → suc (length l) ≤ cond t 0 (suc (until b l)) → cond t ([] ∷ split b l) (onto x (split b l)) ≡ (x ∷ l) ∷ []
unfolding onto
last_go true x b l ih h = absurd (omega arith)
last_go false x b l ih h = rw (ih (omega arith))

pub split_last : (b : ℕ) (l : List ℕ) → length l ≤ until b l → split b l ≡ l ∷ []
unfolding split until
split_last b [] h = refl
split_last b (x ∷ l) h = last_go (eqb x b) x b l (split_last b l) h

first_go : (t : Bool) (x b : ℕ) (l : List ℕ)
    → (until b l < length l → split b l ≡ take (until b l) l ∷ split b (drop (suc (until b l)) l))
    → cond t 0 (suc (until b l)) < suc (length l)
    → cond t ([] ∷ split b l) (onto x (split b l))
    ≡ take (cond t 0 (suc (until b l))) (x ∷ l) ∷ split b (drop (suc (cond t 0 (suc (until b l)))) (x ∷ l))
unfolding onto
first_go true x b l ih h = refl
first_go false x b l ih h = ap (onto x) (ih (omega arith))

pub split_first : (b : ℕ) (l : List ℕ) → until b l < length l
    → split b l ≡ take (until b l) l ∷ split b (drop (suc (until b l)) l)
unfolding split until
split_first b [] h = absurd (omega arith)
split_first b (x ∷ l) h = first_go (eqb x b) x b l (split_first b l) h

-- from a place at in a slice, whose next b stands at e
module _ (b at e : ℕ) (s : List ℕ) (inside : at ≤ length s) (found : e ≡ at + until b (drop at s)) where
  pub piece_within : e ≤ length s
  piece_within = omega (arith, until_le b (drop at s), length-drop at s)

  pub piece_last : length s ≤ e → split b (drop at s) ≡ take (e - at) (drop at s) ∷ []
  piece_last h =
      let l : length (drop at s) ≤ until b (drop at s) = omega (arith, length-drop at s) in
      let m : length (drop at s) ≤ e - at = omega (arith, length-drop at s) in
      split_last b (drop at s) l ∙ ap (λ (w : List ℕ). w ∷ []) (sym (take_all (e - at) (drop at s) m))

  pub piece_first : e < length s → split b (drop at s) ≡ take (e - at) (drop at s) ∷ split b (drop (e + 1) s)
  piece_first h =
      let l : until b (drop at s) < length (drop at s) = omega (arith, length-drop at s) in
      let m : e - at ≡ until b (drop at s) = omega arith in
      let k : e + 1 ≡ at + suc (until b (drop at s)) = omega arith in
      rw (m, k, ← drop-drop (suc (until b (drop at s))) at s) (split_first b (drop at s) l)
