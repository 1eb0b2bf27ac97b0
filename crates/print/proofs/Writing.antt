-- One text written after another is both, written as one.
use mathlib.Core.Path.{◌≡◌, refl, ap, sym, ◌∙◌}
use mathlib.Core.Bool.{Bool, true, false, cond}
use mathlib.Core.List.{List, [], ◌∷◌, ◌++◌}
use Prim.Native.Nat.{ℕ, suc, ◌+◌, ◌-◌, ◌<◌, ◌≤◌, min}
use native.Mathlib.Nat.{add-zero}
use native.Mathlib.Numerals.{add-one}
use native.Mathlib.Omega.{arith}
use lib.ListN.{length, length-append, set, get_or, drop, drop_of_length-le}
use lib.Seq.{sets, drop-cons}
use lib.Dec.{leb}
use borrow.Author.Tests.{leb-true, leb-false}
use Rattle.crew.specs.Parts.{most_nodes}
use Rattle.wire.proofs.Stores.{sets_append}
use Rattle.print.specs.Texts.{Wrote, WroteWithin, Laid, line_most, field_of, fields_from, nodes_shown}

wrote_then : {l xs l' ys l'' : List ℕ} {at at' at'' : ℕ}
    → Wrote l at xs l' at' → Wrote l' at' ys l'' at'' → Wrote l at (xs ++ ys) l'' at''
wrote_then {l = l} {xs = xs} {ys = ys} {at = at} a b =
    record {
      next = omega (arith, length-append xs ys, a.next, b.next);
      left = rw (sets_append xs ys l at, ← a.left, ← a.next) b.left;
    }

-- their bounds add up
pub within_then : {m k : ℕ} {l xs l' ys l'' : List ℕ} {at at' at'' : ℕ}
    → WroteWithin m l at xs l' at' → WroteWithin k l' at' ys l'' at'' → WroteWithin (m + k) l at (xs ++ ys) l'' at''
within_then a b =
    record { wrote = wrote_then a.wrote b.wrote; within = omega (arith, a.within, b.within) }

-- what is written within a bound is within a wider one
pub within_more : {m k : ℕ} {l text l' : List ℕ} {at at' : ℕ} → WroteWithin m l at text l' at' → m ≤ k
    → WroteWithin k l at text l' at'
within_more a wider = record { wrote = a.wrote; within = omega (arith, a.within) }

-- what is left of a text after its first part
pub wrote_rest : {l l' w : List ℕ} {at at' e : ℕ} (xs ys : List ℕ)
    → Wrote l at xs l' at' → Wrote l at (xs ++ ys) w e → Wrote l' at' ys w e
wrote_rest {l = l} {at = at} xs ys a whole =
    record {
      next = omega (arith, length-append xs ys, a.next, whole.next);
      left = rw (a.left, a.next) (whole.left ∙ sets_append xs ys l at);
    }

-- A rest, written to l at `at`, completes a text: it leaves what the whole text leaves, written to l₀ from `from` on.
abbrev pub Completes : List ℕ → List ℕ → ℕ → List ℕ → List ℕ → ℕ → Type 0
Completes rest l at text l₀ from = Wrote l at rest (sets l₀ from text) (from + length text)

-- so where that rest has been written, the whole text has been
pub wrote_all : {l l' l₀ written : List ℕ} {from at r : ℕ} (rest text : List ℕ) → rest ≡ written
    → Wrote l at written l' r → Completes rest l at text l₀ from → Wrote l₀ from text l' r
wrote_all {l = l} {at = at} rest text e a whole =
    record {
      next = a.next ∙ ap (λ (b : List ℕ). at + length b) (sym e) ∙ sym whole.next;
      left = a.left ∙ ap (sets l at) (sym e) ∙ sym whole.left;
    }

-- a byte
pub within_one : (b : ℕ) (l l' : List ℕ) (at : ℕ) → l' ≡ set l at b → WroteWithin 1 l at (b ∷ []) l' (at + 1)
within_one b l l' at e = record { wrote = record { next = refl; left = e }; within = omega arith }

-- nothing
pub wrote_none : (l : List ℕ) (at : ℕ) → Wrote l at [] l at
wrote_none l at = record { next = sym (add-zero at); left = refl }

pub within_none : (most : ℕ) (l : List ℕ) (at : ℕ) → WroteWithin most l at [] l at
within_none most l at = record { wrote = wrote_none l at; within = omega arith }

-- a text at the front of a buffer is a line that is laid there
pub laid : {most : ℕ} {l text l' : List ℕ} {r : ℕ} → most ≤ line_most → WroteWithin most l 0 text l' r
    → Laid l text l' r
laid small a =
    record {
      size = omega (arith, a.wrote.next);
      left = a.wrote.left;
      within = omega (arith, a.within);
    }

-- the nodes' results from node i on
module _ (rs : List ℕ) (hs : List Bool) (i n : ℕ) where
  pub fields_none : n ≤ i → fields_from rs hs i (n - i) ≡ []
  unfolding fields_from
  fields_none h = let k : n - i ≡ 0 = omega arith in rw k

  pub fields_more : i < n → {l l' w : List ℕ} {at at' e : ℕ}
      → Wrote l at (field_of (get_or hs i false) (get_or rs i 0)) l' at'
      → Wrote l at (fields_from rs hs i (n - i)) w e → Wrote l' at' (fields_from rs hs (i + 1) (n - (i + 1))) w e
  unfolding fields_from
  fields_more h {l = l} {at = at} a inv =
      let k : n - i ≡ suc (n - (i + 1)) = omega arith in
      let f = field_of (get_or hs i false) (get_or rs i 0) in
      let g = fields_from rs hs (i + 1) (n - (i + 1)) in
      wrote_rest f g a (rw k at inv)

-- a text at the front, byte by byte: what a turn of the loop leaves
pub put_more : (l l' text : List ℕ) (at : ℕ) (r : List ℕ) → at < length text → l' ≡ set l at (get_or text at 0)
    → sets l at (drop at text) ≡ r → sets l' (at + 1) (drop (at + 1) text) ≡ r
put_more l l' text at r inside put inv = rw (put, add-one at) (rw (drop-cons text at 0 inside) at inv)

pub put_all : (l text : List ℕ) (at : ℕ) (r : List ℕ) → length text ≤ at → sets l at (drop at text) ≡ r → l ≡ r
put_all l text at r ended inv = rw (drop_of_length-le text ended) at inv

-- a line has room for so many nodes' results
pub shown_is : (n : ℕ) → min n most_nodes ≡ nodes_shown n
shown_is n = go (leb n most_nodes) refl
  where
    go : (t : Bool) → leb n most_nodes ≡ t → min n most_nodes ≡ cond t n most_nodes
    go true e = omega (arith, leb-true _ _ e)
    go false e = omega (arith, leb-false _ _ e)
