-- The fields of a slice as they come one by one, and the numbers that are laid of them.
use mathlib.Core.Path.{◌≡◌, refl, ap, subst, sym, ◌∙◌}
use mathlib.Core.Bool.{Bool, true, false, cond}
use mathlib.Core.List.{List, [], ◌∷◌, ◌++◌, map}
use Prim.Native.Nat.{ℕ, ◌+◌, ◌<◌, ◌≤◌}
use lib.ListN.{length, set, replicate, length-set}
use lib.Dec.{eqb}
use denote.Ref.{Bor}
use borrow.Author.Tests.{le-leb, lt-leb}
use Rattle.std.specs.Prelude.{Option, Some, None}
use Rattle.std.specs.Iterator.{Yields, AlwaysYields}
use Rattle.std.proofs.lemmas.Iterator.{YieldsList}
use Rattle.std.specs.List.{slice_split, onto_first}
use Rattle.script.specs.Lines.{space, split, onto}
use Rattle.script.specs.Fields.{largest, most_numbers, number_of, numbers_from, numbers_on}

-- an iterator that gives a list, and has given xs: what comes next is next in the list, and nothing where it ends
module _ {S A B : Type 0} (steps : S → Option A → S → Type 0) (v : A → B) where
  item_from : (s t u : S) (xs : List A) (x : A) (all : List B) → Yields steps s xs t → steps t (Some x) u
      → AlwaysYields steps v s all → (rest : List B) × (all ≡ map v xs ++ (v x ∷ rest))
  item_from s t u [] x [] y step gives = absurd (gives x u (subst (λ k. steps k (Some x) u) (sym y) step))
  item_from s t u [] x (z ∷ all) y step gives =
      let more = gives.1 x u (subst (λ k. steps k (Some x) u) (sym y) step) in
      (all, ap (λ k. k ∷ all) (sym more.0))
  item_from s t u (w ∷ xs) x [] y step gives = absurd (gives w y.0 y.1)
  item_from s t u (w ∷ xs) x (z ∷ all) y step gives =
      let more = gives.1 w y.0 y.1 in
      let next = item_from y.0 t u xs x all y.2 step more.1 in
      (next.0, ap (λ l. z ∷ l) next.1 ∙ ap (λ k. k ∷ (map v xs ++ (v x ∷ next.0))) (sym more.0))

  none_from : (s t u : S) (xs : List A) (all : List B) → Yields steps s xs t → steps t None u
      → AlwaysYields steps v s all → all ≡ map v xs
  none_from s t u [] [] y step gives = refl
  none_from s t u [] (z ∷ all) y step gives = absurd (gives.0 u (subst (λ k. steps k None u) (sym y) step))
  none_from s t u (w ∷ xs) [] y step gives = absurd (gives w y.0 y.1)
  none_from s t u (w ∷ xs) (z ∷ all) y step gives =
      let more = gives.1 w y.0 y.1 in
      ap (λ k. k ∷ all) (sym more.0) ∙ ap (λ l. v w ∷ l) (none_from y.0 t u xs all y.2 step more.1)

  pub item_next : (s t u : S) (xs : List A) (x : A) (all : List B) → Yields steps s xs t → steps t (Some x) u
      → YieldsList steps v s all → (rest : List B) × (all ≡ map v xs ++ (v x ∷ rest))
  item_next s t u xs x all y step gives = item_from s t u xs x all y step gives.runs

  pub none_next : (s t u : S) (xs : List A) (all : List B) → Yields steps s xs t → steps t None u
      → YieldsList steps v s all → all ≡ map v xs
  none_next s t u xs all y step gives = none_from s t u xs all y step gives.runs

onto_same : (x : ℕ) (ws : List (List ℕ)) → onto x ws ≡ onto_first x ws
unfolding onto
onto_same x [] = refl
onto_same x (w ∷ ws) = refl

-- the library's pieces are those of specs/Lines.antt
pub split_is : (b : ℕ) (l : List ℕ) → split b l ≡ slice_split (λ x. eqb x b) l
unfolding split
split_is b [] = refl
split_is b (x ∷ l) = rw (split_is b l) (go (eqb x b))
  where
    go : (t : Bool) → cond t ([] ∷ slice_split (λ x. eqb x b) l) (onto x (slice_split (λ x. eqb x b) l))
        ≡ cond t ([] ∷ slice_split (λ x. eqb x b) l) (onto_first x (slice_split (λ x. eqb x b) l))
    go true = refl
    go false = onto_same x (slice_split (λ x. eqb x b) l)

-- the texts of fields
abbrev pub texts : List (Bor (List ℕ)) → List (List ℕ)
texts fields = map (λ x. x.now) fields

texts_more : (xs : List (Bor (List ℕ))) (x : Bor (List ℕ)) (ws : List (List ℕ))
    → texts (xs ++ (x ∷ [])) ++ ws ≡ texts xs ++ (x.now ∷ ws)
texts_more [] x ws = refl
texts_more (y ∷ xs) x ws = ap (λ l. y.now ∷ l) (texts_more xs x ws)

texts_end : (xs : List (Bor (List ℕ))) → texts xs ++ [] ≡ texts xs
texts_end [] = refl
texts_end (y ∷ xs) = ap (λ l. y.now ∷ l) (texts_end xs)

-- the numbers of these fields are laid in values
pub record Laid (fields : List (Bor (List ℕ))) (count : ℕ) (values : List ℕ) : Type 0 where
  pub long : length values ≡ most_numbers
  pub rest : (ws : List (List ℕ)) → numbers_from (texts fields ++ ws) 0 (replicate most_numbers 0)
      ≡ numbers_from ws count values

module _ (fields : List (Bor (List ℕ))) (count : ℕ) (values : List ℕ) (laid : Laid fields count values) where
  -- the next field
  module _ (s : List ℕ) (x : Bor (List ℕ)) (rest : List (List ℕ))
      (all : slice_split (λ b. eqb b space) s ≡ texts fields ++ (x.now ∷ rest)) where
    whole : numbers_from (x.now ∷ rest) count values ≡ numbers_on s
    whole =
        sym (laid.rest (x.now ∷ rest))
        ∙ ap (λ l. numbers_from l 0 (replicate most_numbers 0)) (sym (split_is space s ∙ all))

    pub field_bad : number_of largest x.now ≡ None → None ≡ numbers_on s
    unfolding numbers_from
    field_bad e = rw e at whole

    pub field_full : (v : ℕ) → number_of largest x.now ≡ Some v → most_numbers ≤ count → None ≡ numbers_on s
    unfolding numbers_from
    field_full v e h = rw (e, le-leb _ _ h) at whole

  pub field_more : (x : Bor (List ℕ)) (v : ℕ) → number_of largest x.now ≡ Some v → count < most_numbers
      → Laid (fields ++ (x ∷ [])) (count + 1) (set values count v)
  unfolding numbers_from
  field_more x v e h = record {
    long = length-set values count v ∙ laid.long;
    rest = λ ws.
        let step = rw (e, lt-leb _ _ h) at (laid.rest (x.now ∷ ws)) in
        ap (λ l. numbers_from l 0 (replicate most_numbers 0)) (texts_more fields x ws) ∙ step;
  }

  pub fields_end : (s : List ℕ) → slice_split (λ b. eqb b space) s ≡ texts fields
      → Some (record { count = count; values = values }) ≡ numbers_on s
  unfolding numbers_from
  fields_end s all =
      sym (laid.rest [])
      ∙ ap (λ l. numbers_from l 0 (replicate most_numbers 0)) (texts_end fields ∙ sym (split_is space s ∙ all))
