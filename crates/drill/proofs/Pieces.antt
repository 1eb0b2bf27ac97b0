-- The pieces of a script from a place on: the line there, and the pieces behind it.
use mathlib.Core.Path.{◌≡◌, refl, ap, sym, ◌∙◌}
use mathlib.Core.Bool.{Bool, true, false, cond, true≢false}
use mathlib.Core.List.{List, [], ◌∷◌, head-eq_of_cons-eq, tail-eq_of_cons-eq}
use Prim.Native.Nat.{ℕ, ◌+◌, ◌-◌, ◌<◌, ◌≤◌}
use native.Mathlib.Omega.{arith}
use lib.ListN.{length, drop, length-drop}
use lib.Seq.{length-take-le}
use lib.Dec.{ltb, eqb}
use borrow.Author.Tests.{ltb-true, ltb-false}
use Rattle.script.specs.Lines.{newline, until, split, onto}
use Rattle.script.proofs.Words.{piece_within, piece_last, piece_first}
use Rattle.drill.specs.Run.{is_last}
use Rattle.drill.specs.Stepping.{lines_from}
use Rattle.drill.specs.Promises.{here}

onto_some : (x : ℕ) (ws : List (List ℕ)) → is_last (onto x ws) ≡ false
unfolding onto
onto_some x [] = refl
onto_some x (w ∷ ws) = refl

some_go : (t : Bool) (x : ℕ) (ws : List (List ℕ)) → is_last (cond t ([] ∷ ws) (onto x ws)) ≡ false
some_go true x ws = refl
some_go false x ws = onto_some x ws

-- there is always a piece
pub split_some : (b : ℕ) (l : List ℕ) → is_last (split b l) ≡ false
unfolding split
split_some b [] = refl
split_some b (x ∷ l) = some_go (eqb x b) x (split b l)

-- a line from `at` to e, its byte 10, or an unended one
pub record Found (input : List ℕ) (at e : ℕ) : Type 0 where
  pub inside : at ≤ length input
  pub found : e ≡ at + until newline (drop at input)

pub found_there : (input : List ℕ) (at e : ℕ) → at ≤ length input → e ≡ at + until newline (drop at input)
    → Found input at e
found_there input at e inside found = record { inside = inside; found = found }

module _ {input : List ℕ} {at e : ℕ} (line : Found input at e) where
  pub ended : e < length input → lines_from input at ≡ here input at e ∷ lines_from input (e + 1)
  ended = piece_first newline at e input line.inside line.found

  pub unended : length input ≤ e → lines_from input at ≡ here input at e ∷ []
  unended = piece_last newline at e input line.inside line.found

  pub within : e ≤ length input
  within = piece_within newline at e input line.inside line.found

  pub here_long : length (here input at e) ≡ e - at
  here_long = length-take-le (e - at) (drop at input) (omega (arith, length-drop at input, within))

  -- behind an ended line
  pub here_end : at + length (here input at e) + 1 ≡ e + 1
  here_end = omega (arith, here_long, line.found)

-- where the pieces behind an ended line begin
pub record Behind (input : List ℕ) (at : ℕ) (ws : List (List ℕ)) : Type 0 where
  pub inside : at ≤ length input
  pub lines : lines_from input at ≡ ws

pub behind_line : (input : List ℕ) (at : ℕ) (w : List ℕ) (ws : List (List ℕ)) → at ≤ length input
    → lines_from input at ≡ w ∷ ws → is_last ws ≡ false → Behind input (at + length w + 1) ws
behind_line input at w ws inside lines more = go (ltb e (length input)) refl
  where
    e : ℕ
    e = at + until newline (drop at input)

    line : Found input at e
    line = record { inside = inside; found = refl }

    go : (t : Bool) → ltb e (length input) ≡ t → Behind input (at + length w + 1) ws
    go true is =
        let before = ltb-true e (length input) is in
        let both = sym lines ∙ ended line before in
        let next : at + length w + 1 ≡ e + 1 = rw (head-eq_of_cons-eq both) (here_end line) in
        record { inside = rw next (omega arith); lines = rw next (sym (tail-eq_of_cons-eq both)) }
    go false is =
        let none : ws ≡ [] = tail-eq_of_cons-eq (sym lines ∙ unended line (ltb-false e (length input) is)) in
        absurd (true≢false (sym (ap is_last none) ∙ more))
