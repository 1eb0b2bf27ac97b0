-- The cases of a line after the first two.
use mathlib.Core.Path.{◌≡◌, refl, ap, sym, ◌∙◌}
use mathlib.Core.Bool.{Bool, true, false, ◌&&◌, cond}
use mathlib.Core.List.{List, [], ◌∷◌}
use Prim.Native.Nat.{ℕ, suc}
use lib.ListN.{length, take, drop}
use native.Mathlib.Omega.{arith}
use lib.Dec.{eqb}
use borrow.Author.Tests.{ne_eqb}
use Rattle.std.proofs.lemmas.Bool.Decides.{nat_tests}
use Rattle.std.specs.Prelude.{Option, Some, None}
use Rattle.std.specs.Cmp.Lexicographic.{pointwise}
use Rattle.script.specs.Fields.{starts, numbers_on}
use Rattle.script.specs.declared.Numbers.{Numbers}
use Rattle.script.specs.declared.Command.{Command}
use Rattle.script.specs.declared.Command.TheVariants.{Go}
use Rattle.script.specs.Commands.{cut_word, say_word, go_word, cut_of, say_of, line_of}

-- that a slice begins with a word, and that it is the word, as they are tested
pub starts_tested : (w l : List ℕ) → starts w l ≡ pointwise eqb (take (length w) l) w
unfolding starts
starts_tested [] l = refl
starts_tested (c ∷ cs) [] = refl
starts_tested (c ∷ cs) (x ∷ l) = ap (λ (b : Bool). eqb x c && b) (starts_tested cs l)

same_suc : (m n : ℕ) → eqb (suc m) (suc n) ≡ eqb m n
same_suc m n = grind (arith, nat_tests)

is_go : (t r u v : Bool) → r && u ≡ v → (t && r) && u ≡ t && v
is_go true r u v e = e
is_go false r u v e = refl

pub is_tested : (w l : List ℕ) → starts w l && eqb (length l) (length w) ≡ pointwise eqb l w
unfolding starts
is_tested [] [] = refl
is_tested [] (x ∷ l) = ne_eqb (suc (length l)) 0 (λ z. omega arith)
is_tested (c ∷ cs) [] = refl
is_tested (c ∷ cs) (x ∷ l) =
    is_go (eqb x c) (starts cs l) (eqb (suc (length l)) (suc (length cs))) (pointwise eqb l cs)
    (ap (λ (b : Bool). starts cs l && b) (same_suc (length l) (length cs)) ∙ is_tested cs l)

by : (a b c a' b' c' : Bool) (x y : Option Command) → a ≡ a' → b ≡ b' → c ≡ c'
    → cond a x (cond b y (cond c (Some Go) None)) ≡ cond a' x (cond b' y (cond c' (Some Go) None))
by a b c a' b' c' x y p q r = rw (p, q, r)

module _ (l : List ℕ) (a b c : Bool) (p : starts cut_word l ≡ a) (q : starts say_word l ≡ b)
    (r : starts go_word l && eqb (length l) 2 ≡ c) where
  line_cases : line_of l
      ≡ cond a (cut_of (numbers_on (drop 4 l))) (cond b (say_of (numbers_on (drop 4 l))) (cond c (Some Go) None))
  unfolding line_of
  line_cases = by _ _ _ a b c (cut_of (numbers_on (drop 4 l))) (say_of (numbers_on (drop 4 l))) p q r

module _ (l : List ℕ) where
  -- the test of a word at the front fails, or passes
  abbrev pub Begins : List ℕ → Bool → Type 0
  Begins word t = pointwise eqb (take (length word) l) word ≡ t

  module _ (fields : List ℕ) (w : Option Numbers) (rest : fields ≡ drop 4 l) (read : w ≡ numbers_on fields) where
    read_rest : w ≡ numbers_on (drop 4 l)
    read_rest = read ∙ ap numbers_on rest

    pub cut_case : Begins cut_word true → cut_of w ≡ line_of l
    cut_case p =
        ap cut_of read_rest ∙ sym (line_cases l true _ _ (starts_tested cut_word l ∙ p) refl refl)

    pub say_case : Begins cut_word false → Begins say_word true → say_of w ≡ line_of l
    say_case p q =
        ap say_of read_rest
        ∙ sym (line_cases l false true _ (starts_tested cut_word l ∙ p) (starts_tested say_word l ∙ q) refl)

  -- a line that begins with neither word is `go` or none
  pub go_case : (go : Bool) → Begins cut_word false → Begins say_word false → pointwise eqb l go_word ≡ go
      → cond go (Some Go) None ≡ line_of l
  go_case go p q r =
      sym
      (line_cases l false false go (starts_tested cut_word l ∙ p) (starts_tested say_word l ∙ q)
      (is_tested go_word l ∙ r))
