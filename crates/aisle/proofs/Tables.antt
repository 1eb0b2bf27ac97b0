-- What the loops that fill the arrays of an aisle go by.
use mathlib.Core.Path.{◌≡◌, sym, ◌∙◌}
use mathlib.Core.List.{List, map}
use Prim.Native.Nat.{ℕ}
use lib.ListN.{length, length-map}
use Rattle.wire.proofs.Arrays.{Filling}

-- an array of records is as long as that of their values, which is as long as its type says
pub length_mapped : (A B : Type 0) (f : A → B) (l : List A) (n : ℕ) → length (map f l) ≡ n → length l ≡ n
length_mapped A B f l n long = sym (length-map l f) ∙ long

-- i places of an array of n hold what the table of f has there
abbrev pub Tabled : {A : Type 0} → (ℕ → A) → ℕ → List A → ℕ → Type 0
Tabled f n l i = Filling (f 0) f n l i
