-- The list of what the numbers below a bound give, and arrays that a loop has filled with it.
use mathlib.Core.Path.{◌≡◌, refl, ap₂, ◌∙◌}
use mathlib.Core.List.{List, [], ◌∷◌, ◌++◌}
use Prim.Native.Nat.{ℕ, zero, suc, ◌+◌, ◌<◌, ◌≤◌}
use native.Mathlib.Omega.{arith}
use native.Mathlib.Numerals.{add-one}
use lib.ListN.{length, length-append, get_or-append}
use lib.Seq.{get_or_at}
use Rattle.wire.specs.Below.{table}
use Rattle.wire.proofs.Tests.{by_equality}
use Rattle.wire.proofs.Arrays.{Filled, filled_all, Filling}

module _ {A : Type 0} (f : ℕ → A) where
  pub table_long : (n : ℕ) → length (table f n) ≡ n
  unfolding table
  table_long zero = refl
  table_long (suc n) = omega (arith, length-append (table f n) (f n ∷ []), table_long n)

  -- place k of a table holds f k
  pub table_filled : (other : A) (n : ℕ) → Filled f other (table f n) n
  unfolding table
  table_filled other zero k less = absurd (omega arith)
  table_filled other (suc n) k less =
      by_equality k n
      (λ same. rw same (get_or_at (table f n) (f n) [] other n (table_long n)))
      (λ apart.
      let before : k < length (table f n) = omega (arith, apart, table_long n) in
      get_or-append (table f n) (f n ∷ []) other k before
      ∙ table_filled other n k (omega (arith, apart)))

-- a table's first, and the rest
pub table_first : {A : Type 0} (f : ℕ → A) (n : ℕ) → table f (suc n) ≡ f 0 ∷ table (λ i. f (i + 1)) n
unfolding table
table_first f zero = refl
table_first f (suc n) = rw (table_first f n, add-one n)

-- what gives the same below n gives the same table
pub table_same : {A : Type 0} (f g : ℕ → A) (n : ℕ) → ((i : ℕ) → i < n → f i ≡ g i) → table f n ≡ table g n
unfolding table
table_same f g zero same = refl
table_same f g (suc n) same =
    ap₂ (λ l x. l ++ (x ∷ [])) (table_same f g n (λ i l. same i (omega arith))) (same n (omega arith))

-- with all its places filled an array is the table
pub filled_table : {A : Type 0} {other : A} {f : ℕ → A} {n : ℕ} {l : List A} {i : ℕ} → Filling other f n l i → n ≤ i
    → l ≡ table f n
filled_table {other = other} {f} {n} {l} {i} filling ended =
    let same : length l ≡ length (table f n) = omega (arith, filling.long, table_long f n) in
    filled_all f other l (table f n) i same (omega (arith, filling.long)) filling.so_far
    (rw (table_long f n) (table_filled f other n))
