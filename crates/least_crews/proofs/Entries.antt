-- One test over the whole table, which computes, and one law: a table that passes it has the least crews.
use mathlib.Core.Path.{◌≡◌, ap₂, sym, subst}
use mathlib.Core.Bool.{Bool, ◌&&◌}
use mathlib.Core.List.{List}
use Prim.Native.Nat.{ℕ, suc, ◌+◌, ◌-◌}
use native.Mathlib.Omega.{arith}
use lib.Dec.{T, eqb, eqb→eq}
use lib.ListN.{length}
use Rattle.wire.specs.Below.{every_below}
use Rattle.wire.proofs.Tests.{and_T, every_below_lem}
use Rattle.least_crews.specs.Search.{last_class, most_b, most_f}
use Rattle.least_crews.specs.Entries.{IsLeast, numbers, entry_in, Shown}
use Rattle.least_crews.proofs.Ranges.{Ranges, ranges}
use Rattle.least_crews.proofs.Forms.{closed_form, form_least}

-- the entry is the closed form
unfoldable pub right : List ℕ → ℕ → ℕ → ℕ → Bool
right table class b f =
    let least = entry_in table class b f in
    let form = closed_form class b f in
    eqb least.n form.n && eqb least.d form.d

-- the test of all entries; `class` counts from 0 here
unfoldable pub all_right : List ℕ → Bool
all_right table =
    every_below (λ class. every_below (λ b. every_below (right table (suc class) b) (most_f + 1)) (most_b + 1))
    last_class

module _ (table : List ℕ) (tested : T (all_right table)) (class b f : ℕ) (r : Ranges class b f) where
  entry_right : T (right table class b f)
  unfolding all_right
  entry_right =
      let of-class = every_below_lem _ last_class tested (class - 1) (omega (arith, r.class_from, r.class_to)) in
      let of-b = every_below_lem _ (most_b + 1) of-class b (omega (arith, r.b_to)) in
      let of-f = every_below_lem _ (most_f + 1) of-b f (omega (arith, r.f_to)) in
      let same : suc (class - 1) ≡ class = omega (arith, r.class_from) in
      subst (λ k. T (right table k b f)) same of-f

  entry_least : IsLeast class b f (entry_in table class b f)
  unfolding right
  entry_least =
      let least = entry_in table class b f in
      let form = closed_form class b f in
      let both = and_T (eqb least.n form.n) (eqb least.d form.d) entry_right in
      let same : form ≡ least = ap₂ (λ n d. record { n = n; d = d })
      (sym (eqb→eq _ _ both.0)) (sym (eqb→eq _ _ both.1)) in
      subst (IsLeast class b f) same (form_least class b f r.class_from r.class_to)

-- the theorem over all entries
pub shown : (table : List ℕ) → length table ≡ numbers → T (all_right table) → Shown table
shown table long tested =
    record {
      whole = long;
      each = λ class b f known. entry_least table tested class b f (ranges class b f known);
    }
