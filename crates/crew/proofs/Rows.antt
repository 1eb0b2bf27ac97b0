-- The group of a phase is a row of nodes from its first on, round the end of the crew.
-- Builds on specs/Group.antt and specs/Promises.antt.
use mathlib.Core.Path.{◌≡◌, refl, sym, ap, ◌∙◌}
use mathlib.Core.Bool.{Bool, true, false, ◌&&◌, ◌||◌}
use mathlib.Core.Logic.{◌⊎◌, inl, inr}
use Prim.Native.Nat.{ℕ, zero, suc, ◌+◌, ◌-◌, ◌*◌, ◌%◌, ◌≤◌, ◌<◌}
use native.Mathlib.Omega.{arith}
use native.Mathlib.Nat.{mod-lt, mod-le, mod-eq_of_lt, mod-add-mod, add-mod_right, mod-eq-sub-mod}
use native.Mathlib.Decide.{ℕ_discrete, dec_lt, dec_le}
use lib.Dec.{T, leb, ltb, eqb}
use borrow.Author.Tests.{ltb-true}
use Rattle.wire.proofs.Tests.{tests, and_T, T_and, or_T, T-or-l, T-or-r, same_test}
use Rattle.crew.specs.declared.Crew.{Crew}
use Rattle.crew.specs.Group.{among, validates}
use Rattle.crew.specs.Promises.{row, in_row}

-- the row as facts
abbrev Row : (n first count q : ℕ) → Type 0
Row n first count q = ((first ≤ q) × (q < first + count)) ⊎ (q + n < first + count)

row_T : (n first count q : ℕ) → T (row n first count q) → Row n first count q
row_T n first count q t = elim (or_T (leb first q && ltb q (first + count)) (ltb (q + n) (first + count)) t) [
  | inl both ↦ let b = and_T (leb first q) (ltb q (first + count)) both in inl (omega tests, omega tests)
  | inr round ↦ inr (omega tests)
]

T-row : (n first count q : ℕ) → Row n first count q → T (row n first count q)
T-row n first count q (inl b) =
    T-or-l (leb first q && ltb q (first + count)) (ltb (q + n) (first + count))
    (T_and (leb first q) (ltb q (first + count)) (omega tests) (omega tests))
T-row n first count q (inr round) =
    T-or-r (leb first q && ltb q (first + count)) (ltb (q + n) (first + count)) (omega tests)

-- and a node is in it that comes fewer than `count` nodes after the first
pub distance_row : (n first count q distance : ℕ)
    → (first ≤ q → distance + first ≡ q) × (q < first → distance + first ≡ q + n)
    → ltb distance count ≡ row n first count q
distance_row n first count q distance is =
    same_test (ltb distance count) (row n first count q)
    (λ t. T-row n first count q (elim (dec_le first q) [
      | yes h ↦ inl (h, omega (tests, is.0 h))
      | no h ↦ inr (omega (tests, is.1 (omega arith)))
    ]))
    (λ t. elim (row_T n first count q t) [
      | inl b ↦ omega (tests, is.0 b.0)
      | inr b ↦ elim (dec_le first q) [
        | yes h ↦ omega (tests, is.0 h)
        | no h ↦ omega (tests, is.1 (omega arith))
      ]
    ])

-- a number that has a remainder and is not below n passes it by n at least
mod_below : (x n : ℕ) → n ≤ x → x % n + n ≤ x
mod_below x n h = omega (arith, mod-eq-sub-mod h, mod-le (x - n) n)

module _ (n first q : ℕ) (l : q < n) where
  -- the number `count` places behind the first is the last of a row of count + 1
  last : (count : ℕ) → (first + count) % n ≡ q → Row n (first % n) (suc count) q
  last count e =
      let same : (first % n + count) % n ≡ q = mod-add-mod first n count ∙ e in
      let below = mod-le (first % n + count) n in
      elim (dec_le (first % n) q) [
        | yes h ↦ inl (h, omega arith)
        | no h ↦ elim (dec_lt (first % n + count) n) [
          | yes k ↦ absurd (omega (arith, mod-eq_of_lt k))
          | no k ↦ inr (omega (arith, mod_below (first % n + count) n (omega arith)))
        ]
      ]

  -- and the last of the row is that number
  ends : (count : ℕ) → (first % n + count ≡ q) ⊎ (first % n + count ≡ q + n) → (first + count) % n ≡ q
  ends count at = sym (mod-add-mod first n count) ∙ elim at [
    | inl e ↦ ap (λ x. x % n) e ∙ mod-eq_of_lt l
    | inr e ↦ ap (λ x. x % n) e ∙ add-mod_right q n ∙ mod-eq_of_lt l
  ]

  among_row : (count : ℕ) → among n first count q ≡ row n (first % n) count q
  unfolding among
  among_row zero =
      same_test false (row n (first % n) 0 q) (λ t. absurd t) λ t.
      elim (row_T n (first % n) 0 q t) [
        | inl b ↦ absurd (omega arith)
        | inr b ↦ absurd (omega (arith, mod-lt first {m = n} (omega arith)))
      ]
  among_row (suc count) =
      same_test (eqb ((first + count) % n) q || among n first count q) (row n (first % n) (suc count) q)
      (λ t. T-row n (first % n) (suc count) q (elim (or_T (eqb ((first + count) % n) q) (among n first count q) t) [
        | inl e ↦ last count (omega tests)
        | inr rest ↦ longer (row_T n (first % n) count q (rw (among_row count) at rest))
      ]))
      (λ t. split (among_row count) (row_T n (first % n) (suc count) q t))
    where
      longer : Row n (first % n) count q → Row n (first % n) (suc count) q
      longer (inl b) = inl (b.0, omega arith)
      longer (inr b) = inr (omega arith)

      goal : Type 0
      goal = T (eqb ((first + count) % n) q || among n first count q)

      here : (first + count) % n ≡ q → goal
      here e = T-or-l (eqb ((first + count) % n) q) (among n first count q) (omega tests)

      shorter : among n first count q ≡ row n (first % n) count q → Row n (first % n) count q → goal
      shorter same r =
          T-or-r (eqb ((first + count) % n) q) (among n first count q) (rw same (T-row n (first % n) count q r))

      split : among n first count q ≡ row n (first % n) count q → Row n (first % n) (suc count) q → goal
      split same (inl b) = elim (ℕ_discrete (first % n + count) q) [
        | yes e ↦ here (ends count (inl e))
        | no e ↦ shorter same (inl (b.0, omega arith))
      ]
      split same (inr b) = elim (ℕ_discrete (first % n + count) (q + n)) [
        | yes e ↦ here (ends count (inr e))
        | no e ↦ shorter same (inr (omega arith))
      ]

-- Who validates, by the group's first node.
pub validates_row : (crew : Crew) (phase first q : ℕ) → (0 < crew.n → first ≡ phase * crew.c % crew.n)
    → validates crew phase q ≡ in_row crew first q
unfolding validates
validates_row crew phase first q is = by_number (ltb q crew.n) refl
  where
    by_number : (b : Bool) → ltb q crew.n ≡ b
        → (b && among crew.n (phase * crew.c) crew.c q) ≡ (b && row crew.n first crew.c q)
    by_number true e =
        let l = ltb-true q crew.n e in
        among_row crew.n (phase * crew.c) q l crew.c
        ∙ ap (λ x. row crew.n x crew.c q) (sym (is (omega arith)))
    by_number false e = refl
