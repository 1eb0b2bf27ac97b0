-- From the number of the marks a caller reads exactly which nodes are marked: those of the first n that should be, and
-- no other.
use mathlib.Core.Path.{◌≡◌, refl, ap, ap₂, ◌∙◌}
use mathlib.Core.Bool.{Bool, true, false, cond}
use Prim.Native.Nat.{ℕ, zero, suc, ◌+◌, ◌-◌, ◌*◌, ◌/◌, ◌^◌, ◌<◌, ◌≤◌}
use native.Mathlib.Nat.{add-zero, pow-suc, div-eq_of_lt, add-div_right, add-mul-div_left, add-mul-mod_self_right}
use native.Mathlib.Numerals.{add-one}
use native.Mathlib.Omega.{arith}
use lib.Pow.{pow_pos, pow_mono, pow-add}
use Rattle.wire.specs.Marks.{marked, marks_of}
use Rattle.wire.proofs.Tests.{by_equality}

-- one mark more takes one bit more
one_more : (n marks : ℕ) (b : Bool) → marks < 2 ^ n → marks + cond b (2 ^ n) 0 < 2 ^ suc n
one_more n marks true small = omega arith
one_more n marks false small = omega arith

-- so n marks make a number of n bits
pub marks_below : (which : ℕ → Bool) (n : ℕ) → marks_of which n < 2 ^ n
unfolding marks_of
marks_below which zero = omega arith
marks_below which (suc n) = one_more n (marks_of which n) (which n) (marks_below which n)

-- which fits where there is room for more
pub marks_fit : (which : ℕ → Bool) {n room : ℕ} → n ≤ room → marks_of which n < 2 ^ room
marks_fit which {n} fits = omega (arith, marks_below which n, pow_mono fits)

-- in a number of q bits node q is not marked
above_unmarked : (q marks : ℕ) → marks < 2 ^ q → marked q marks ≡ false
above_unmarked q marks small = rw (div-eq_of_lt small)

-- so no node from n on is
pub marked_out : (which : ℕ → Bool) (n q : ℕ) → n ≤ q → marked q (marks_of which n) ≡ false
marked_out which n q later = above_unmarked q (marks_of which n) (marks_fit which later)

-- what is added for node q tells whether it is marked
own_mark : (q marks : ℕ) (b : Bool) → marks < 2 ^ q → marked q (marks + cond b (2 ^ q) 0) ≡ b
own_mark q marks true small = rw (add-div_right marks (pow_pos q), div-eq_of_lt small)
own_mark q marks false small = above_unmarked q (marks + 0) (omega arith)

-- and what is added for node n leaves the nodes before it as they are
earlier_kept : (q n marks : ℕ) (b : Bool) → q < n → marked q (marks + cond b (2 ^ n) 0) ≡ marked q marks
earlier_kept q n marks true less =
    let gap = n - suc q in
    let exponent : n ≡ q + suc gap = omega arith in
    let even : 2 ^ n ≡ 2 ^ q * (2 ^ gap * 2) =
    ap (λ k. 2 ^ k) exponent ∙ pow-add 2 q (suc gap) ∙ ap (λ k. 2 ^ q * k) (pow-suc 2 gap) in
    rw (even, add-mul-div_left marks (2 ^ gap * 2) (pow_pos q), add-mul-mod_self_right (marks / 2 ^ q) (2 ^ gap) 2)
earlier_kept q n marks false less = rw (add-zero marks)

-- so each of the first n nodes is marked where it should be
pub marked_in : (which : ℕ → Bool) (n q : ℕ) → q < n → marked q (marks_of which n) ≡ which q
unfolding marks_of
marked_in which zero q less = absurd (omega arith)
marked_in which (suc n) q less =
    by_equality q n
    (λ e. rw e (own_mark n (marks_of which n) (which n) (marks_below which n)))
    (λ e. earlier_kept q n (marks_of which n) (which n) (omega (arith, e)) ∙ marked_in which n q (omega (arith, e)))

-- What a loop over the nodes goes by: one node more, and tests that agree on the first n.
pub marks_more : (which : ℕ → Bool) (q : ℕ) {marks one : ℕ} → marks ≡ marks_of which q → one ≡ cond (which q) (2 ^ q) 0
    → marks + one ≡ marks_of which (q + 1)
unfolding marks_of
marks_more which q so_far here = rw (add-one q, so_far, here)

pub marks_same : (a b : ℕ → Bool) (n : ℕ) → ((q : ℕ) → q < n → a q ≡ b q) → marks_of a n ≡ marks_of b n
unfolding marks_of
marks_same a b zero same = refl
marks_same a b (suc n) same =
    ap₂ (λ marks here. marks + cond here (2 ^ n) 0) (marks_same a b n (λ q less. same q (omega arith)))
    (same n (omega arith))
