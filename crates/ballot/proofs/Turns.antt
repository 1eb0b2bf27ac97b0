-- Who validates: c nodes in each phase, and each node in c of any n consecutive phases.
-- Builds on specs/Turns.antt and on crate crew's specs/Group.antt.
use mathlib.Core.Path.{◌≡◌, refl, sym, ap, ◌∙◌}
use mathlib.Core.Bool.{Bool, true, false, ◌||◌, ◌&&◌}
use Prim.Native.Nat.{ℕ, zero, suc, ◌+◌, ◌-◌, ◌*◌, ◌%◌, ◌≤◌, ◌<◌}
use native.Mathlib.Omega.{arith}
use native.Mathlib.Nat.{mod-lt, mod-eq_of_lt, add-mod_right, mul_comm, suc-mul, add-mul}
use native.Mathlib.Decide.{ℕ_discrete}
use lib.Dec.{ltb, eqb}
use borrow.Author.Tests.{lt-ltb}
use Rattle.wire.proofs.Tests.{tests, T_and}
use Rattle.crew.specs.declared.Crew.{Crew}
use Rattle.crew.specs.Group.{among, validates}
use Rattle.ballot.specs.Count.{bit, tally}
use Rattle.ballot.specs.Turns.{Turns, TakingTurns}
use Rattle.ballot.proofs.Counting.{bit_T, bit_F, nobody_of, tally_none, tally_le}
use Rattle.ballot.proofs.Counting.{tally_same, tally_apart, tally_parts, tally_sum}

-- one number below n is q
tally_one : (n q : ℕ) → q < n → tally (λ i. eqb i q) n ≡ 1
unfolding tally
tally_one zero q l = absurd (omega arith)
tally_one (suc n) q l = go (ℕ_discrete n q) (tally_one n q)
  where
    go : Dec (n ≡ q) → (q < n → tally (λ i. eqb i q) n ≡ 1) → bit (eqb n q) + tally (λ i. eqb i q) n ≡ 1
    go (yes e) rec =
        omega (
          arith,
          bit_T (eqb n q) (omega tests),
          tally_le (λ i. eqb i q) nobody_of n (λ i h t. omega tests),
          tally_none n,
        )
    go (no e) rec = omega (arith, rec (omega arith), bit_F (eqb n q) (λ t. omega tests))

-- a number that is 0 or 1, as a test
bit_positive : (x : ℕ) → x ≤ 1 → bit (ltb 0 x) ≡ x
bit_positive zero h = refl
bit_positive (suc zero) h = refl
bit_positive (suc (suc x)) h = absurd (omega arith)

-- how many of `count` numbers from `first` on are q modulo n
abbrev hits : (n first count q : ℕ) → ℕ
hits n first count q = tally (λ i. eqb ((first + i) % n) q) count

among_hits : (n first count q : ℕ) → among n first count q ≡ ltb 0 (hits n first count q)
unfolding among tally
among_hits n first zero q = refl
among_hits n first (suc count) q =
    go (eqb ((first + count) % n) q) (among n first count q) (among_hits n first count q)
  where
    go : (b a : Bool) → a ≡ ltb 0 (hits n first count q) → b || a ≡ ltb 0 (bit b + hits n first count q)
    go true a e = sym (lt-ltb 0 (1 + hits n first count q) (omega arith))
    go false a e = e ∙ ap (ltb 0) (let z : hits n first count q ≡ 0 + hits n first count q = omega arith in z)

module _ (n q : ℕ) (l : q < n) where
  hits_parts : (first a b : ℕ) → hits n first (a + b) q ≡ hits n first a q + hits n (first + a) b q
  hits_parts first a b =
      tally_parts (λ i. eqb ((first + i) % n) q) a b
      ∙ ap (λ x. hits n first a q + x) (tally_same (λ i. eqb ((first + (a + i)) % n) q)
      (λ i. eqb ((first + a + i) % n) q) b
      (λ i h. let e : first + (a + i) ≡ first + a + i = omega arith in ap (λ x. eqb (x % n) q) e))

  -- of n numbers in a row one is q modulo n: the row that starts one further on has lost such a number and gained one
  hits_full : (first : ℕ) → hits n first n q ≡ 1
  unfolding tally
  hits_full zero =
      tally_same (λ i. eqb ((0 + i) % n) q) (λ i. eqb i q) n
      (λ i h. let e : 0 + i ≡ i = omega arith in ap (λ x. eqb (x % n) q) e ∙ ap (λ x. eqb x q) (mod-eq_of_lt h))
      ∙ tally_one n q l
  hits_full (suc first) = slide (hits_full first)
    where
      p : ℕ → Bool
      p i = eqb ((first + i) % n) q

      slide : hits n first n q ≡ 1 → hits n (suc first) n q ≡ 1
      slide before =
          let ends : p n ≡ p 0 =
          let e : first + 0 ≡ first = omega arith in
          ap (λ x. eqb x q) (add-mod_right first n ∙ ap (λ x. x % n) (sym e)) in
          let row = tally_parts p 1 n in
          let whole : ◌≡◌ {A = ℕ} (1 + n) (suc n) = omega arith in
          let moved = tally_same (λ i. p (1 + i)) (λ i. eqb ((suc first + i) % n) q) n
          (λ i h. let e : first + (1 + i) ≡ suc first + i = omega arith in ap (λ x. eqb (x % n) q) e) in
          omega (arith, ap bit ends, ap (tally p) whole)

  -- of k times n numbers k
  hits_times : (first k : ℕ) → hits n first (k * n) q ≡ k
  unfolding tally
  hits_times first zero = let e : ◌≡◌ {A = ℕ} (0 * n) 0 = omega arith in ap (λ x. hits n first x q) e
  hits_times first (suc k) =
      let e : suc k * n ≡ n + k * n = suc-mul k n ∙ omega arith in
      omega (
        arith,
        ap (λ x. hits n first x q) e,
        hits_parts first n (k * n),
        hits_full first,
        hits_times (first + n) k,
      )

  -- of at most n numbers one at most
  hits_one : (first c : ℕ) → c ≤ n → hits n first c q ≤ 1
  hits_one first c h =
      let e : c + (n - c) ≡ n = omega arith in
      omega (arith, ap (λ x. hits n first x q) e, hits_parts first c (n - c), hits_full first)

-- a node validates where one of the phase's c numbers is its own modulo n
validates_is : (crew : Crew) (phase q : ℕ) → q < crew.n
    → validates crew phase q ≡ ltb 0 (hits crew.n (phase * crew.c) crew.c q)
unfolding validates
validates_is crew phase q l =
    simp (lt-ltb q crew.n l) (among_hits crew.n (phase * crew.c) crew.c q)

module _ (crew : Crew) (small : crew.c ≤ crew.n) where
  validates_bit : (phase q : ℕ) → q < crew.n
      → bit (validates crew phase q) ≡ hits crew.n (phase * crew.c) crew.c q
  validates_bit phase q l =
      ap bit (validates_is crew phase q l)
      ∙ bit_positive (hits crew.n (phase * crew.c) crew.c q)
      (hits_one crew.n q l (phase * crew.c) crew.c small)

  -- over m phases from `from` on, which make one row of m times c numbers
  served : (from q m : ℕ) → q < crew.n
      → tally (λ k. validates crew (from + k) q) m ≡ hits crew.n (from * crew.c) (m * crew.c) q
  unfolding tally
  served from q zero l =
      let e : ◌≡◌ {A = ℕ} (0 * crew.c) 0 = omega arith in
      sym (ap (λ x. hits crew.n (from * crew.c) x q) e)
  served from q (suc m) l =
      let e : suc m * crew.c ≡ m * crew.c + crew.c = suc-mul m crew.c in
      let p = add-mul from m crew.c in
      omega (
        arith,
        ap (λ x. hits crew.n (from * crew.c) x q) e,
        hits_parts crew.n q l (from * crew.c) (m * crew.c) crew.c,
        served from q m l,
        validates_bit (from + m) q l,
        ap (λ x. hits crew.n x crew.c q) p,
      )

  rotation : (from q : ℕ) → q < crew.n → tally (λ k. validates crew (from + k) q) crew.n ≡ crew.c
  rotation from q l =
      served from q crew.n l
      ∙ ap (λ x. hits crew.n (from * crew.c) x q) (mul_comm crew.n crew.c)
      ∙ hits_times crew.n q l (from * crew.c) crew.c

  -- the first c of a row of numbers are those of c nodes: one number more is that of one node more
  spread : (first c : ℕ) → c ≤ crew.n → tally (λ q. ltb 0 (hits crew.n first c q)) crew.n ≡ c
  unfolding tally
  spread first zero h = tally_none crew.n
  spread first (suc c) h =
      let r = (first + c) % crew.n in
      let one = tally_le (λ q. eqb r q) (λ q. eqb q r) crew.n (λ q l t. omega tests) in
      let back = tally_le (λ q. eqb q r) (λ q. eqb r q) crew.n (λ q l t. omega tests) in
      let parts = tally_sum (λ q. ltb 0 (hits crew.n first (suc c) q)) (λ q. eqb r q)
      (λ q. ltb 0 (hits crew.n first c q)) crew.n λ q l.
      bit_positive (hits crew.n first (suc c) q) (hits_one crew.n q l first (suc c) h)
      ∙ ap (λ x. bit (eqb r q) + x)
      (sym (bit_positive (hits crew.n first c q) (hits_one crew.n q l first c (omega arith)))) in
      omega (
        arith,
        tally_one crew.n r (mod-lt (first + c) (omega arith)),
        spread first c (omega arith),
      )

  in_turns : Turns crew
  in_turns = record {
    serves = rotation;
    size = λ phase.
        tally_same (validates crew phase) _ crew.n (λ q l. validates_is crew phase q l)
        ∙ spread (phase * crew.c) crew.c small;
  }

  -- A group larger than 3b + 2f has enough of any circle of n − b − f nodes: at most b + f of its c are not in the
  -- circle, and 2(c − b − f) > c + b.
  pub circle_serves : 3 * crew.b + 2 * crew.f < crew.c → (phase : ℕ) (circle : ℕ → Bool)
      → crew.n ≤ tally circle crew.n + crew.b + crew.f
      → crew.c + crew.b < 2 * tally (λ q. circle q && validates crew phase q) crew.n
  circle_serves large phase circle wide =
      omega (
        arith,
        in_turns.size phase,
        tally_apart circle (validates crew phase) (λ q. circle q && validates crew phase q) crew.n λ q l t u.
            T_and (circle q) (validates crew phase q) t u,
      )

-- Validators take turns.
pub turns : TakingTurns
turns = in_turns

-- with c = n everybody validates
pub everybody : (crew : Crew) → crew.c ≡ crew.n → (phase q : ℕ) → q < crew.n → validates crew phase q ≡ true
everybody crew e phase q l =
    validates_is crew phase q l
    ∙ ap (λ c. ltb 0 (hits crew.n (phase * c) c q)) e ∙ ap (ltb 0) (hits_full crew.n q l (phase * crew.n))
