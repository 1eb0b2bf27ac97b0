-- Tests that compute, for examples, with what holds where they pass: bytes that a node wrote stand at the front of a
-- slot, and a node's calls are those of a whole round.
use mathlib.Core.Path.{◌≡◌, refl, sym, ap, ap₂, ◌∙◌}
use mathlib.Core.Bool.{Bool, true, false, cond, ◌&&◌, ◌||◌}
use mathlib.Core.List.{List, [], ◌∷◌, ◌++◌}
use mathlib.Core.Logic.{inl, inr}
use Prim.Native.Nat.{ℕ, ◌*◌}
use native.Mathlib.Omega.{arith}
use lib.ListN.{length, take, drop, take-append-drop}
use lib.Dec.{T, ltb, eqb, ltb→lt, eqb→eq}
use borrow.Author.Tests.{eqb-true, eqb-false}
use Rattle.wire.specs.Outcome.{Outcome, accepted, refused}
use Rattle.wire.proofs.Tests.{and_T, or_T}
use Rattle.message.specs.Layout.{slot_size}
use Rattle.node.specs.declared.Node.{Node}
use Rattle.node.specs.Sending.{write_coming_of, coming_buffer_of}
use Rattle.agreement.specs.Statement.{Call, write, ask, take_round, after_call, Puts, Wrote, Asks, Whole}

-- Lists of numbers.

unfoldable pub same_bytes : List ℕ → List ℕ → Bool
same_bytes [] [] = true
same_bytes [] (y ∷ ys) = false
same_bytes (x ∷ xs) [] = false
same_bytes (x ∷ xs) (y ∷ ys) = eqb x y && same_bytes xs ys

pub same_bytes_lem : (xs ys : List ℕ) → T (same_bytes xs ys) → xs ≡ ys
unfolding same_bytes
same_bytes_lem [] [] t = refl
same_bytes_lem [] (y ∷ ys) t = absurd t
same_bytes_lem (x ∷ xs) [] t = absurd t
same_bytes_lem (x ∷ xs) (y ∷ ys) t =
    let both = and_T (eqb x y) (same_bytes xs ys) t in
    ap₂ (λ a l. a ∷ l) (eqb→eq x y both.0) (same_bytes_lem xs ys both.1)

-- What was written, at the front of a slot.

-- an accepted write of so many bytes, with the buffer after it
abbrev pub written_front : Outcome ℕ → List ℕ → List ℕ → Bool
written_front (accepted size) buffer slot =
    ltb 0 size && eqb (length (take size buffer)) size && same_bytes (take size slot) (take size buffer)
written_front (refused number) buffer slot = false

abbrev pub puts_front : Node → Call → List ℕ → Bool
puts_front d (write buffer) slot = written_front (write_coming_of d buffer) (coming_buffer_of d buffer) slot
puts_front d (ask inbox) slot = false
puts_front d (take_round inbox) slot = false

unfoldable pub wrote_front : Node → List Call → List ℕ → Bool
wrote_front d [] slot = false
wrote_front d (c ∷ cs) slot = puts_front d c slot || wrote_front (after_call d c) cs slot

puts_front_lem : (d : Node) (c : Call) (slot : List ℕ) → T (puts_front d c slot)
    → (written : List ℕ) × (rest : List ℕ) × Puts d c written × (slot ≡ written ++ rest)
puts_front_lem d (ask inbox) slot t = absurd t
puts_front_lem d (take_round inbox) slot t = absurd t
puts_front_lem d (write buffer) slot t = go (write_coming_of d buffer) refl t
  where
    go : (o : Outcome ℕ) → write_coming_of d buffer ≡ o → T (written_front o (coming_buffer_of d buffer) slot)
        → (written : List ℕ) × (rest : List ℕ) × Puts d (write buffer) written × (slot ≡ written ++ rest)
    go (refused number) e t = absurd t
    go (accepted size) e t =
        let after = coming_buffer_of d buffer in
        let both = and_T (ltb 0 size && eqb (length (take size after)) size)
        (same_bytes (take size slot) (take size after)) t in
        let sized = and_T (ltb 0 size) (eqb (length (take size after)) size) both.0 in
        let long = eqb→eq (length (take size after)) size sized.1 in (
          take size after,
          drop size slot,
          (
            e ∙ ap accepted (sym long),
            omega (arith, ltb→lt 0 size sized.0),
            ap (λ k. take k after) long,
          ),
          sym (take-append-drop size slot)
              ∙ ap (λ x. x ++ drop size slot) (same_bytes_lem (take size slot) (take size after) both.1),
        )

pub wrote_front_lem : (d : Node) (cs : List Call) (slot : List ℕ) → T (wrote_front d cs slot)
    → (written : List ℕ) × (rest : List ℕ) × Wrote d cs written × (slot ≡ written ++ rest)
unfolding wrote_front
wrote_front_lem d [] slot t = absurd t
wrote_front_lem d (c ∷ cs) slot t = elim (or_T (puts_front d c slot) (wrote_front (after_call d c) cs slot) t) [
  | inl puts ↦ let w = puts_front_lem d c slot puts in (w.0, w.1, inl w.2, w.3)
  | inr wrote ↦ let w = wrote_front_lem (after_call d c) cs slot wrote in (w.0, w.1, inr w.2, w.3)
]

-- Whole rounds.

unfoldable pub only_asks : List Call → Bool
only_asks [] = true
only_asks (write buffer ∷ cs) = false
only_asks (ask inbox ∷ cs) = only_asks cs
only_asks (take_round inbox ∷ cs) = false

asks_are : (cs : List Call) → T (only_asks cs) → Asks cs
unfolding only_asks
asks_are [] t = tt
asks_are (write buffer ∷ cs) t = absurd t
asks_are (ask inbox ∷ cs) t = asks_are cs t
asks_are (take_round inbox ∷ cs) t = absurd t

unfoldable pub is_whole : ℕ → List Call → Bool
is_whole n [] = false
is_whole n (write buffer ∷ cs) = is_whole n cs
is_whole n (ask inbox ∷ cs) = is_whole n cs
is_whole n (take_round inbox ∷ cs) = cond (eqb (length inbox) (slot_size * n)) (only_asks cs) (is_whole n cs)

pub whole_is : (n : ℕ) (cs : List Call) → T (is_whole n cs) → Whole n cs
unfolding is_whole
whole_is n [] t = absurd t
whole_is n (write buffer ∷ cs) t = whole_is n cs t
whole_is n (ask inbox ∷ cs) t = whole_is n cs t
whole_is n (take_round inbox ∷ cs) t = go (eqb (length inbox) (slot_size * n)) refl t (whole_is n cs)
  where
    go : (b : Bool) → eqb (length inbox) (slot_size * n) ≡ b → T (cond b (only_asks cs) (is_whole n cs))
        → (T (is_whole n cs) → Whole n cs) → Whole n (take_round inbox ∷ cs)
    go true e t rec = inl (eqb-true (length inbox) (slot_size * n) e, asks_are cs t)
    go false e t rec = inr (eqb-false (length inbox) (slot_size * n) e, rec t)
