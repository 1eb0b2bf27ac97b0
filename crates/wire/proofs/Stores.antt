-- Stores of bytes one after the other: what the writers of messages, texts and images go by.
use mathlib.Core.Path.{◌≡◌, refl, ap, sym, ◌∙◌}
use mathlib.Core.Logic.{◌≢◌}
use mathlib.Core.List.{List, [], ◌∷◌, ◌++◌, append-nil}
use Prim.Native.Nat.{ℕ, suc, ◌+◌, ◌-◌, ◌<◌, ◌≤◌}
use native.Mathlib.Nat.{add-zero, add-suc, suc-add, zero-add}
use native.Mathlib.Omega.{arith}
use lib.ListN.{length, set, take, drop, drop_of_length-le}
use lib.Seq.{sets, sets-eq, set-set, set_comm}
use borrow.Author.Tests.{le-leb}
use borrow.Rule.Slice.PartMut.{put_mid}
use Rattle.std.proofs.Common.{append_assoc}
use Rattle.std.proofs.lemmas.Slice.{put_mid-paste}
use Rattle.std.proofs.lemmas.List.Edits.{paste_all}
use Rattle.wire.specs.Bytes.{laid}

-- the places of the third and the fourth byte of a run
pub add_two : (n : ℕ) → n + 2 ≡ suc (suc n)
add_two n = omega arith

pub add_three : (n : ℕ) → n + 3 ≡ suc (suc (suc n))
add_three n = omega arith

-- two runs of bytes, one after the other
pub sets_append : (xs ys l : List ℕ) (i : ℕ) → sets l i (xs ++ ys) ≡ sets (sets l i xs) (i + length xs) ys
sets_append [] ys l i = ap (λ (k : ℕ). sets l k ys) (sym (add-zero i))
sets_append (x ∷ xs) ys l i =
    sets_append xs ys (set l i x) (suc i)
    ∙ ap (λ (k : ℕ). sets (sets (set l i x) (suc i) xs) k ys) (suc-add i (length xs) ∙ sym (add-suc i (length xs)))

-- a store before a run of stores may come after it
set_before : (l : List ℕ) (i j a : ℕ) (xs : List ℕ) → i < j → set (sets l j xs) i a ≡ sets (set l i a) j xs
set_before l i j a [] h = refl
set_before l i j a (x ∷ xs) h =
    let apart : j ≢ i = λ e. omega arith in
    set_before (set l j x) i (suc j) a xs (omega arith)
    ∙ ap (λ (m : List ℕ). sets m (suc j) xs) (set_comm l j i x a apart)

-- a run of stores over one that is not longer
pub sets_over : (l : List ℕ) (i : ℕ) (xs ys : List ℕ) → length xs ≤ length ys → sets (sets l i xs) i ys ≡ sets l i ys
sets_over l i [] ys h = refl
sets_over l i (x ∷ xs) [] h = absurd (omega arith)
sets_over l i (x ∷ xs) (y ∷ ys) h =
    ap (λ (m : List ℕ). sets m (suc i) ys)
    (set_before (set l i x) i (suc i) y xs (omega arith) ∙ ap (λ (m : List ℕ). sets m (suc i) xs) (set-set l i x y))
    ∙ sets_over (set l i y) (suc i) xs ys (omega arith)

-- stores from the front of a buffer on
pub sets_front : (bs l : List ℕ) → length bs ≤ length l → sets l 0 bs ≡ bs ++ drop (length bs) l
sets_front bs l h =
    let room : 0 + length bs ≤ length l = rw zero-add h in
    rw (← zero-add (length bs)) (sets-eq bs l 0 room)

-- as many stores as a buffer has bytes leave nothing of what stood there
pub sets_whole : (bs l : List ℕ) → length bs ≡ length l → sets l 0 bs ≡ bs
sets_whole bs l same =
    let room : length bs ≤ length l = omega arith in
    let over : length l ≤ length bs = omega arith in
    sets_front bs l room ∙ ap (λ (rest : List ℕ). bs ++ rest) (drop_of_length-le l over) ∙ append-nil bs

-- what is laid where it has room is stored
pub laid_room : {after : List ℕ} (buffer bytes : List ℕ) (place : ℕ) → after ≡ laid buffer place bytes
    → place + length bytes ≤ length buffer → after ≡ sets buffer place bytes
unfolding laid
laid_room buffer bytes place e room = e ∙ rw (le-leb (place + length bytes) (length buffer) room)

-- what is written into the part of a buffer that begins at a place is laid there
pub laid_part : (buffer bytes part : List ℕ) (place : ℕ) → place + length bytes ≤ length buffer → part ≡ bytes
    → put_mid place (place + length bytes - place) buffer part ≡ laid buffer place bytes
unfolding laid
laid_part buffer bytes part place room same =
    put_mid-paste place (place + length bytes - place) buffer part bytes (length bytes) same (omega arith) refl
    ∙ paste_all buffer place bytes (length bytes) refl
    ∙ sym (append_assoc (take place buffer) bytes (drop (place + length bytes) buffer))
    ∙ rw (le-leb (place + length bytes) (length buffer) room) (sym (sets-eq bytes buffer place room))
