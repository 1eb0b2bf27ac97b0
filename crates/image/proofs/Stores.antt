-- Laying plans one after the other, and reading them so: what the loops go by.
use mathlib.Core.Path.{◌≡◌, refl, ap, sym, ◌∙◌}
use mathlib.Core.List.{List, [], ◌∷◌, ◌++◌}
use Prim.Native.Nat.{ℕ, zero, suc, ◌+◌, ◌*◌, ◌<◌, ◌≤◌}
use native.Mathlib.Omega.{arith}
use native.Mathlib.Numerals.{add-one}
use lib.ListN.{length, get_or, drop, drop_of_length-le}
use lib.Seq.{sets, drop-cons}
use Rattle.wire.specs.Bytes.{number_at, bytes_of}
use Rattle.wire.proofs.Stores.{sets_append, sets_whole}
use Rattle.wire.specs.Sizes.{plan_size, history_size}
use Rattle.node.specs.declared.Node.{Node}
use Rattle.image.specs.Layout.{crew_place, history_place, image_size}
use Rattle.image.specs.Layout.{history_bytes, scalar_bytes, image_of, plans_in}

-- two bytes each
pub history_bytes_length : (plans : List ℕ) → length (history_bytes plans) ≡ plan_size * length plans
unfolding history_bytes
history_bytes_length [] = refl
history_bytes_length (plan ∷ plans) = omega (arith, history_bytes_length plans)

pub plans_length : (s : List ℕ) (place count : ℕ) → length (plans_in s place count) ≡ count
unfolding plans_in
plans_length s place zero = refl
plans_length s place (suc count) = omega (arith, plans_length s (place + plan_size) count)

-- plan i of those from a place on stands after i plans
pub plan_in_lem : (s : List ℕ) (place count i : ℕ) → i < count
    → get_or (plans_in s place count) i 0 ≡ number_at plan_size s (place + plan_size * i)
unfolding plans_in
plan_in_lem s place zero i less = absurd (omega arith)
plan_in_lem s place (suc count) zero less = ap (number_at plan_size s) (omega arith)
plan_in_lem s place (suc count) (suc i) less =
    plan_in_lem s (place + plan_size) count i (omega arith) ∙ ap (number_at plan_size s) (omega arith)

-- A turn of the loop that lays the plans: those left end in the same bytes.
pub lay_turn : (history image next whole : List ℕ) (i : ℕ) → i < length history
    → next ≡ sets image (history_place + plan_size * i) (bytes_of plan_size (get_or history i 0))
    → sets image (history_place + plan_size * i) (history_bytes (drop i history)) ≡ whole
    → sets next (history_place + plan_size * (i + 1)) (history_bytes (drop (i + 1) history)) ≡ whole
unfolding history_bytes
lay_turn history image next whole i more is e =
    let place : history_place + plan_size * (i + 1) ≡ history_place + plan_size * i + plan_size = omega arith in
    let first = bytes_of plan_size (get_or history i 0) in
    let split = sets_append first (history_bytes (drop (suc i) history)) image (history_place + plan_size * i) in
    rw (is, place, add-one i, ← split) (rw (drop-cons history i 0 more) at e)

-- none is left
pub lay_end : (history image whole : List ℕ) (i : ℕ) → length history ≤ i
    → sets image (history_place + plan_size * i) (history_bytes (drop i history)) ≡ whole → image ≡ whole
unfolding history_bytes
lay_end history image whole i done e = rw (drop_of_length-le history done) at e

-- the scalars and then the plans fill an image whole
pub image_laid : (d : Node) (image : List ℕ) → length image ≡ image_size → length d.history ≡ history_size
    → sets (sets image crew_place (scalar_bytes d)) history_place (history_bytes d.history) ≡ image_of d
image_laid d image long plans =
    let bytes = scalar_bytes d in
    let rest = history_bytes d.history in
    let whole : length (bytes ++ rest) ≡ length image = omega (arith, history_bytes_length d.history) in
    sym (sets_append bytes rest image 0) ∙ sets_whole (bytes ++ rest) image whole
