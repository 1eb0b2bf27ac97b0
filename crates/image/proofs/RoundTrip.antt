-- Every record has one image, and every 150 bytes are the image of one record: reading and writing an image undo each
-- other, both ways.
use mathlib.Core.Path.{◌≡◌, refl, ap, sym, ◌∙◌}
use mathlib.Core.List.{List, [], ◌∷◌, ◌++◌}
use Prim.Native.Nat.{ℕ, zero, suc, ◌+◌, ◌*◌, ◌<◌, ◌≤◌}
use native.Mathlib.Nat.{add_assoc}
use native.Mathlib.Omega.{arith}
use lib.ListN.{length, get_or, drop, drop_of_length-le}
use lib.Seq.{drop-cons, get_or-append-add}
use Rattle.wire.specs.Bytes.{number_at, bytes_of, AreBytes}
use Rattle.wire.proofs.Numbers.{number_of_bytes, bytes_of_number, number_small}
use Rattle.wire.specs.Sizes.{plan_size, plan_limit, run_size, history_size}
use Rattle.node.specs.declared.Node.{Node}
use Rattle.node.proofs.Facts.{Typed}
use Rattle.image.proofs.Stores.{history_bytes_length, plans_length}
use Rattle.image.specs.Layout.{crew_place, own_place, run_place, phase_place, round_place, vote_place, base_place}
use Rattle.image.specs.Layout.{stamp_place, select_place, result_place, history_place, image_size}
use Rattle.image.specs.Layout.{scalar_bytes, history_bytes, image_of, plans_in, record_in}

-- bytes in front move a number's place
number_skip : (width : ℕ) (front s : List ℕ) (place : ℕ)
    → number_at width (front ++ s) (length front + place) ≡ number_at width s place
number_skip zero front s place = refl
number_skip (suc width) front s place =
    rw (get_or-append-add front s place 0, add_assoc (length front) place 1, number_skip width front s (place + 1))

plans_skip : (front s : List ℕ) (place count : ℕ)
    → plans_in (front ++ s) (length front + place) count ≡ plans_in s place count
unfolding plans_in
plans_skip front s place zero = refl
plans_skip front s place (suc count) =
    rw (
      number_skip plan_size front s place,
      add_assoc (length front) place plan_size,
      plans_skip front s (place + plan_size) count,
    )

-- plans of two bytes are read as they were written
plans_of_history : (plans : List ℕ) → ((i : ℕ) → get_or plans i 0 < plan_limit)
    → plans_in (history_bytes plans) 0 (length plans) ≡ plans
unfolding plans_in history_bytes
plans_of_history [] small = refl
plans_of_history (plan ∷ plans) small =
    let first : number_at plan_size (bytes_of plan_size plan ++ history_bytes plans) 0 ≡ plan =
    number_of_bytes plan_size plan (history_bytes plans) (small 0) in
    rw (first, plans_skip (bytes_of plan_size plan) (history_bytes plans) 0 (length plans))
    (ap (λ (rest : List ℕ). plan ∷ rest) (plans_of_history plans (λ i. small (suc i))))

-- a record's image is read to that record
pub record_of_image : (d : Node) → Typed d → record_in (image_of d) ≡ d
record_of_image d typed =
    let s = image_of d in
    let run : number_at run_size s run_place ≡ d.run = omega (arith, typed.run) in
    let vote : number_at plan_size s vote_place ≡ d.vote = omega (arith, typed.vote) in
    let base : number_at plan_size s base_place ≡ d.base = omega (arith, typed.base) in
    let select : number_at plan_size s select_place ≡ d.select = omega (arith, typed.select) in
    let result : number_at plan_size s result_place ≡ d.result = omega (arith, typed.result) in
    let skipped = plans_skip (scalar_bytes d) (history_bytes d.history) 0 history_size in
    let history : plans_in s history_place history_size ≡ d.history =
    skipped ∙ ap (plans_in (history_bytes d.history) 0) (sym typed.long)
    ∙ plans_of_history d.history typed.entries in
    rw (run, vote, base, select, result, history)

-- One field more in front of what is read as the bytes after it.
byte_front : (s : List ℕ) (place : ℕ) {rest : List ℕ} → place < length s → rest ≡ drop (suc place) s
    → get_or s place 0 ∷ rest ≡ drop place s
byte_front s place inside e = rw e (sym (drop-cons s place 0 inside))

number_front : (width : ℕ) (s : List ℕ) (place : ℕ) {rest : List ℕ} → AreBytes s → place + width ≤ length s
    → rest ≡ drop (place + width) s
    → bytes_of width (number_at width s place) ++ rest ≡ drop place s
number_front width s place bytes inside e = rw e (sym (bytes_of_number width s place bytes inside))

-- the plans that are read from bytes are written as those bytes
history_of_plans : (s : List ℕ) (place count : ℕ) → AreBytes s → place + plan_size * count ≡ length s
    → history_bytes (plans_in s place count) ≡ drop place s
unfolding plans_in history_bytes
history_of_plans s place zero bytes end =
    let past : length s ≤ place = omega arith in
    sym (drop_of_length-le s past)
history_of_plans s place (suc count) bytes end =
    number_front plan_size s place bytes (omega arith)
    (history_of_plans s (place + plan_size) count bytes (omega arith))

-- 150 bytes are the image of the record that is read from them
pub image_of_record : (s : List ℕ) → AreBytes s → length s ≡ image_size → image_of (record_in s) ≡ s
image_of_record s bytes long =
    byte_front s crew_place (omega arith) (byte_front s (crew_place + 1) (omega arith)
    (byte_front s (crew_place + 2) (omega arith) (byte_front s (crew_place + 3) (omega arith)
    (byte_front s (crew_place + 4) (omega arith) (byte_front s (crew_place + 5) (omega arith)
    (byte_front s own_place (omega arith) (number_front run_size s run_place bytes (omega arith)
    (byte_front s phase_place (omega arith) (byte_front s round_place (omega arith)
    (number_front plan_size s vote_place bytes (omega arith) (number_front plan_size s base_place bytes (omega arith)
    (byte_front s stamp_place (omega arith) (number_front plan_size s select_place bytes (omega arith)
    (number_front plan_size s result_place bytes (omega arith)
    (history_of_plans s history_place history_size bytes (omega arith))))))))))))))))

-- The premises of both are met: bytes hold a record whose fields have their types, and a record's image has 150 bytes.
plans_small : (s : List ℕ) (place count : ℕ) → AreBytes s → (i : ℕ) → get_or (plans_in s place count) i 0 < plan_limit
unfolding plans_in
plans_small s place zero bytes i = omega arith
plans_small s place (suc count) bytes zero = number_small plan_size s place bytes
plans_small s place (suc count) bytes (suc i) = plans_small s (place + plan_size) count bytes i

pub record_typed : (s : List ℕ) → AreBytes s → Typed (record_in s)
record_typed s bytes = record {
  run = number_small run_size s run_place bytes;
  vote = number_small plan_size s vote_place bytes;
  base = number_small plan_size s base_place bytes;
  select = number_small plan_size s select_place bytes;
  result = number_small plan_size s result_place bytes;
  entries = plans_small s history_place history_size bytes;
  long = plans_length s history_place history_size;
}

pub image_length : (d : Node) → Typed d → length (image_of d) ≡ image_size
image_length d typed = omega (arith, history_bytes_length d.history, typed.long)

-- what the sum of the layout comes to
image_size_lem : image_size ≡ 150
image_size_lem = refl
