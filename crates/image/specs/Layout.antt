-- The image of a node record: 150 bytes, each field at a fixed place, numbers little-endian as in messages.
--
--   place 0      1  2  3  4  5  6    7    11     12     13    15    17     18      20      22
--   field class  n  b  f  D  c  own  run  phase  round  vote  base  stamp  select  result  history
--   bytes 1      1  1  1  1  1  1    4    1      1      2     2     1      2       2       64 times 2, from phase 0 on
use Rattle.std.specs.Prelude.{ℕ, zero, suc, ◌+◌, ◌*◌, ◌≡◌, Bool, cond, List, [], ◌∷◌, ◌++◌, length, get_or, eqb}
use Rattle.std.specs.Prelude.{Option, Some, None}
use Rattle.wire.specs.Bytes.{number_at, bytes_of}
use Rattle.wire.specs.Sizes.{plan_size, run_size, history_size}
use Rattle.crew.specs.declared.Crew.{Crew}
use Rattle.crew.specs.Parts.{crew_of}
use Rattle.node.specs.declared.Node.{Node}

-- the places, each where the field before it ends; the code has them as constants in src/lib.rt
abbrev pub crew_place : ℕ
crew_place = 0

-- class, n, b, f, D and c
abbrev pub crew_size : ℕ
crew_size = 6

abbrev pub own_place : ℕ
own_place = crew_place + crew_size

abbrev pub run_place : ℕ
run_place = own_place + 1

abbrev pub phase_place : ℕ
phase_place = run_place + run_size

abbrev pub round_place : ℕ
round_place = phase_place + 1

abbrev pub vote_place : ℕ
vote_place = round_place + 1

abbrev pub base_place : ℕ
base_place = vote_place + plan_size

abbrev pub stamp_place : ℕ
stamp_place = base_place + plan_size

abbrev pub select_place : ℕ
select_place = stamp_place + 1

abbrev pub result_place : ℕ
result_place = select_place + plan_size

abbrev pub history_place : ℕ
history_place = result_place + plan_size

abbrev pub image_size : ℕ
image_size = history_place + plan_size * history_size

abbrev pub crew_bytes : Crew → List ℕ
crew_bytes crew = crew.class ∷ crew.n ∷ crew.b ∷ crew.f ∷ crew.d ∷ crew.c ∷ []

-- own number, run and coming round
abbrev pub place_bytes : Node → List ℕ
place_bytes d = d.own ∷ (bytes_of run_size d.run ++ (d.phase ∷ d.round ∷ []))

-- vote, base, stamp, select and result
abbrev pub plan_bytes : Node → List ℕ
plan_bytes d =
    bytes_of plan_size d.vote
    ++ (bytes_of plan_size d.base ++ (d.stamp ∷ (bytes_of plan_size d.select ++ bytes_of plan_size d.result)))

-- the fields before the history
abbrev pub scalar_bytes : Node → List ℕ
scalar_bytes d = crew_bytes d.crew ++ (place_bytes d ++ plan_bytes d)

-- the history's plans one after the other
unfoldable pub history_bytes : List ℕ → List ℕ
history_bytes [] = []
history_bytes (plan ∷ plans) = bytes_of plan_size plan ++ history_bytes plans

abbrev pub image_of : Node → List ℕ
image_of d = scalar_bytes d ++ history_bytes d.history

-- `count` plans from a place on
unfoldable pub plans_in : List ℕ → ℕ → ℕ → List ℕ
plans_in s place zero = []
plans_in s place (suc count) = number_at plan_size s place ∷ plans_in s (place + plan_size) count

-- the crew that stands in an image
abbrev pub crew_in : List ℕ → Crew
crew_in s =
    crew_of (get_or s crew_place 0) (get_or s (crew_place + 1) 0) (get_or s (crew_place + 2) 0)
    (get_or s (crew_place + 3) 0) (get_or s (crew_place + 4) 0) (get_or s (crew_place + 5) 0)

-- the record that stands in an image
abbrev pub record_in : List ℕ → Node
record_in s = record {
  crew = crew_in s;
  own = get_or s own_place 0;
  run = number_at run_size s run_place;
  phase = get_or s phase_place 0;
  round = get_or s round_place 0;
  vote = number_at plan_size s vote_place;
  base = number_at plan_size s base_place;
  stamp = get_or s stamp_place 0;
  select = number_at plan_size s select_place;
  result = number_at plan_size s result_place;
  history = plans_in s history_place history_size;
}

-- whether a slice is as long as an image
abbrev pub image_fits : List ℕ → Bool
image_fits s = eqb (length s) image_size

-- the record that a slice is the image of; none where the slice has another length
abbrev pub load_of : List ℕ → Option Node
load_of s = cond (image_fits s) (Some (record_in s)) None

-- what storing a record leaves in a lent slice: its image, or the slice as it was where it has another length
abbrev pub image_after : Node → List ℕ → List ℕ
image_after d s = cond (image_fits s) (image_of d) s

-- What storing a record in a slice gives: whether it has the length of an image, and what stands in it then.
pub record StoredIn (s : List ℕ) (d : Node) (stored : Bool) (s' : List ℕ) : Type 0 where
  pub fits : stored ≡ image_fits s
  pub left : s' ≡ image_after d s
