-- What the functions for C and Rust answer, and what they leave in what they are lent: the engine's own definitions on
-- the record whose image is lent. A split is crate current's own definition, on the numbers that are lent.
use Rattle.std.specs.Prelude.{ℕ, ◌+◌, ◌*◌, ◌/◌, ◌^◌, ◌<◌, ◌≡◌, List, [], ◌∷◌, ◌++◌, length, ltb, eqb}
use Rattle.wire.specs.Sizes.{plan_size, run_size}
use Rattle.wire.specs.Outcome.{Outcome, accepted, refused, require, after, verdict}
use Rattle.wire.specs.Entry.{Entry}
use Rattle.wire.specs.Bytes.{bytes_of, buffer_after}
use Rattle.crew.specs.declared.Crew.{Crew}
use Rattle.least_crews.specs.declared.Least.{Least}
use Rattle.message.specs.Layout.{entry_size}
use Rattle.message.specs.Fields.{Body, selection, validation, decision, Message}
use Rattle.message.specs.Reading.{read_of, entries_part_of, entry_at}
use Rattle.ballot.specs.Selection.{Choice, plan, any, nothing}
use Rattle.node.specs.declared.Node.{Node}
use Rattle.node.specs.Soundness.{sound}
use Rattle.node.specs.Starting.{start_of}
use Rattle.node.specs.Sending.{write_coming_of, coming_bytes}
use Rattle.rounds.specs.Taking.{take_of}
use Rattle.rounds.specs.Asking.{ask_of}
use Rattle.rounds.specs.Marking.{marking_of}
use Rattle.image.specs.Layout.{image_fits, image_of, record_in}

-- An answer is one number of eight bytes: a value below 2^56, or 2^56 times the number of a refusal, its top byte.
abbrev pub refusal_unit : ℕ
refusal_unit = 256 ^ 7

-- A plan has room for four bytes in a value, though it takes fewer: with wider plans no answer is laid out anew.
abbrev pub plan_room : ℕ
plan_room = 256 ^ 4

abbrev pub answer_of : {A : Type 0} → (A → ℕ) → Outcome A → ℕ
answer_of value (accepted a) = value a
answer_of value (refused number) = refusal_unit * number

-- A caller tells a value from a refusal by the answer alone: a value has seven bytes, a refusal's number one, which is
-- not 0.
abbrev pub Apart : {A : Type 0} → (A → ℕ) → Outcome A → Type 0
Apart value (accepted a) = value a < refusal_unit
Apart value (refused number) = (0 < number) × (number < 256)

-- What a function answers, by the outcome of the engine's operation.
pub record Answered {A : Type 0} (value : A → ℕ) (outcome : Outcome A) (answer : ℕ) : Type 0 where
  pub number : answer ≡ answer_of value outcome
  pub apart : Apart value outcome

-- The same of a function that is lent bytes to write: what it leaves in them goes by the outcome too.
pub record Leaves {A : Type 0} (value : A → ℕ) (outcome : Outcome A) (lent : Outcome A → List ℕ) (answer : ℕ)
    (bytes : List ℕ) : Type 0 where
  pub told : Answered value outcome answer
  pub left : bytes ≡ lent outcome

-- the value of what has none to give
abbrev pub done : {A : Type 0} → A → ℕ
done a = 0

-- the value of what is a number already
abbrev pub itself : ℕ → ℕ
itself value = value

-- the value of a least crew: its n stands above its D, which has a byte
abbrev pub least_number : Least → ℕ
least_number least = 256 * least.n + least.d

-- the value of a selection: a plan's own number; 0, which no plan has, for 'none'; for 'any' one past what a plan has
-- room for
abbrev pub choice_number : Choice → ℕ
choice_number (plan v) = v
choice_number any = plan_room
choice_number nothing = 0

-- the value of an entry of a history: its phase stands above its plan
abbrev pub entry_number : Entry → ℕ
entry_number e = plan_room * e.phase + e.plan

-- An operation on a lent image: 25 where it is not as long as an image, which is tested first, else the engine's own.
abbrev pub on_image : {A : Type 0} → List ℕ → Outcome A → Outcome A
on_image image outcome = require (image_fits image) 25 outcome

-- the image that is left: that of the record which the operation gives, or the bytes as they were where it is refused
abbrev pub record_after : List ℕ → Outcome Node → List ℕ
record_after image (accepted d) = image_of d
record_after image (refused number) = image

abbrev pub start_into : List ℕ → Crew → ℕ → ℕ → ℕ → Outcome Node
start_into image crew own run first = on_image image (start_of crew own run first)

abbrev pub write_from : List ℕ → List ℕ → Outcome ℕ
write_from image buffer = on_image image (write_coming_of (record_in image) buffer)

-- the whole buffer after writing, by what writing comes to
abbrev pub buffer_from : List ℕ → List ℕ → Outcome ℕ → List ℕ
buffer_from image buffer = buffer_after (coming_bytes (record_in image)) buffer

abbrev pub take_from : List ℕ → List ℕ → Outcome Node
take_from image inbox = on_image image (take_of (record_in image) inbox)

abbrev pub ask_from : List ℕ → List ℕ → Outcome Choice
ask_from image inbox = on_image image (ask_of (record_in image) inbox)

-- the marks of the slots that count in the coming round
abbrev pub marks_from : List ℕ → List ℕ → Outcome ℕ
marks_from image inbox = on_image image (marking_of (record_in image) inbox)

-- the standing result of a sound record; 7 where it is not sound
abbrev pub result_from : List ℕ → Outcome ℕ
result_from image = on_image image (require (sound (record_in image)) 7 (accepted (record_in image).result))

-- A message's fields: kind (1), run (4), phase (1), plan or vote (2), stamp (1), how many entries (1). Where the kind
-- and the phase stand, and how many bytes they all take.
abbrev pub kind_field : ℕ
kind_field = 0

abbrev pub phase_field : ℕ
phase_field = kind_field + 1 + run_size

abbrev pub fields_size : ℕ
fields_size = phase_field + 1 + plan_size + 1 + 1

abbrev pub field_bytes : ℕ → ℕ → ℕ → ℕ → ℕ → ℕ → List ℕ
field_bytes kind run phase vote stamp count =
    kind ∷ (bytes_of run_size run ++ (phase ∷ (bytes_of plan_size vote ++ (stamp ∷ count ∷ []))))

-- a kind without stamp or entries has 0 there
abbrev pub fields_of : ℕ → ℕ → Body → List ℕ
fields_of run phase (selection vote stamp entries) = field_bytes 1 run phase vote stamp (length entries)
fields_of run phase (validation v) = field_bytes 2 run phase v 0 0
fields_of run phase (decision vote stamp) = field_bytes 3 run phase vote stamp 0

-- 26 where the lent slice is not as long as the fields, which is tested first
abbrev pub read_into : List ℕ → List ℕ → Outcome Message
read_into bytes fields = require (eqb (length fields) fields_size) 26 (read_of bytes)

abbrev pub fields_after : List ℕ → Outcome Message → List ℕ
fields_after fields (accepted m) = fields_of m.run m.phase m.body
fields_after fields (refused number) = fields

-- entry i of the part that shows a message's entries; 27 where there is none
abbrev pub entry_in : List ℕ → ℕ → Outcome Entry
entry_in part i = require (ltb i (length part / entry_size)) 27 (accepted (entry_at part i))

abbrev pub entry_from : List ℕ → ℕ → Outcome Entry
entry_from bytes i = after (verdict (read_of bytes)) (entry_in (entries_part_of bytes (read_of bytes)) i)
