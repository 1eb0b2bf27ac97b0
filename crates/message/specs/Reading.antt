-- What reading a slice answers: document 01, 'Messages', and refusals 10 to 13; document 02, C-12, and refusal 16.
use Rattle.std.specs.Prelude.{ℕ, zero, suc, ◌+◌, ◌*◌, ◌/◌, Bool, true, cond, ◌&&◌, leb, ltb, eqb}
use Rattle.std.specs.Prelude.{List, [], ◌∷◌, length, get_or, take, drop, Result, Ok, Err}
use Rattle.wire.specs.Outcome.{Outcome, accepted, refused, require}
use Rattle.wire.specs.Entry.{Entry}
use Rattle.wire.specs.Bytes.{number_at}
use Rattle.wire.specs.Sizes.{plan_size, run_size}
use Rattle.message.specs.Layout.{length_place, kind_place, run_place, phase_place, header_size}
use Rattle.message.specs.Layout.{plan_place, stamp_place, count_place, entries_place, entry_size}
use Rattle.message.specs.Fields.{Body, selection, validation, decision, Message}
use Rattle.message.specs.Bounds.{within}
use Rattle.message.specs.Encoding.{size_of}
use Rattle.message.specs.declared.Entry.{Entry as ShownEntry}
use Rattle.message.specs.declared.ReadRefusal.{ReadRefusal}
use Rattle.message.specs.declared.ReadRefusal.TheVariants.{Cut, Kind, Length, Bound, Residue}
use Rattle.message.specs.declared.Body.{Body as ReadBody}
use Rattle.message.specs.declared.Body.TheVariants.{Selection, Validation, Decision}
use Rattle.message.specs.declared.Message.{Message as ReadMessage}

-- the header's fields, where the layout has them
abbrev pub length_at : List ℕ → ℕ
length_at s = number_at 2 s length_place

abbrev pub kind_at : List ℕ → ℕ
kind_at s = number_at 2 s kind_place

abbrev pub message_with : List ℕ → Body → Message
message_with s body = record { run = number_at run_size s run_place; phase = get_or s phase_place 0; body = body }

-- the k entries at the front of a list of bytes
unfoldable pub entries_in : ℕ → List ℕ → List Entry
entries_in zero s = []
entries_in (suc k) s =
    record { phase = get_or s 0 0; plan = number_at plan_size s 1 } ∷ entries_in k (drop entry_size s)

-- entry i of those that a selection lists, where it stands
abbrev pub entry_in_slice : List ℕ → ℕ → Entry
entry_in_slice s i = record {
  phase = get_or s (entries_place + entry_size * i) 0;
  plan = number_at plan_size s (entries_place + entry_size * i + 1);
}

-- the body that stands after the header, by the kind
abbrev pub selection_at : List ℕ → Body
selection_at s =
    selection (number_at plan_size s plan_place) (get_or s stamp_place 0)
    (entries_in (get_or s count_place 0) (drop entries_place s))

abbrev pub validation_at : List ℕ → Body
validation_at s = validation (number_at plan_size s plan_place)

abbrev pub decision_at : List ℕ → Body
decision_at s = decision (number_at plan_size s plan_place) (get_or s stamp_place 0)

unfoldable pub body_at : List ℕ → Body
body_at s = cond (eqb (kind_at s) 1) (selection_at s) (cond (eqb (kind_at s) 2) (validation_at s) (decision_at s))

-- 01: "10 slice under 9 bytes, length under 9, or length beyond the slice"
abbrev pub framed : List ℕ → Bool
framed s = leb header_size (length s) && leb header_size (length_at s) && leb (length_at s) (length s)

-- 01: "11 kind not 1 to 3"
abbrev pub is_kind : ℕ → Bool
is_kind kind = leb 1 kind && leb kind 3

abbrev pub kind_known : List ℕ → Bool
kind_known s = is_kind (kind_at s)

-- 01: "12 length not that of the kind (kind 1: under 13, or not 13 + 3k for the k that stands there, k above 63
-- included); 13 a bound broken, or k above 63." No length under 13 is 13 + 3k, so one test says both halves of 12.
unfoldable pub tested : List ℕ → Body → Outcome Message
tested s body =
    require (eqb (length_at s) (size_of body)) 12
    (require (within (message_with s body)) 13
    (accepted (message_with s body)))

-- 01: "Reading: 10 ..; 11 ..; 12 ..; 13 ..", of the front of a slice, whatever follows the message
unfoldable pub front_of : List ℕ → Outcome Message
front_of s =
    require (framed s) 10
    (require (kind_known s) 11
    (tested s (body_at s)))

-- the bytes of a slice after the length of its message
abbrev pub rest_of : List ℕ → List ℕ
rest_of s = drop (length_at s) s

-- 02: "Bytes of the slice after a message must now be zero."
unfoldable pub all_zero : List ℕ → Bool
all_zero [] = true
all_zero (byte ∷ bytes) = eqb byte 0 && all_zero bytes

-- 02: "It refuses with 16 a read with a non-zero byte after the length, tested after 13."
abbrev pub cleared : List ℕ → Outcome Message → Outcome Message
cleared s (accepted m) = require (all_zero (rest_of s)) 16 (accepted m)
cleared s (refused number) = refused number

-- reading: the front first, then what follows it
unfoldable pub read_of : List ℕ → Outcome Message
read_of s = cleared s (front_of s)

-- the bytes of so many entries, where the slice holds them
abbrev pub entries_counted : List ℕ → ℕ → List ℕ
entries_counted s count =
    cond (leb (entries_place + entry_size * count) (length s)) (take (entry_size * count) (drop entries_place s)) []

-- 01: "the entries as a part of the caller's slice: an empty part for kinds 2 and 3 and where reading refuses"
abbrev pub entries_part : List ℕ → Body → List ℕ
entries_part s (selection vote stamp entries) = take (entry_size * length entries) (drop entries_place s)
entries_part s (validation plan) = []
entries_part s (decision vote stamp) = []

abbrev pub entries_part_of : List ℕ → Outcome Message → List ℕ
entries_part_of s (accepted m) = entries_part s m.body
entries_part_of s (refused number) = []

-- entry i of such a part, where it has one
abbrev pub entry_at : List ℕ → ℕ → Entry
entry_at part i =
    cond (ltb i (length part / entry_size))
    (record { phase = get_or part (entry_size * i) 0; plan = number_at plan_size part (entry_size * i + 1) })
    (record { phase = 0; plan = 0 })

abbrev pub entry_as : ShownEntry → Entry
entry_as e = record { phase = e.phase; plan = e.plan }

-- the papers' number of each refusal
abbrev pub read_number : ReadRefusal → ℕ
read_number Cut = 10
read_number Kind = 11
read_number Length = 12
read_number Bound = 13
read_number Residue = 16

-- how many entries a declared body counts
abbrev pub count_in : ReadBody → ℕ
count_in (Selection vote stamp count) = count
count_in (Validation plan) = 0
count_in (Decision vote stamp) = 0

-- what a declared body says, in 01's terms; the entries themselves stand in the slice
abbrev pub body_as : ReadBody → List ℕ → Body
body_as (Selection vote stamp count) s = selection vote stamp (entries_in count (drop entries_place s))
body_as (Validation plan) s = validation plan
body_as (Decision vote stamp) s = decision vote stamp

-- what an answer of `read` says of the slice
abbrev pub read_answer : Result ReadMessage ReadRefusal → List ℕ → Outcome Message
read_answer (Ok m) s = accepted (record { run = m.run; phase = m.phase; body = body_as m.body s })
read_answer (Err why) s = refused (read_number why)
