-- What the private functions ask of a slice, and what they tell of a kind, of a message and of the row.
-- Promises of private functions: no public contract cites this file.
use Rattle.std.specs.Prelude.{ℕ, ◌+◌, ◌*◌, ◌≤◌, Bool, false, cond, ◌&&◌, ◌≡◌, leb, ltb, eqb}
use Rattle.std.specs.Prelude.{List, length, get_or, set, Option, Some, None, is_some, Result, Ok, Err}
use Rattle.wire.specs.Entry.{Entry}
use Rattle.wire.specs.Bytes.{number_at}
use Rattle.wire.specs.Sizes.{run_size}
use Rattle.wire.specs.Plan.{plan_ok}
use Rattle.message.specs.Layout.{run_place, phase_place, header_size, entries_place, entry_size}
use Rattle.message.specs.Bounds.{entries_ok, within}
use Rattle.message.specs.Encoding.{size_of}
use Rattle.message.specs.Reading.{length_at, kind_at, message_with, body_at, framed, is_kind}
use Rattle.message.specs.Reading.{front_of, read_of, read_answer}
use Rattle.message.specs.Laying.{row_with, kept_of, entries_at}
use Rattle.message.specs.declared.Header.{Header}
use Rattle.message.specs.declared.Message.{Message as ReadMessage}
use Rattle.message.specs.declared.ReadRefusal.{ReadRefusal}
use Rattle.message.specs.declared.ReadRefusal.TheVariants.{Kind as OtherKind}
use Rattle.message.specs.declared.Kind.{Kind}
use Rattle.message.specs.declared.Kind.TheVariants.{Selection, Validation, Decision}

-- the number that stands for a kind
abbrev pub number_of : Kind → ℕ
number_of Selection = 1
number_of Validation = 2
number_of Decision = 3

-- the kind of a number, or that it is none of the three
abbrev pub KnownKind : ℕ → Result Kind ReadRefusal → Type 0
KnownKind number (Ok kind) = number ≡ number_of kind
KnownKind number (Err why) = (why ≡ OtherKind) × (is_kind number ≡ false)

-- the number that stands in the slice where its kind does is this kind's
pub record OfKind (s : List ℕ) (kind : Kind) : Type 0 where
  pub same : number_of kind ≡ kind_at s

-- the slice holds a header and as many bytes as its length says, and is of this kind
pub record Framed (s : List ℕ) (kind : Kind) : Type 0 where
  pub header : header_size ≤ length s
  pub whole : length_at s ≤ length s
  pub of_kind : OfKind s kind

-- the slice holds a message of its kind in full, and is of this kind
pub record HeldInFull (s : List ℕ) (kind : Kind) : Type 0 where
  pub whole : size_of (body_at s) ≤ length s
  pub of_kind : OfKind s kind

-- the header that stands at the front of the slice, beside its length
abbrev pub header_at : List ℕ → Header
header_at s = record { kind = kind_at s; run = number_at run_size s run_place; phase = get_or s phase_place 0 }

-- the bounds that an entry keeps by itself, where the least phase is known that it may have
abbrev pub keeps : ℕ → Entry → Bool
keeps least e = leb least e.phase && plan_ok e.plan

-- the same, where the next one's phase is known
abbrev pub keeps_before : ℕ → Entry → Bool
keeps_before before e = ltb e.phase before && plan_ok e.plan

-- told is the phase of an entry that keeps its bounds behind one of this phase
pub record BehindEntry (e : Entry) (last : ℕ) (r : Option ℕ) : Type 0 where
  pub answer : r ≡ cond (keeps (last + 1) e) (Some e.phase) None

-- the slice has room for so many entries, and the row a place for each phase before this one
pub record RowFor (s : List ℕ) (count phase : ℕ) (row : List ℕ) : Type 0 where
  pub room : entries_place + entry_size * count ≤ length s
  pub places : phase ≤ length row

-- an entry that keeps its bounds is laid into the row, and its phase told
pub record LaidEntry (e : Entry) (before : ℕ) (row : List ℕ) (r : Option ℕ) (after : List ℕ) : Type 0 where
  pub answer : r ≡ cond (keeps_before before e) (Some e.phase) None
  pub lays : after ≡ cond (keeps_before before e) (set row e.phase e.plan) row

-- entries are laid from the last one back as long as they keep their bounds; told is whether all do
pub record LaidEntries (es : List Entry) (phase : ℕ) (row : List ℕ) (r : Option ℕ) (after : List ℕ) : Type 0 where
  pub answer : is_some r ≡ entries_ok 0 phase es
  pub lays : after ≡ row_with row (kept_of phase es)

-- a row with a selection's entries, where it has a place for each phase before the message's; else as it was
abbrev pub row_of_entries : List ℕ → List ℕ → List ℕ
row_of_entries s row =
    cond (leb (get_or s phase_place 0) (length row))
    (row_with row (kept_of (get_or s phase_place 0) (entries_at s)))
    row

-- so a selection's entries are laid; told is whether all keep their bounds
pub record LaidInRow (s row : List ℕ) (r : Bool) (after : List ℕ) : Type 0 where
  pub answer : r ≡ entries_ok 0 (get_or s phase_place 0) (entries_at s)
  pub lays : after ≡ row_of_entries s row

-- the same of any message: told is whether its fields keep their bounds, and only a selection's entries are laid
pub record LaidBody (s row : List ℕ) (r : Bool) (after : List ℕ) : Type 0 where
  pub answer : r ≡ within (message_with s (body_at s))
  pub lays : after ≡ cond (eqb (kind_at s) 1) (row_of_entries s row) row

-- the row after a slice was read: a selection's entries are laid where it is as long as they make it, be it then read
-- or refused
abbrev pub row_read : List ℕ → List ℕ → List ℕ
row_read s row =
    cond (framed s && eqb (length_at s) (size_of (body_at s)) && eqb (kind_at s) 1) (row_of_entries s row) row

-- what reading the front of a slice gives, whatever follows it, and the row after it
pub record LaidFront (s row : List ℕ) (r : Result ReadMessage ReadRefusal) (after : List ℕ) : Type 0 where
  pub answer : read_answer r s ≡ front_of s
  pub lays : after ≡ row_read s row

-- what reading a slice gives, and the row after it
pub record LaidMessage (s row : List ℕ) (r : Result ReadMessage ReadRefusal) (after : List ℕ) : Type 0 where
  pub answer : read_answer r s ≡ read_of s
  pub lays : after ≡ row_read s row
