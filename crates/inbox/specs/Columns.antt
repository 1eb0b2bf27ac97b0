-- The columns of an inbox: its ballots by slot, read once from the raw bytes. The rules run over them.
-- A column of presence, one of votes and one of stamps; and the histories as one flat array with a place for each slot
-- and phase, which the one rule that looks at histories asks for.
-- What the crates below rounds promise each other: no public contract of rounds cites this file.
use Rattle.std.specs.Prelude.{ℕ, zero, suc, ◌*◌, ◌/◌, ◌<◌, min, ◌≡◌, Bool, true, false, cond}
use Rattle.std.specs.Prelude.{◌&&◌, List, [], ◌++◌, leb, length, get_or, set, replicate, take, drop}
use Rattle.std.proofs.Math.Option.{Option, none, some}
use Rattle.wire.specs.Entry.{Entry, entries_from}
use Rattle.crew.specs.declared.Crew.{Crew}
use Rattle.crew.specs.Parts.{most_nodes}
use Rattle.crew.specs.Group.{speaks}
use Rattle.message.specs.Fields.{Body}
use Rattle.message.specs.Laying.{row_after}
use Rattle.message.specs.Layout.{slot_size}
use Rattle.message.specs.declared.Header.{Header}
use Rattle.ballot.specs.Count.{gather}
use Rattle.ballot.specs.Ballot.{Ballot}
use Rattle.inbox.specs.declared.Columns.{Columns}
use Rattle.inbox.specs.Inbox.{slot_at, ballot_of, ballot_in}

abbrev pub columns : List Bool → List ℕ → List ℕ → Columns
columns present votes stamps = record { present = present; votes = votes; stamps = stamps }

-- nothing has been read yet
abbrev pub empty : Columns
empty = columns (replicate most_nodes false) (replicate most_nodes 0) (replicate most_nodes 0)

-- a vote and its stamp put into the places of a slot; and a slot's ballot, where it has one
abbrev pub put_vote : Columns → (q vote stamp : ℕ) → Columns
put_vote before q vote stamp =
    columns (set before.present q true) (set before.votes q vote) (set before.stamps q stamp)

abbrev pub put : Columns → ℕ → Option Ballot → Columns
put before q none = before
put before q (some m) = put_vote before q m.vote m.stamp

-- what the body that reading answers puts forward, where it answers one
abbrev pub ballot_if : Option Body → Option Ballot
ballot_if none = none
ballot_if (some body) = some (ballot_of body)

-- how many slots are read of an inbox of so many bytes: the whole ones, as far as the columns have places
abbrev pub slots_in : ℕ → ℕ
slots_in bytes = min (bytes / slot_size) most_nodes

-- the first n slots put into columns
unfoldable pub filled : Columns → (ℕ → Option Ballot) → ℕ → Columns
filled before slots zero = before
filled before slots (suc n) = put (filled before slots n) n (slots n)

-- how many places a row of the histories has: one for each phase before the coming one; none where the array has no
-- room for n rows, as where nobody looks at histories
abbrev pub row_width : (phase n places : ℕ) → ℕ
row_width phase n places = cond (leb (phase * n) places) phase 0

-- the row of slot q: the rows stand one after the other, slot by slot
abbrev pub row_at : List ℕ → (width q : ℕ) → List ℕ
row_at histories width q = take width (drop (width * q) histories)

-- the rows of the first n slots, after each slot was read into its own
unfoldable pub rows_after : Header → (bytes before : List ℕ) → (width n : ℕ) → List ℕ
rows_after coming bytes before width zero = []
rows_after coming bytes before width (suc n) =
    rows_after coming bytes before width n ++ row_after coming (slot_at bytes n) (row_at before width n)

-- the array then: these rows, and the places after them as they were
abbrev pub histories_after : Header → (bytes before : List ℕ) → (width n : ℕ) → List ℕ
histories_after coming bytes before width n = rows_after coming bytes before width n ++ drop (width * n) before

-- The columns and the array after the walk over an inbox, by what they were before it: each whole slot that has
-- a place is in them, read as a message of the coming round.
pub record ReadInto (coming : Header) (bytes : List ℕ) (before : Columns) (lent : List ℕ) (after : Columns)
    (histories : List ℕ) : Type 0 where
  pub said : after
      ≡ filled before (ballot_in coming.run coming.phase coming.kind bytes) (slots_in (length bytes))
  pub listed : histories
      ≡ histories_after coming bytes lent (row_width coming.phase (slots_in (length bytes)) (length lent))
      (slots_in (length bytes))

-- of the slots that are present, those are kept whose nodes speak in the coming round
abbrev pub Spoken : Crew → Header → List Bool → List Bool → Type 0
Spoken crew coming present kept =
    (q : ℕ) → q < most_nodes → get_or kept q false ≡ (get_or present q false && speaks crew coming.phase coming.kind q)

-- what a slot lists, where it counts
abbrev pub entries_of : Option Ballot → List Entry
entries_of none = []
entries_of (some m) = m.entries

-- what slot q lists by its row
abbrev pub listed_in : List ℕ → (width q : ℕ) → List Entry
listed_in histories width q = entries_from (row_at histories width q) 0 width

-- what the columns have in the places of slot q, with what the slot lists
abbrev pub ballot_from : Columns → (ℕ → List Entry) → ℕ → Ballot
ballot_from read histories q = record {
  vote = get_or read.votes q 0;
  stamp = get_or read.stamps q 0;
  entries = histories q;
}

-- what the columns say of slot q
abbrev pub slot_of : Columns → (ℕ → List Entry) → ℕ → Option Ballot
slot_of read histories q = cond (get_or read.present q false) (some (ballot_from read histories q)) none

-- the ballots of the first n slots, as the columns have them
abbrev pub polled : Columns → (ℕ → List Entry) → ℕ → List Ballot
polled read histories n = gather (slot_of read histories) n
