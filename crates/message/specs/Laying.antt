-- A message that is expected: what reading a slice answers where the kind, run and phase of its header are known
-- beforehand, and the entries of a selection laid into a row, which has a place for each phase.
use Rattle.std.specs.Prelude.{ℕ, Bool, cond, ◌&&◌, List, [], ◌∷◌, ◌≡◌, length, get_or, set, drop, leb, eqb}
use Rattle.std.specs.Prelude.{Option as Answer, Some, None}
use Rattle.std.proofs.Math.Option.{Option, none, some}
use Rattle.wire.specs.Outcome.{Outcome, accepted, refused}
use Rattle.wire.specs.Entry.{Entry}
use Rattle.wire.specs.Bytes.{number_at}
use Rattle.wire.specs.Sizes.{run_size}
use Rattle.message.specs.Layout.{run_place, phase_place, count_place, entries_place}
use Rattle.message.specs.Fields.{Body, Message}
use Rattle.message.specs.Bounds.{entries_ok}
use Rattle.message.specs.Encoding.{kind_of, size_of}
use Rattle.message.specs.Reading.{length_at, kind_at, body_at, framed, entries_in, body_as, read_of}
use Rattle.message.specs.declared.Header.{Header}
use Rattle.message.specs.declared.Body.{Body as ReadBody}

-- the message has this header's run, kind and phase
abbrev pub bears : Header → Message → Bool
bears header m =
    eqb m.run header.run && eqb (kind_of m.body) header.kind && eqb m.phase header.phase

-- what an expected message says; nothing where reading refuses, or answers a message with another header
abbrev pub expected_in : Header → Outcome Message → Option Body
expected_in header (accepted m) = cond (bears header m) (some m.body) none
expected_in header (refused number) = none

-- what an answer of `read_expected` says of the slice
abbrev pub expected_as : Answer ReadBody → List ℕ → Option Body
expected_as (Some body) s = some (body_as body s)
expected_as None s = none

-- a row with these entries in it, each at its phase
unfoldable pub row_with : List ℕ → List Entry → List ℕ
row_with row [] = row
row_with row (e ∷ es) = set (row_with row es) e.phase e.plan

-- the last of these entries, as many as keep their bounds below a phase
unfoldable pub kept_of : ℕ → List Entry → List Entry
kept_of phase [] = []
kept_of phase (e ∷ es) = cond (entries_ok e.phase phase (e ∷ es)) (e ∷ es) (kept_of phase es)

-- the entries that stand in a selection
abbrev pub entries_at : List ℕ → List Entry
entries_at s = entries_in (get_or s count_place 0) (drop entries_place s)

-- a framed header with this kind, run and phase stands at the front of the slice, whatever follows it
abbrev pub headed : Header → List ℕ → Bool
headed header s =
    framed s
    && (eqb (kind_at s) header.kind
    && eqb (number_at run_size s run_place) header.run
    && eqb (get_or s phase_place 0) header.phase)

-- the slice has this header, and is a selection as long as its entries make it
abbrev pub is_selection : Header → List ℕ → Bool
is_selection header s = headed header s && eqb (length_at s) (size_of (body_at s)) && eqb header.kind 1

-- The row after a slice was read: where the slice has the header and the length of an expected selection, be it then
-- read or refused, its entries are laid from the last one back, as long as they keep their bounds, if the row has a
-- place for every phase before the message's. Else it is as it was.
unfoldable pub row_after : Header → List ℕ → List ℕ → List ℕ
row_after header s row =
    cond (is_selection header s && leb header.phase (length row))
    (row_with row (kept_of header.phase (entries_at s)))
    row

-- What reading an expected message gives: what it says, and the row after it.
pub record ExpectedFrom (header : Header) (s row : List ℕ) (r : Answer ReadBody) (after : List ℕ) : Type 0 where
  pub answer : expected_as r s ≡ expected_in header (read_of s)
  pub lays : after ≡ row_after header s row
