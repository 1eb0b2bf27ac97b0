-- An inbox as columns: the slots that are present in the columns that it was read into, and whose nodes speak in the
-- round, are those that count, and their ballots are the ballots that count.
use mathlib.Core.Path.{◌≡◌, refl, ap, ◌∙◌}
use mathlib.Core.Bool.{Bool, true, false, cond, ◌&&◌}
use mathlib.Core.List.{List}
use mathlib.Core.Option.{Option, none, some}
use Prim.Native.Nat.{ℕ, suc, ◌*◌, ◌/◌, ◌≤◌, ◌<◌}
use native.Mathlib.Nat.{mul-le-mul_left}
use native.Mathlib.Omega.{arith}
use lib.ListN.{length, get_or, replicate, drop, length-replicate}
use lib.Seq.{get_or-take, get_or-drop}
use borrow.Author.Tests.{le-leb}
use Rattle.wire.specs.Entry.{Entry}
use Rattle.wire.proofs.Arrays.{same_everywhere}
use Rattle.crew.specs.declared.Crew.{Crew}
use Rattle.crew.specs.Parts.{most_nodes}
use Rattle.crew.specs.Group.{speaks}
use Rattle.message.specs.Layout.{slot_size}
use Rattle.message.specs.declared.Header.{Header}
use Rattle.ballot.specs.Count.{holds}
use Rattle.ballot.specs.Ballot.{Ballot}
use Rattle.inbox.specs.Inbox.{slot_at, ballot_in, heard_in, counts_in, ballots_for}
use Rattle.inbox.specs.declared.Columns.{Columns}
use Rattle.inbox.specs.Columns.{
  columns,
  empty,
  slots_in,
  filled,
  row_at,
  histories_after,
  ReadInto,
  Spoken,
  entries_of,
  listed_in,
  ballot_from,
  slot_of,
  polled,
}
use Rattle.inbox.proofs.Histories.{row_long, own_history}
use Rattle.inbox.proofs.Selections.{row_lists}
use Rattle.inbox.proofs.Meaning.{AreHistories, filled_mean, gather_same}

-- an inbox of n slots has n slots to read
slots_in_lem : (bytes n : ℕ) → n ≤ most_nodes → bytes ≡ slot_size * n → slots_in bytes ≡ n
slots_in_lem bytes n room long =
    let whole : bytes / slot_size ≡ n = omega arith in
    rw whole (omega arith)

-- a row of zeros has 0 in each of its places
row_clear : (places width q place : ℕ) → place < width → get_or (row_at (replicate places 0) width q) place 0 ≡ 0
row_clear places width q place less =
    get_or-take width (drop (width * q) (replicate places 0)) place 0 less
    ∙ get_or-drop (width * q) (replicate places 0) place 0
    ∙ same_everywhere places _ 0

-- a slot of the columns says something where it is present
present_told : (here : Bool) (m : Ballot) → here ≡ holds (λ k. true) (cond here (some m) none)
present_told true m = refl
present_told false m = refl

-- one that is present and whose node speaks says what it says, any other nothing
spoken_told : (here speaks : Bool) (m : Ballot)
    → cond (here && speaks) (some m) none ≡ cond speaks (cond here (some m) none) none
spoken_told true true m = refl
spoken_told true false m = refl
spoken_told false true m = refl
spoken_told false false m = refl

-- Columns that a crew's inbox was read into, with an array that had so many places, all 0; then only those who speak
-- were kept.
module _ (crew : Crew) (coming : Header) (bytes : List ℕ) (places : ℕ) (read : Columns) (histories : List ℕ)
    (kept : List Bool) (room : crew.n ≤ most_nodes) (long : length bytes ≡ slot_size * crew.n)
    (is : ReadInto coming bytes empty (replicate places 0) read histories)
    (keeps : Spoken crew coming read.present kept) where
  abbrev slots : ℕ → Option Ballot
  slots q = ballot_in coming.run coming.phase coming.kind bytes q

  abbrev heard : ℕ → Option Ballot
  heard q = heard_in crew coming.run coming.phase coming.kind bytes q

  abbrev spoken : Columns
  spoken = columns kept read.votes read.stamps

  abbrev Presence : Type 0
  Presence = (q : ℕ) → q < crew.n
      → get_or kept q false ≡ counts_in crew coming.run coming.phase coming.kind bytes q

  abbrev Polls : (ℕ → List Entry) → Type 0
  Polls lists =
      polled spoken lists crew.n ≡ ballots_for crew coming.run coming.phase coming.kind bytes

  -- what they say of each slot is its ballot, where a slot that counts is taken with the history that it lists
  says_slot : (lists : ℕ → List Entry) → AreHistories lists slots crew.n → (q : ℕ) → q < crew.n
      → slot_of read lists q ≡ slots q
  says_slot lists are q less =
      let whole : read ≡ filled empty slots crew.n =
      is.said ∙ ap (filled empty slots) (slots_in_lem (length bytes) crew.n room long) in
      rw whole (filled_mean slots lists crew.n room are q less)

  says_heard : (lists : ℕ → List Entry) → AreHistories lists slots crew.n → (q : ℕ) → q < crew.n
      → slot_of spoken lists q ≡ heard q
  says_heard lists are q less =
      let speaking = speaks crew coming.phase coming.kind q in
      rw (keeps q (omega arith)) (spoken_told (get_or read.present q false) speaking (ballot_from read lists q))
      ∙ ap (λ slot. cond speaking slot none) (says_slot lists are q less)

  -- so a slot is kept where it counts; the histories are then the slots' own
  abbrev own : ℕ → List Entry
  own q = entries_of (slots q)

  are_own : AreHistories own slots crew.n
  are_own q m less e = ap entries_of e

  present_counts : Presence
  present_counts q less =
      present_told (get_or kept q false) (ballot_from spoken own q)
      ∙ ap (holds (λ m. true)) (says_heard own are_own q less)

  -- and their ballots are those that count
  polled_with : (lists : ℕ → List Entry) → AreHistories lists slots crew.n → Polls lists
  polled_with lists are = gather_same (slot_of spoken lists) heard crew.n (says_heard lists are)

  -- with the slots' own histories
  polled_heard : Polls own
  polled_heard = polled_with own are_own

  -- and in selections with those that the array lists, where it has room for the rows
  polled_listed : coming.kind ≡ 1 → coming.phase * crew.n ≤ places → Polls (listed_in histories coming.phase)
  polled_listed first fits =
      let blank : List ℕ = replicate places 0 in
      let size : length blank ≡ places = length-replicate {A = ℕ} places 0 in
      let all = slots_in_lem (length bytes) crew.n room long in
      let array : histories ≡ histories_after coming bytes blank coming.phase crew.n =
      rw (all, size, le-leb _ _ fits) at is.listed in
      polled_with (listed_in histories coming.phase) (λ q m less e.
      let inside : coming.phase * suc q ≤ length blank =
      omega (arith, size, mul-le-mul_left {m = suc q} {n = crew.n} coming.phase less) in
      rw (array, own_history coming bytes blank coming.phase crew.n q less (omega (arith, size)))
      (row_lists coming (slot_at bytes q) (row_at blank coming.phase q) m first e
      (omega (arith, row_long blank coming.phase q inside))
      (row_clear places coming.phase q)))

  -- what the columns mean: which slots count; the ballots that do, in any round with what each slot that counts lists;
  -- and in a selection with what the array lists, where it has a place for each slot and each phase before the coming
  -- one
  pub record Mean : Type 0 where
    pub present : Presence
    pub polls : Polls own
    pub listed : coming.kind ≡ 1 → coming.phase * crew.n ≤ places → Polls (listed_in histories coming.phase)

  -- The columns mean the slots: read into empty columns and an array of zeros, any inbox of the crew's length gives the
  -- ballots that count for a record with this run, phase and coming round.
  pub columns_mean : Mean
  columns_mean = record { present = present_counts; polls = polled_heard; listed = polled_listed }
