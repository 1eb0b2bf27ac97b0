-- What a rule says of the columns of an inbox, with the slots kept whose nodes speak, is what it says of the ballots
-- that the node hears, and the slots that are kept are those that count.
use mathlib.Core.Path.{◌≡◌, refl, sym, ap, ◌∙◌, subst}
use mathlib.Core.Bool.{Bool, true, false}
use mathlib.Core.List.{List, []}
use Prim.Native.Nat.{ℕ, ◌<◌}
use native.Mathlib.Omega.{arith}
use lib.Dec.{eqb}
use lib.ListN.{length, get_or, replicate}
use borrow.Author.Tests.{eqb-true, eqb-false}
use Rattle.wire.specs.Entry.{Entry}
use Rattle.wire.specs.Marks.{marks_of}
use Rattle.wire.proofs.Marks.{marks_same}
use Rattle.crew.specs.Thresholds.{Class, one, two, three, class_of}
use Rattle.ballot.specs.Ballot.{Ballot}
use Rattle.inbox.specs.Inbox.{ballot_in}
use Rattle.inbox.specs.declared.Columns.{Columns}
use Rattle.inbox.specs.Columns.{empty, ReadInto, Spoken, entries_of, listed_in, polled}
use Rattle.inbox.proofs.Inboxes.{Mean, columns_mean}
use Rattle.tally.specs.Rules.{slots_of}
use Rattle.rounds.specs.declared.Round.{Round}
use Rattle.rounds.specs.Steps.{heard_by, marks_with, LooksBack, Listed, OwnInbox, Walkable}
use Rattle.rounds.proofs.Sizes.{number}

-- the columns with the slots kept that count
abbrev pub counting : List Bool → Columns → Columns
counting kept read = record { present = kept; votes = read.votes; stamps = read.stamps }

module _ {round : Round} {bytes blank : List ℕ} (ready : Walkable round bytes blank) (read : Columns)
    (histories : List ℕ) (is : ReadInto round.header bytes empty blank read histories) (kept : List Bool)
    (keeps : Spoken round.crew round.header read.present kept) where
  walked : ReadInto round.header bytes empty (replicate (length blank) 0) read histories
  walked = subst (λ clear. ReadInto round.header bytes empty clear read histories) ready.clear is

  mean : Mean round.crew round.header bytes (length blank) read histories kept ready.own.places
      ready.own.whole walked keeps
  mean = columns_mean round.crew round.header bytes (length blank) read histories kept ready.own.places
      ready.own.whole walked keeps

  -- every node of the crew has a place
  all_slots : slots_of round.crew ≡ round.crew.n
  all_slots = omega (arith, ready.own.places)

  -- what each slot lists that holds a message of the round
  abbrev own : ℕ → List Entry
  own q = entries_of (ballot_in round.header.run round.header.phase round.header.kind bytes q)

  -- an answer of a rule that looks at histories in the selections of class 3 alone
  pub on_heard : {A : Type 0} (rule : List Ballot → A) (x : A)
      → ((h : ℕ → List Entry) → Listed round histories h
      → x ≡ rule (polled (counting kept read) h (slots_of round.crew)))
      → x ≡ rule (heard_by round bytes)
  on_heard rule x with-histories = by_class (class_of round.crew) refl
    where
      other : (LooksBack round → ⊥) → x ≡ rule (heard_by round bytes)
      other unlisted = rw all_slots at (with-histories own (λ back. absurd (unlisted back))) ∙ ap rule mean.polls

      not_three : (class : Class) → class_of round.crew ≡ class → number class < 3 → LooksBack round → ⊥
      not_three class is-class less back =
          let same : number class ≡ 3 = ap number (sym is-class ∙ back.0) in
          omega arith

      by_kind : (first : Bool) → eqb round.header.kind 1 ≡ first → class_of round.crew ≡ three
          → x ≡ rule (heard_by round bytes)
      by_kind true e is-three =
          let first = eqb-true _ _ e in
          rw all_slots at (with-histories (listed_in histories round.header.phase) (λ back. refl))
          ∙ ap rule (mean.listed first (ready.room (is-three, first)))
      by_kind false e is-three = other (λ back. eqb-false _ _ e back.1)

      by_class : (class : Class) → class_of round.crew ≡ class → x ≡ rule (heard_by round bytes)
      by_class one is_one = other (not_three one is_one (omega arith))
      by_class two is-two = other (not_three two is-two (omega arith))
      by_class three is-three = by_kind (eqb round.header.kind 1) refl is-three

-- the marks of the slots that are kept, where there was no room for histories
pub marks_heard : (round : Round) (bytes : List ℕ) (read : Columns) (histories : List ℕ) (kept : List Bool)
    → OwnInbox round.crew bytes → ReadInto round.header bytes empty [] read histories
    → Spoken round.crew round.header read.present kept
    → marks_of (λ q. get_or kept q false) round.crew.n ≡ marks_with round bytes
marks_heard round bytes read histories kept own is keeps =
    let mean =
    columns_mean round.crew round.header bytes 0 read histories kept own.places own.whole is keeps in
    marks_same _ _ round.crew.n mean.present
