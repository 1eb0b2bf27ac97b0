-- What is known of a slot that counts as a selection: its ballot lists the entries that stand in it, their phases rise,
-- and all of them are laid into its row, from which they are listed again.
use mathlib.Core.Path.{◌≡◌, refl, sym, ap, ◌∙◌}
use mathlib.Core.Bool.{Bool, true, false, cond, ◌&&◌}
use mathlib.Core.List.{List}
use mathlib.Core.Option.{some}
use Prim.Native.Nat.{ℕ, ◌<◌, ◌≤◌}
use native.Mathlib.Omega.{arith}
use lib.Dec.{leb, ltb, eqb}
use lib.ListN.{length, get_or}
use borrow.Author.Tests.{eqb-true, eq-eqb, le-leb}
use Rattle.wire.specs.Bytes.{number_at}
use Rattle.wire.specs.Entry.{entries_from}
use Rattle.wire.proofs.Tests.{both_true}
use Rattle.wire.specs.Sizes.{plan_size, run_size}
use Rattle.wire.specs.Plan.{phase_ok, plan_ok}
use Rattle.message.specs.Fields.{Message}
use Rattle.message.specs.Bounds.{body_ok, entries_ok, within}
use Rattle.message.specs.Encoding.{kind_of, size_of}
use Rattle.message.specs.Reading.{kind_at, body_at, selection_at, validation_at, decision_at, read_of}
use Rattle.message.specs.Laying.{entries_at, is_selection, row_after}
use Rattle.message.specs.Layout.{run_place, phase_place, plan_place, stamp_place, most_entries}
use Rattle.message.specs.declared.Header.{Header}
use Rattle.message.proofs.ReadLaws.{read_passes, kind_one}
use Rattle.ballot.specs.Ballot.{Ballot}
use Rattle.inbox.specs.Inbox.{ballot_of, is_of, counted}
use Rattle.inbox.proofs.Counted.{counted_message}
use Rattle.message.proofs.LayLaws.{all_kept}
use Rattle.inbox.proofs.Rows.{listed_laid}

record Shown (coming : Header) (slot : List ℕ) (m : Ballot) : Type 0 where
  is : is_selection coming slot ≡ true
  lists : entries_at slot ≡ m.entries
  rises : entries_ok 0 coming.phase m.entries ≡ true

-- a body of kind 1 stands in a slot of kind 1
kind_shown : (slot : List ℕ) → kind_of (body_at slot) ≡ 1 → kind_at slot ≡ 1
unfolding body_at
kind_shown slot e = by_kind (eqb (kind_at slot) 1) (eqb (kind_at slot) 2) refl e
  where
    by_kind : (first second : Bool) → eqb (kind_at slot) 1 ≡ first
        → kind_of (cond first (selection_at slot) (cond second (validation_at slot) (decision_at slot))) ≡ 1
        → kind_at slot ≡ 1
    by_kind true second is e = eqb-true (kind_at slot) 1 is
    by_kind false true is e = absurd (omega arith)
    by_kind false false is e = absurd (omega arith)

selection_shown : (coming : Header) (slot : List ℕ) (m : Ballot) → coming.kind ≡ 1
    → counted coming.run coming.phase coming.kind (read_of slot) ≡ some m → Shown coming slot m
selection_shown coming slot m first e =
    let c = counted_message coming.run coming.phase coming.kind slot m e in
    let passes = read_passes slot c.message c.read in
    let phase : ℕ = get_or slot phase_place 0 in
    let run-test : Bool = eqb (number_at run_size slot run_place) coming.run in
    let kind-test : Bool = eqb (kind_of (body_at slot)) coming.kind in
    let tests = both_true (run-test && kind-test) (eqb phase coming.phase)
    (ap (is_of coming.run coming.phase coming.kind) passes.fields ∙ c.coming) in
    let run-kind = both_true run-test kind-test tests.0 in
    let kind : kind_at slot ≡ 1 = kind_shown slot (eqb-true _ _ run-kind.1 ∙ first) in
    let body : body_at slot ≡ selection_at slot = kind_one slot kind in
    let lists : entries_at slot ≡ m.entries =
    ap (λ b. (ballot_of b).entries) (sym body)
    ∙ ap (λ (k : Message). (ballot_of k.body).entries) passes.fields
    ∙ ap (λ (b : Ballot). b.entries) c.says in
    let scalars = plan_ok (number_at plan_size slot plan_place)
    && ltb (get_or slot stamp_place 0) phase
    && leb (length (entries_at slot)) most_entries in
    let bounds = both_true (phase_ok phase) (body_ok phase (body_at slot))
    (ap within passes.fields ∙ passes.in_bounds) in
    let passing = ap (body_ok phase) (sym body) ∙ bounds.1 in
    let rises = (both_true scalars (entries_ok 0 phase (entries_at slot)) passing).1 in
    let size = passes.long ∙ ap (λ (k : Message). size_of k.body) (sym passes.fields) in
    record {
      is = simp (
        passes.is_framed,
        eq-eqb _ _ first,
        eq-eqb _ _ (kind ∙ sym first),
        run-kind.0,
        tests.1,
        eq-eqb _ _ size,
      );
      lists = lists;
      rises = rw (lists, eqb-true phase coming.phase tests.1) at rises;
    }

-- its row lists what it does
pub row_lists : (coming : Header) (slot row : List ℕ) (m : Ballot) → coming.kind ≡ 1
    → counted coming.run coming.phase coming.kind (read_of slot) ≡ some m
    → coming.phase ≤ length row → ((place : ℕ) → place < coming.phase → get_or row place 0 ≡ 0)
    → entries_from (row_after coming slot row) 0 coming.phase ≡ m.entries
unfolding row_after
row_lists coming slot row m first e long clear =
    let shown = selection_shown coming slot m first e in
    let all = all_kept coming.phase m.entries shown.rises in
    rw (shown.is, le-leb _ _ long, shown.lists, all)
    (listed_laid 0 coming.phase coming.phase row m.entries (omega arith) long shown.rises clear)
