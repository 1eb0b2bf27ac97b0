-- `has_length` meets its contract: the kind picks the length.
use mathlib.Core.Path.{sym, ◌∙◌}
use mathlib.Core.Logic.{◌≢◌}
use Prim.Native.Nat.{◌+◌, ◌*◌}
use native.Mathlib.Omega.{arith}
use lib.ListN.{get_or}
use borrow.Author.Tests.{ne_eqb, lt-leb}
use Rattle.message.specs.Layout.{count_place, entries_place, entry_size}
use Rattle.message.proofs.ReadLaws.{selection_size, of_validation, of_decision}
use Rattle.message.proofs.has_length.Goals as goal

pub returns-then-size-ge-SELECTION_LENGTH : goal.returns-then-size-ge-SELECTION_LENGTH
returns-then-size-ge-SELECTION_LENGTH c =
    simp (selection_size c.requires.of_kind c.in-Selection.is, ← c.u16_at-size.ensures, c.from.ensures)

pub returns-else-size-ge-SELECTION_LENGTH : goal.returns-else-size-ge-SELECTION_LENGTH
returns-else-size-ge-SELECTION_LENGTH c =
    let s = c.args.s.now in
    let size = c.u16_at-size.result in
    let short : size ≢ entries_place + entry_size * get_or s count_place 0 = λ e. omega (arith, e) in
    simp (selection_size c.requires.of_kind c.in-Selection.is, ← c.u16_at-size.ensures)
    (lt-leb _ _ c.if-size-ge-SELECTION_LENGTH.false ∙ sym (ne_eqb _ _ short))

pub returns-in-Validation : goal.returns-in-Validation
returns-in-Validation c = simp (of_validation c.requires.of_kind c.in-Validation.is, ← c.u16_at-size.ensures)

pub returns-in-Decision : goal.returns-in-Decision
returns-in-Decision c = simp (of_decision c.requires.of_kind c.in-Decision.is, ← c.u16_at-size.ensures)
