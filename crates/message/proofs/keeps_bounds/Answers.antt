-- `keeps_bounds` meets its contract: the kind picks the tests.
use native.Mathlib.Omega.{arith}
use Rattle.std.proofs.lemmas.Grind.{common_steps}
use Rattle.message.specs.declared.Kind.TheVariants.{Selection, Validation, Decision}
use Rattle.message.proofs.EntryLaws.{entries_count}
use Rattle.message.proofs.ReadLaws.{of_selection, of_validation, of_decision, selection_size, kind_number}
use Rattle.message.proofs.keeps_bounds.Goals as goal

pub keeps_entries-kept-requires : goal.keeps_entries-kept-requires
keeps_entries-kept-requires c = rw (selection_size c.requires.of_kind c.in-Selection.is) at c.requires.whole

pub bounds-s-11 : goal.bounds-s-11
bounds-s-11 c = omega (arith, c.requires.whole, selection_size c.requires.of_kind c.in-Selection.is)

pub bounds-s-12 : goal.bounds-s-12
bounds-s-12 c = omega (arith, c.requires.whole, selection_size c.requires.of_kind c.in-Selection.is)

pub bounds-s-11-then-has_plan-2 : goal.bounds-s-11-then-has_plan-2
bounds-s-11-then-has_plan-2 c = rw (of_decision c.requires.of_kind c.in-Decision.is) at c.requires.whole

pub returns-then-s-le-MOST_ENTRIES : goal.returns-then-s-le-MOST_ENTRIES
returns-then-s-le-MOST_ENTRIES c =
    let body = of_selection c.requires.of_kind c.in-Selection.is in
    let kept = c.keeps_entries-kept.ensures.answer in
    record {
      answer = rw (body, entries_count) (grind (arith, common_steps, kept));
      lays = rw (kind_number c.requires.of_kind Selection c.in-Selection.is) c.keeps_entries-kept.ensures.lays;
    }

pub returns-else-s-le-MOST_ENTRIES : goal.returns-else-s-le-MOST_ENTRIES
returns-else-s-le-MOST_ENTRIES c =
    let body = of_selection c.requires.of_kind c.in-Selection.is in
    record {
      answer = rw (body, entries_count) (grind (arith, common_steps));
      lays = rw (kind_number c.requires.of_kind Selection c.in-Selection.is) c.keeps_entries-kept.ensures.lays;
    }

pub returns-then-has_phase-2 : goal.returns-then-has_phase-2
returns-then-has_phase-2 c =
    let body = of_validation c.requires.of_kind c.in-Validation.is in
    record {
      answer = rw body (grind (arith, common_steps));
      lays = rw (kind_number c.requires.of_kind Validation c.in-Validation.is);
    }

pub returns-then-has_plan-2 : goal.returns-then-has_plan-2
returns-then-has_plan-2 c =
    let body = of_decision c.requires.of_kind c.in-Decision.is in
    record {
      answer = rw body (grind (arith, common_steps));
      lays = rw (kind_number c.requires.of_kind Decision c.in-Decision.is);
    }

pub returns-else-has_plan-2 : goal.returns-else-has_plan-2
returns-else-has_plan-2 c =
    let body = of_decision c.requires.of_kind c.in-Decision.is in
    record {
      answer = rw body (grind (arith, common_steps));
      lays = rw (kind_number c.requires.of_kind Decision c.in-Decision.is);
    }
