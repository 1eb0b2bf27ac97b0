-- `are_entries` meets its contract: a turn of the loop tests two more entries, and of an even number the last is left.
use mathlib.Core.Path.{◌≡◌, sym, ◌∙◌}
use mathlib.Core.Bool.{true, false}
use Prim.Native.Nat.{◌+◌, ◌*◌}
use native.Mathlib.Omega.{arith}
use native.Mathlib.Numerals.{add-one}
use lib.Dec.{leb-zero}
use Rattle.message.specs.Reading.{entry_in_slice}
use Rattle.message.specs.Promises.{keeps}
use Rattle.message.proofs.EntryLaws.{all_left, entry_passes, entry_breaks, one_behind, none_behind, none_left}
use Rattle.message.proofs.are_entries.Goals.{then-count-eq0-2+in-Some-phase_behind-2, else-count-eq0-2}
use Rattle.message.proofs.are_entries.Goals as goal

pub returns-then-count-eq0 : goal.returns-then-count-eq0
returns-then-count-eq0 c =
    let none = all_left c.args.s.now c.args.count c.args.phase in
    sym (leb-zero c.args.phase) ∙ none_left none (omega (arith, c.if-count-eq0.true))

pub returns-then-not-is_plan : goal.returns-then-not-is_plan
returns-then-not-is_plan c =
    let none = all_left c.args.s.now c.args.count c.args.phase in
    let breaks : keeps 0 (entry_in_slice c.args.s.now 0) ≡ false =
    simp (leb-zero, ← c.entry_from-first.ensures.plan, sym c.is_plan.ensures ∙ c.if-not-is_plan.true) in
    entry_breaks none (omega (arith, c.if-count-eq0.false)) breaks

pub loop-pair-init : goal.loop-pair-init
loop-pair-init c =
    let none = all_left c.args.s.now c.args.count c.args.phase in
    let kept : keeps 0 (entry_in_slice c.args.s.now 0) ≡ true =
    simp (leb-zero, ← c.entry_from-first.ensures.plan, sym c.is_plan.ensures ∙ c.if-not-is_plan.false) in
    rw c.entry_from-first.ensures.phase (entry_passes none (omega (arith, c.if-count-eq0.false)) kept)

pub returns-in_default : goal.returns-in_default
returns-in_default c = none_behind c.loop-pair.invariant _ (omega arith) (omega (arith, c.loop-pair-test.true)) c.in_default.ensures

-- between the two of a turn: the first has passed
pub returns-in_default-phase_behind : goal.returns-in_default-phase_behind
returns-in_default-phase_behind c =
    let between = one_behind c.loop-pair.invariant _ (omega arith) (omega (arith, c.loop-pair-test.true)) c.in-Some.ensures in
    none_behind between _ (omega arith) (omega (arith, c.loop-pair-test.true)) c.in_default-phase_behind.ensures

pub loop-pair-preserved : goal.loop-pair-preserved
loop-pair-preserved c =
    let between = one_behind c.loop-pair.invariant _ (omega arith) (omega (arith, c.loop-pair-test.true)) c.in-Some.ensures in
    let behind = one_behind between _ (omega arith) (omega (arith, c.loop-pair-test.true)) c.in-Some-phase_behind.ensures in
    let two : 2 * (c.loop-pair.pair + 1) + 1 ≡ 2 * c.loop-pair.pair + 2 + 1 = omega arith in
    rw two behind

pub returns-in_default-phase_behind-2 : goal.returns-in_default-phase_behind-2
returns-in_default-phase_behind-2 c =
    none_behind c.loop-pair.invariant _ (omega arith) (omega arith) c.in_default-phase_behind-2.ensures

pub returns : goal.returns
returns c =
    let left = c.loop-pair.invariant in
    elim c.if-count-eq0-2.branch [
      | then-count-eq0-2+in-Some-phase_behind-2 even ↦
          let behind = one_behind left _ (omega arith) (omega arith) even.in-Some-phase_behind-2.ensures in
          rw even.last-is (rw add-one at (none_left behind (omega arith)))
      | else-count-eq0-2 odd ↦ rw odd.last-is (rw add-one at (none_left left (omega arith)))
    ]
