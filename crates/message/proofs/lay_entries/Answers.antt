-- `lay_entries` meets its contract: of an odd number of entries the last is laid first, and a turn of the loop lays two
-- more.
use mathlib.Core.Path.{◌≡◌}
use Prim.Native.Nat.{◌*◌, ◌-◌, ◌/◌}
use native.Mathlib.Omega.{arith}
use Rattle.message.proofs.LayLaws.{none_laid, all_laid, entry_laid, entry_stops}
use Rattle.message.proofs.lay_entries.Goals.{then-count-eq1+in_ok-before, else-count-eq1}
use Rattle.message.proofs.lay_entries.Goals as goal

pub returns-in_err-before : goal.returns-in_err-before
returns-in_err-before c =
    let none = none_laid c.args.s.now c.args.count c.args.phase c.args.row.now in
    rw c.from_residual.ensures (entry_stops none (c.args.count - 1) (omega arith) c.in_err-before.ensures)

pub loop-pair-init : goal.loop-pair-init
loop-pair-init c =
    let count = c.args.count in
    let none = none_laid c.args.s.now count c.args.phase c.args.row.now in
    elim c.if-count-eq1.branch [
      | then-count-eq1+in_ok-before w ↦
          let one : 2 * (count / 2) ≡ count - 1 = omega arith in
          rw (one, w.before-is, w.row-is) (entry_laid none (count - 1) (omega arith) w.in_ok-before.ensures)
      | else-count-eq1 w ↦
          let all : 2 * (count / 2) ≡ count = omega arith in
          rw (all, w.before-is, w.row-is) none
    ]

pub returns-in_err-later : goal.returns-in_err-later
returns-in_err-later c =
    let stops = entry_stops c.loop-pair.invariant _ (omega arith) c.in_err-later.ensures in
    rw c.from_residual-in_err-later.ensures stops

-- between the two of a turn: the later entry is laid
pub returns-in_err-before-2 : goal.returns-in_err-before-2
returns-in_err-before-2 c =
    let between = entry_laid c.loop-pair.invariant _ (omega arith) c.in_ok-later.ensures in
    let stops = entry_stops between _ (omega arith) c.in_err-before-2.ensures in
    rw c.from_residual-in_err-before-2.ensures stops

pub loop-pair-preserved : goal.loop-pair-preserved
loop-pair-preserved c =
    let between = entry_laid c.loop-pair.invariant _ (omega arith) c.in_ok-later.ensures in
    entry_laid between _ (omega arith) c.in_ok-before-2.ensures

pub returns : goal.returns
returns c =
    let none : 2 * c.loop-pair.pair ≡ 0 = omega arith in
    all_laid (rw none at c.loop-pair.invariant)
