-- Each slot of `marks_in` adds the weight of its bit where it counts; so few weights fit.
use mathlib.Core.Path.{◌≡◌, refl, ◌∙◌}
use mathlib.Core.Bool.{Bool, true, false, cond}
use Prim.Native.Nat.{ℕ, ◌*◌, ◌%◌, ◌^◌, ◌<◌}
use native.Mathlib.Nat.{one-mul, zero-mul}
use native.Mathlib.Omega.{arith}
use lib.Pow.{shl_exact}
use mir.Val.{bool_byte}
use Rattle.wire.specs.Marks.{marks_of}
use Rattle.wire.proofs.Marks.{marks_fit, marks_more}
use Rattle.crew.specs.Parts.{most_nodes}
use Rattle.rounds.proofs.marks_in.Goals as goal

-- a bit keeps its place in a number that has a bit for each node
bit_shifted : (counts : Bool) {q x : ℕ} → q < most_nodes → x ≡ bool_byte counts
    → x * 2 ^ q % 2 ^ most_nodes ≡ cond counts (2 ^ q) 0
bit_shifted true {q} less is = rw is (shl_exact {a = 1} 1 q most_nodes (omega arith) (omega arith) ∙ one-mul (2 ^ q))
bit_shifted false {q} less is = rw (is, zero-mul (2 ^ q)) refl

pub loop-q-init : goal.loop-q-init
unfolding marks_of
loop-q-init c = refl

pub loop-q-preserved : goal.loop-q-preserved
loop-q-preserved c =
    let less : c.loop-q.q < most_nodes = omega (arith, c.requires, c.loop-q-test.true) in
    marks_more _ _ c.loop-q.invariant (bit_shifted _ less c.from.ensures)

pub overflow_add-marks : goal.overflow_add-marks
overflow_add-marks c =
    let next = loop-q-preserved c in
    record { fits = rw next (marks_fit _ {room = most_nodes} (omega (arith, c.requires, c.loop-q-test.true))) }
