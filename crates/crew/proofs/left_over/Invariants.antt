-- `left_over` meets its contract. The invariant: what is left by now leaves the same, and n is in it fewer times than
-- are left to try.
use mathlib.Core.Path.{◌≡◌}
use Prim.Native.Nat.{◌*◌, ◌%◌, ◌≤◌, ◌<◌}
use Rattle.crew.proofs.left_over.Given as goal

abbrev pub invariant-loop-left : goal.invariant-loop-left
invariant-loop-left l =
    (l.rest % l.n ≡ l.number % l.n) × (l.rest < l.left * l.n) × (l.left ≤ 256)

abbrev pub decreases-loop-left : goal.decreases-loop-left
decreases-loop-left l = l.left
