-- `validators_among` meets its contract. The invariant: of the first q marks just those of validators are kept, and the
-- others are as they were.
use mathlib.Core.Path.{◌≡◌}
use mathlib.Core.Bool.{false, ◌&&◌}
use Prim.Native.Nat.{ℕ, ◌≤◌, ◌<◌}
use lib.ListN.{length, get_or}
use Rattle.crew.specs.Parts.{most_nodes}
use Rattle.crew.specs.Group.{validates}
use Rattle.crew.proofs.validators_among.Given as goal

abbrev pub invariant-loop-q : goal.invariant-loop-q
invariant-loop-q l =
    (length l.mark-items ≡ most_nodes)
    × ((k : ℕ) → k < l.q → get_or l.mark-items k false ≡ (get_or l.fn.marks k false && validates l.crew l.phase k))
    × ((k : ℕ) → l.q ≤ k → get_or l.mark-items k false ≡ get_or l.fn.marks k false)
