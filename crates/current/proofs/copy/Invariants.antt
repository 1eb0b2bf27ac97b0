-- The invariant of `copy`: the first i shares are the demands.
use lib.ListN.{length, get_or}
use Rattle.wire.proofs.Arrays.{Filling}
use Rattle.current.proofs.copy.Given as goal

abbrev pub invariant-loop-i : goal.invariant-loop-i
invariant-loop-i l = Filling 0 (λ k. get_or l.demands k 0) (length l.demands) l.shares l.i
