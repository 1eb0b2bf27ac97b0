-- `are_entries` meets its contract. The invariant: where the next entry's phase may be later than the last one's, the
-- entries from this pair on answer what all entries answer.
use Prim.Native.Nat.{◌+◌, ◌*◌}
use Rattle.message.proofs.EntryLaws.{Left}
use Rattle.message.proofs.are_entries.Given as goal

abbrev pub invariant-loop-pair : goal.invariant-loop-pair
invariant-loop-pair l = Left l.s l.count l.phase (2 * l.pair + 1) (l.last + 1)
