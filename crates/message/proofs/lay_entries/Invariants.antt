-- `lay_entries` meets its contract. The invariant: the entries from this pair on are laid, and keep their bounds.
use Prim.Native.Nat.{◌*◌}
use Rattle.message.proofs.LayLaws.{Laying}
use Rattle.message.proofs.lay_entries.Given as goal

abbrev pub invariant-loop-pair : goal.invariant-loop-pair
invariant-loop-pair l = Laying l.s l.count l.phase l.fn.row (2 * l.pair) l.before l.row
