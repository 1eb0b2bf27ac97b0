-- `Texts::put_spaced` meets its contract. The invariant: the counts so far are laid.
use Prim.Native.Nat.{◌*◌}
use lib.ListN.{get_or}
use Rattle.absence.specs.Lines.{text_most, spaced}
use Rattle.absence.specs.Promises.{Spilt}
use Rattle.absence.proofs.Texts.put_spaced.Given as goal

abbrev pub invariant-loop-count : goal.invariant-loop-count
invariant-loop-count l =
    Spilt (text_most * l.count-index) l.initial.lines l.start (spaced (λ k. get_or l.fn.missing k 0) l.count-index)
    l.lines l.at
