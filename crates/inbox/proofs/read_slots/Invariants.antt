-- `read_slots` meets its contract.
use Rattle.inbox.proofs.Walk.{Walked}
use Rattle.inbox.proofs.read_slots.Given as goal

-- the slots before q are in the columns and the rows
abbrev pub invariant-loop-q : goal.invariant-loop-q
invariant-loop-q l =
    Walked l.coming l.inbox l.initial.columns l.initial.histories l.n l.width l.columns l.histories l.from l.q
