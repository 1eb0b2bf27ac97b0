-- `deliver_all` meets its contract. The invariant: the slots of the first senders hold what reaches the receiver, the
-- others what is sent.
use Rattle.aisle.specs.Promises.{reaching}
use Rattle.aisle.proofs.Slots.{Laid}
use Rattle.aisle.proofs.deliver_all.Given as goal

abbrev pub invariant-loop-sender : goal.invariant-loop-sender
invariant-loop-sender l =
    Laid (reaching l.setup.honest l.moment.phase l.moment.round l.initial.inbox l.pending) l.initial.inbox l.inbox
    l.sender
