-- `messages` meets its contract. The invariant: the first senders' slots hold what they send.
use lib.ListN.{replicate}
use Rattle.aisle.specs.Round.{inbox_size, sent_by}
use Rattle.aisle.proofs.Slots.{Laid}
use Rattle.aisle.proofs.messages.Given as goal

abbrev pub invariant-loop-sender : goal.invariant-loop-sender
invariant-loop-sender l =
    Laid (sent_by l.nodes l.honest) (replicate inbox_size 0) l.sent l.sender
