-- `Pending::with_say` meets its contract.
use Rattle.pending.specs.Pairs.{with_say}
use borrow.Author.Tests.{lt-ltb, le-ltb}
use Rattle.pending.proofs.Pending.with_say.Goals as goal

pub returns-then-sender-lt-MOST_NODES : goal.returns-then-sender-lt-MOST_NODES
unfolding with_say
returns-then-sender-lt-MOST_NODES c = rw (lt-ltb _ _ c.if-sender-lt-MOST_NODES.true)

pub returns-else-sender-lt-MOST_NODES : goal.returns-else-sender-lt-MOST_NODES
unfolding with_say
returns-else-sender-lt-MOST_NODES c = rw (le-ltb _ _ c.if-sender-lt-MOST_NODES.false)
