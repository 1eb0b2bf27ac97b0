-- `Stream::start` meets its contract.
use Rattle.absence.specs.Lines.{fresh_stream}
use Rattle.absence.proofs.Stream.start.Goals as goal

pub returns : goal.returns
unfolding fresh_stream
returns c = rw c.empty.ensures
