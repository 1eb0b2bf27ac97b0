-- `write` meets its contract: no message takes as many bytes as a value has room for.
use Rattle.std.proofs.Common.{rules}
use Rattle.node.proofs.Lengths.{write_length}
use Rattle.boundary.proofs.write.Goals as goal

pub returns-clause-gives : goal.returns-clause-gives
returns-clause-gives c =
    let short = write_length c.in_ok-node.node c.args.buffer.now in
    search (rules, short)
