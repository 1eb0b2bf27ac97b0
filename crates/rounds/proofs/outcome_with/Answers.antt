-- `outcome_with` meets its contract.
use Rattle.rounds.proofs.Hearing.{on_heard}
use Rattle.rounds.specs.Steps.{ruled}
use Rattle.rounds.proofs.outcome_with.Goals as goal

pub returns : goal.returns
returns c =
    let walked = rw c.empty-columns.ensures at c.read_slots.ensures in
    on_heard c.requires c.read_slots.new.columns c.read_slots.new.histories walked
    c.speaking.result c.speaking.ensures (ruled c.args.round) _ c.rule_on_columns.ensures
