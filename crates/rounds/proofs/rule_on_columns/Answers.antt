-- `rule_on_columns` meets its contract: for validation, whose stamps play no part, with the stamps that there are.
use Rattle.std.proofs.Common.{rules}
use Rattle.rounds.proofs.rule_on_columns.Goals as goal

pub returns-in-2 : goal.returns-in-2
returns-in-2 c = λ h listed. let found = c.validate.ensures c.args.columns.now.stamps h in search rules
