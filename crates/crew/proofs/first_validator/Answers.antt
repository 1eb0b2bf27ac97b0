-- `first_validator` meets its contract: what a phase moves the group by counts less whole rounds of the crew.
use Rattle.std.proofs.Common.{◌∙◌}
use Rattle.std.proofs.lemmas.Nat.{mul-mod_second}
use Rattle.crew.proofs.first_validator.Goals as goal

pub returns-clause-first : goal.returns-clause-first
returns-clause-first c = λ some.
    (rw (c.from.ensures, c.moved.ensures.0, c.from-2.ensures) at c.left_over.ensures.0)
    ∙ mul-mod_second c.args.phase c.args.crew.c c.args.crew.n
