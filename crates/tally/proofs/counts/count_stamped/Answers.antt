-- `count_stamped` counts by its test.
use Rattle.std.proofs.Common.{rules}
use Rattle.tally.proofs.counts.count_stamped.Goals as goal

pub returns : goal.returns
returns c = c.count.ensures _ (λ q b less answers. search rules)
