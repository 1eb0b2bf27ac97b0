-- `go` meets its contract.
use native.Mathlib.Omega.{arith}
use Rattle.aisle.specs.Round.{gone}
use Rattle.std.proofs.lemmas.Bool.Decides.{nat_tests}
use Rattle.aisle.proofs.go.Goals as goal

pub returns-then-moment-lt-SPENT : goal.returns-then-moment-lt-SPENT
unfolding gone
returns-then-moment-lt-SPENT c = grind (arith, nat_tests)

pub returns : goal.returns
unfolding gone
returns c = grind (arith, nat_tests)
