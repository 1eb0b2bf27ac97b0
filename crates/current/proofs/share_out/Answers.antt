-- `share_out` meets its contract.
use mathlib.Core.Path.{ap₂, ◌∙◌}
use Prim.Native.Nat.{ℕ, ◌-◌}
use native.Mathlib.Omega.{arith}
use Rattle.current.proofs.Steps.{small_shares, wholes_low, shared_out}
use Rattle.current.proofs.share_out.Goals as goal

pub overflow_sub-left : goal.overflow_sub-left
overflow_sub-left c =
    omega (arith, wholes_low c.requires.scarce c.lay_parts.ensures, c.total.ensures, c.from.ensures)

pub give_out-requires-clause-small : goal.give_out-requires-clause-small
give_out-requires-clause-small c = small_shares c.requires.scarce c.lay_parts.ensures

pub returns : goal.returns
returns c =
    c.give_out.ensures ∙ shared_out c.requires.scarce c.lay_parts.ensures _
    (ap₂ (λ (a b : ℕ). a - b) c.from.ensures c.total.ensures)
