-- That validators take turns: document 02, C-13.
use Rattle.std.specs.Prelude.{◌≡◌, ℕ, ◌+◌, ◌≤◌, ◌<◌}
use Rattle.crew.specs.declared.Crew.{Crew}
use Rattle.crew.specs.Group.{validates}
use Rattle.ballot.specs.Count.{tally}

-- what holds of the groups of a crew's phases
pub record Turns (crew : Crew) : Type 0 where
  -- 02: "Over any n consecutive phases, phases taken as unbounded, each node serves exactly c times."
  pub serves : (from q : ℕ) → q < crew.n → tally (λ k. validates crew (from + k) q) crew.n ≡ crew.c
  -- a phase has c validators
  pub size : (phase : ℕ) → tally (validates crew phase) crew.n ≡ crew.c

-- It holds of every crew whose group is no larger than the crew, so of every accepted one.
abbrev pub TakingTurns : Type 0
TakingTurns = (crew : Crew) → crew.c ≤ crew.n → Turns crew
