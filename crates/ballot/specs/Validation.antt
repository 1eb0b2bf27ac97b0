-- Validation, round 2 of a phase in classes 2 and 3: document 01, 'The three rounds', and 02, C-13.
use Rattle.std.specs.Prelude.{Bool, List, ℕ, ◌*◌, ltb}
use Rattle.crew.specs.declared.Crew.{Crew}
use Rattle.crew.specs.Thresholds.{valid_above}
use Rattle.ballot.specs.Count.{count_if}
use Rattle.ballot.specs.Ballot.{Ballot, votes}
use Rattle.ballot.specs.Least.{least_of}

-- 01: "If a plan stands in c slots with 2c > n + b", and 02: "the test becomes 2 × count > c + b", where c is the size
-- of the group. The ballots are those that count in the round: inbox/specs/Inbox.
unfoldable pub valid : Crew → List Ballot → ℕ → Bool
valid crew ballots v = ltb (valid_above crew) (2 * count_if (votes v) ballots)

-- the plan that is validated, 0 where none is; in the slots of a group no two plans are valid
unfoldable pub validated : Crew → List Ballot → ℕ
validated crew ballots = least_of (valid crew ballots) ballots
