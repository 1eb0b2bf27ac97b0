-- Decision, round 3 of a phase: document 01, 'The three rounds'.
use Rattle.std.specs.Prelude.{Bool, true, ◌&&◌, List, ℕ, leb}
use Rattle.crew.specs.declared.Crew.{Crew}
use Rattle.crew.specs.Thresholds.{Class, one, two, three}
use Rattle.ballot.specs.Count.{count_if}
use Rattle.ballot.specs.Ballot.{Ballot, votes, stamped}
use Rattle.ballot.specs.Least.{least_of}

-- 01: "in classes 2 and 3 only slots whose stamp is the phase"
abbrev pub fresh : Class → ℕ → Ballot → Bool
fresh one phase m = true
fresh two phase m = stamped phase m
fresh three phase m = stamped phase m

-- 01: "plans in at least D slots"
unfoldable pub decides : Class → Crew → ℕ → List Ballot → ℕ → Bool
decides class crew phase ballots v = leb crew.d (count_if (λ m. fresh class phase m && votes v m) ballots)

-- the least of them, 0 where there are none
unfoldable pub decision : Class → Crew → ℕ → List Ballot → ℕ
decision class crew phase ballots = least_of (decides class crew phase ballots) ballots
