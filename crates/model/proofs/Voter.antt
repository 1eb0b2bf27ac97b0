-- A voter, the abstract engine's node: what it remembers, what it says in a round, and what a round does to it.
-- A record without its place, its crew and its number; that a record writes and turns so is proved in crate agreement
-- (proofs/Record, proofs/Written). Nothing here has to be believed: 01's rules are the definitions of node and rounds.
use mathlib.Core.Bool.{cond}
use mathlib.Core.List.{List, [], ◌∷◌}
use mathlib.Core.Option.{Option, none, some}
use Prim.Native.Nat.{ℕ}
use lib.ListN.{set, replicate}
use Rattle.wire.specs.Sizes.{last_phase}
use Rattle.wire.specs.Plan.{if_plan}
use Rattle.wire.specs.Entry.{Entry, entries_from}
use Rattle.crew.specs.declared.Crew.{Crew}
use Rattle.crew.specs.Thresholds.{Class, one, two, three}
use Rattle.crew.specs.Group.{validates}
use Rattle.ballot.specs.Ballot.{Ballot}
use Rattle.ballot.specs.Selection.{taken}
use Rattle.ballot.specs.Validation.{validated}
use Rattle.ballot.specs.Decision.{decision}

-- the fields of a record that rounds change
pub record Voter : Type 0 where
  pub vote : ℕ
  pub base : ℕ
  pub stamp : ℕ
  pub select : ℕ
  pub result : ℕ
  pub history : List ℕ

pub data Round : Type 0 where
  selecting validating deciding : Round

abbrev pub round_number : Round → ℕ
round_number selecting = 1
round_number validating = 2
round_number deciding = 3

-- a voter that begins with this plan
abbrev pub opened : ℕ → Voter
opened v = record { vote = v; base = v; stamp = 0; select = 0; result = 0; history = v ∷ replicate last_phase 0 }

-- What a voter says.

abbrev pub entries_said : Class → List ℕ → ℕ → List Entry
entries_said one history phase = []
entries_said two history phase = []
entries_said three history phase = entries_from history 0 phase

-- what voter q says in a round, or nothing where it is silent
abbrev pub say : Class → Crew → ℕ → Round → ℕ → Voter → Option Ballot
say class crew phase selecting q d =
    some (record { vote = d.vote; stamp = d.stamp; entries = entries_said class d.history phase })
say class crew phase validating q d =
    cond (validates crew phase q)
    (if_plan d.select (some (record { vote = d.select; stamp = 0; entries = [] })) none)
    none
say class crew phase deciding q d = some (record { vote = d.vote; stamp = d.stamp; entries = [] })

-- What a round does to a voter: v is the plan that it selects, validates or decides, 0 where there is none.

abbrev pub selects : ℕ → ℕ → Voter → Voter
selects phase v d = record {
  vote = if_plan v v d.vote;
  base = d.base;
  stamp = d.stamp;
  select = v;
  result = d.result;
  history = if_plan v (set d.history phase v) d.history;
}

abbrev pub confirms : ℕ → ℕ → Voter → Voter
confirms phase v d = record {
  vote = if_plan v v d.base;
  base = if_plan v v d.base;
  stamp = if_plan v phase d.stamp;
  select = d.select;
  result = d.result;
  history = d.history;
}

abbrev pub settles : ℕ → Voter → Voter
settles v d = record {
  vote = d.vote;
  base = d.base;
  stamp = d.stamp;
  select = d.select;
  result = if_plan d.result d.result v;
  history = d.history;
}

abbrev pub turn : Class → Crew → ℕ → Round → List Ballot → Voter → Voter
turn class crew phase selecting ballots d = selects phase (taken class crew ballots) d
turn class crew phase validating ballots d = confirms phase (validated crew ballots) d
turn class crew phase deciding ballots d = settles (decision class crew phase ballots) d
