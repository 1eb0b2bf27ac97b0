-- The records that a start gives: document 01, 'Crew and node'.
use Rattle.std.specs.Prelude.{ℕ, List, set, replicate}
use Rattle.wire.specs.Sizes.{history_size}
use Rattle.crew.specs.declared.Crew.{Crew}
use Rattle.crew.specs.Parts.{blank_crew}
use Rattle.node.specs.declared.Node.{Node}

-- 01: "Start: vote, base and history entry 0 are the initial plan; stamp, select, result and all other entries 0;
-- phase 1, round 1."
unfoldable pub begun : Crew → ℕ → ℕ → ℕ → Node
begun crew own run plan = record {
  crew = crew;
  own = own;
  run = run;
  phase = 1;
  round = 1;
  vote = plan;
  base = plan;
  stamp = 0;
  select = 0;
  result = 0;
  history = set (replicate history_size 0) 0 plan;
}

-- a record that is 0 but for its history
abbrev pub zeroed : List ℕ → Node
zeroed history = record {
  crew = blank_crew;
  own = 0;
  run = 0;
  phase = 0;
  round = 0;
  vote = 0;
  base = 0;
  stamp = 0;
  select = 0;
  result = 0;
  history = history;
}

-- the record of no node: all of it is 0, which is not sound
unfoldable pub blank : Node
blank = zeroed (replicate history_size 0)
