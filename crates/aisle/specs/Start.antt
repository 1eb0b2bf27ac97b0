-- The aisle at the start of a drill: document 01, 'The drill'.
use Rattle.std.specs.Prelude.{ℕ, List, get_or, replicate, leb}
use Rattle.wire.specs.Outcome.{value_or}
use Rattle.wire.specs.Below.{table}
use Rattle.crew.specs.declared.Crew.{Crew}
use Rattle.crew.specs.Parts.{most_nodes}
use Rattle.node.specs.Record.{blank}
use Rattle.node.specs.Starting.{start_of}
use Rattle.pending.specs.Pairs.{nothing}
use Rattle.aisle.specs.declared.State.{State}

-- The drill after line 2. A node with plan 0 is not honest: its start is refused.
-- 01: "0 for a node that is not honest"; "Run is 1."
unfoldable pub begun_of : Crew → List ℕ → State
begun_of crew plans = record {
  setup = record { crew = crew; honest = table (λ i. leb 1 (get_or plans i 0)) most_nodes };
  moment = record {
    phase = 1;
    round = 1;
    nodes = table (λ i. value_or blank (start_of crew i 1 (get_or plans i 0))) most_nodes;
    pending = replicate most_nodes nothing;
  };
}
