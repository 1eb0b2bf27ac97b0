-- A crew from its numbers, and the largest crew: document 01, 'Crew and node', and 02, C-13.
use Rattle.std.specs.Prelude.{ℕ}
use Rattle.crew.specs.declared.Crew.{Crew}

-- 01: "A crew is five one-byte numbers"; 02: "The crew, and so every record, gains a group size c."
abbrev pub crew_of : ℕ → ℕ → ℕ → ℕ → ℕ → ℕ → Crew
crew_of class n b f d c = record { class = class; n = n; b = b; f = f; d = d; c = c }

-- the crew of a record that belongs to none
abbrev pub blank_crew : Crew
blank_crew = crew_of 0 0 0 0 0 0

-- no crew has more nodes
abbrev pub most_nodes : ℕ
most_nodes = 32
