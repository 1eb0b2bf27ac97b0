-- Who validates in a phase, and who speaks in a round: document 02, C-13.
use Rattle.std.specs.Prelude.{ℕ, zero, suc, ◌+◌, ◌*◌, ◌%◌, ◌<◌, ◌≡◌, Bool}
use Rattle.std.specs.Prelude.{false, not, ◌&&◌, ◌||◌, List, ltb, eqb, get_or}
use Rattle.crew.specs.Parts.{most_nodes}
use Rattle.crew.specs.declared.Crew.{Crew}

-- q is one of the numbers (first + i) mod n for i below count
unfoldable pub among : (n first count q : ℕ) → Bool
among n first zero q = false
among n first (suc count) q = eqb ((first + count) % n) q || among n first count q

-- 02: "In a phase the validators are the nodes (phase × c + i) mod n for i below c". Nodes are numbered below n.
unfoldable pub validates : Crew → ℕ → ℕ → Bool
validates crew phase q = ltb q crew.n && among crew.n (phase * crew.c) crew.c q

-- who speaks in a round: in round 2 the validators alone
abbrev pub speaks : Crew → (phase round q : ℕ) → Bool
speaks crew phase round q = not (eqb round 2) || validates crew phase q

-- of the nodes that are marked, just those that validate are marked then
abbrev pub ValidatorsAmong : Crew → ℕ → List Bool → List Bool → Type 0
ValidatorsAmong crew phase marks kept =
    (q : ℕ) → q < most_nodes → get_or kept q false ≡ (get_or marks q false && validates crew phase q)
