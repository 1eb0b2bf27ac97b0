-- An entry of a history: the plan that a node selected in a phase, or began with in phase 0.
-- Messages carry entries and the rules count them, so both see this one type.
use Rattle.std.specs.Prelude.{ℕ, zero, suc, ◌+◌, cond, List, [], ◌∷◌, ◌++◌, get_or, leb}

pub record Entry : Type 0 where
  pub phase : ℕ
  pub plan : ℕ

-- the entry of a phase, where it has a plan
abbrev pub entry_of : ℕ → ℕ → List Entry
entry_of phase plan = cond (leb 1 plan) (record { phase = phase; plan = plan } ∷ []) []

-- the non-empty entries of a history, of `count` phases from `phase` on
unfoldable pub entries_from : List ℕ → ℕ → ℕ → List Entry
entries_from history phase zero = []
entries_from history phase (suc count) =
    entry_of phase (get_or history phase 0) ++ entries_from history (phase + 1) count
