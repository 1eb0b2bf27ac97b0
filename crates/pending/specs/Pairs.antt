-- Cuts and says by pairs of nodes: document 01, 'The drill'. What waits for one receiver stands together, by senders.
use Rattle.std.specs.Prelude.{ℕ, Bool, true, false, cond, get_or, set, replicate, ltb}
use Rattle.crew.specs.Parts.{most_nodes}
use Rattle.pending.specs.declared.Pending.{Pending}
use Rattle.pending.specs.declared.Waiting.{Waiting}

-- nothing waits from a sender; plan 0 stands for no say
abbrev pub idle : Waiting
idle = record { cut = false; plan = 0; stamp = 0 }

-- no cut and no say: so a drill begins, and so it goes on after each go
unfoldable pub nothing : Pending
nothing = record { from = replicate most_nodes idle }

-- A node that a crew can have. Nothing is kept of any other, and nothing waits from it.
abbrev pub known : ℕ → Bool
known sender = ltb sender most_nodes

-- what stands at a sender's place
abbrev pub standing : Pending → ℕ → Waiting
standing p s = get_or p.from s idle

-- this stands at a sender's place
abbrev pub stands : Pending → ℕ → Waiting → Pending
stands p s w = record { from = set p.from s w }

-- 01: "(s to r is lost)"
unfoldable pub with_cut : Pending → ℕ → Pending
with_cut p s =
    let w = standing p s in
    cond (known s) (stands p s (record { cut = true; plan = w.plan; stamp = w.stamp })) p

-- 01: "of two says for one pair the last stands"
unfoldable pub with_say : Pending → ℕ → ℕ → ℕ → Pending
with_say p s plan stamp =
    let w = standing p s in
    cond (known s) (stands p s (record { cut = w.cut; plan = plan; stamp = stamp })) p

-- what waits from a sender
unfoldable pub waiting_from : Pending → ℕ → Waiting
waiting_from p s = cond (known s) (standing p s) idle
