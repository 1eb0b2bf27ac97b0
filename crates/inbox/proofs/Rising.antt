-- What entries that keep their bounds say: their phases rise, each above the one before.
use mathlib.Core.Path.{◌≡◌}
use mathlib.Core.Bool.{true, ◌&&◌}
use mathlib.Core.List.{List, ◌∷◌}
use mathlib.Core.Logic.{◌≢◌}
use Prim.Native.Nat.{ℕ, ◌+◌, ◌<◌, ◌≤◌}
use native.Mathlib.Omega.{arith}
use lib.Dec.{leb, ltb}
use borrow.Author.Tests.{leb-true, ltb-true, le-leb, lt-ltb}
use Rattle.wire.specs.Entry.{Entry}
use Rattle.wire.proofs.Tests.{both_true}
use Rattle.message.specs.Bounds.{entries_ok}
use Rattle.wire.specs.Plan.{plan_ok}

-- what an entry that keeps its bounds says, with those after it
pub record FirstKept (least phase : ℕ) (e : Entry) (es : List Entry) : Type 0 where
  pub from : least ≤ e.phase
  pub below : e.phase < phase
  pub full : leb 1 e.plan ≡ true
  pub rest : entries_ok (e.phase + 1) phase es ≡ true

pub first_kept : (least phase : ℕ) (e : Entry) (es : List Entry) → entries_ok least phase (e ∷ es) ≡ true
    → FirstKept least phase e es
unfolding entries_ok
first_kept least phase e es ok =
    let first = leb least e.phase && ltb e.phase phase in
    let parts = both_true (first && plan_ok e.plan) (entries_ok (e.phase + 1) phase es) ok in
    let entry = both_true first (plan_ok e.plan) parts.0 in
    let bounds = both_true (leb least e.phase) (ltb e.phase phase) entry.0 in
    record {
      from = leb-true _ _ bounds.0;
      below = ltb-true _ _ bounds.1;
      full = entry.1;
      rest = parts.1;
    }

-- entries that keep their bounds keep them from any phase on that is not after their first
from_other : (least other phase : ℕ) (e : Entry) (es : List Entry) → entries_ok least phase (e ∷ es) ≡ true
    → other ≤ e.phase → entries_ok other phase (e ∷ es) ≡ true
unfolding entries_ok
from_other least other phase e es ok from =
    let r = first_kept least phase e es ok in
    simp (le-leb _ _ from, lt-ltb _ _ r.below, r.full, r.rest)

-- those that do not begin with the least phase keep them from the next one on
pub from_next : (least phase : ℕ) (e : Entry) (es : List Entry) → entries_ok least phase (e ∷ es) ≡ true
    → e.phase ≢ least → entries_ok (least + 1) phase (e ∷ es) ≡ true
from_next least phase e es ok other =
    from_other least (least + 1) phase e es ok (omega (arith, (first_kept least phase e es ok).from, other))
