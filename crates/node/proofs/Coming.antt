-- The message of the coming round: what it says of the record, and that it keeps a message's bounds and widths.
use mathlib.Core.Path.{◌≡◌, refl, subst}
use mathlib.Core.Bool.{Bool, true, false, cond}
use mathlib.Core.List.{List, [], ◌∷◌, ◌++◌}
use mathlib.Core.Option.{none, some, none-ne-some}
use Prim.Native.Nat.{ℕ, zero, suc, ◌+◌, ◌≤◌, ◌<◌}
use native.Mathlib.Omega.{arith}
use lib.ListN.{get_or}
use lib.Dec.{leb, eqb}
use borrow.Author.Tests.{leb-true, eqb-true, eqb-false, lt-ltb, le-leb, eq-eqb, ne_eqb}
use Rattle.wire.specs.Sizes.{plan_limit, last_phase, spent_phase}
use Rattle.wire.proofs.Tests.{both_true}
use Rattle.crew.specs.Group.{validates}
use Rattle.message.specs.Fields.{Message}
use Rattle.message.specs.Bounds.{within, PlansFit, Fits}
use Rattle.writer.specs.Writing.{selection_of, validation_of, decision_of}
use Rattle.wire.specs.Entry.{entries_from}
use Rattle.writer.proofs.WriteLaws.{Allows, allows}
use Rattle.node.specs.declared.Node.{Node}
use Rattle.node.specs.Sending.{listed_phases, confirming, coming_of}
use Rattle.node.proofs.Facts.{Sound, Typed, last_round}

-- The message that a record writes, by its round: its run and phase are the record's, and so are its body's fields.
pub data Says (d : Node) : Message → Type 0 where
  selects : d.round ≡ 1
      → Says d (selection_of d.run d.phase d.vote d.stamp d.history (listed_phases d))
  confirms : d.round ≡ 2 → validates d.crew d.phase d.own ≡ true → 1 ≤ d.select
      → Says d (validation_of d.run d.phase d.select)
  decides : d.round ≡ 3 → Says d (decision_of d.run d.phase d.vote d.stamp)

pub says_coming : {d : Node} {m : Message} → Says d m → coming_of d ≡ some m
unfolding coming_of
says_coming (selects one) = simp (eq-eqb _ _ one)
says_coming {d} (confirms two turn plan) =
    simp (ne_eqb d.round 1 (λ e. omega arith), eq-eqb d.round 2 two, turn, le-leb _ _ plan)
says_coming {d} (decides three) =
    simp (ne_eqb d.round 1 (λ e. omega arith), ne_eqb d.round 2 (λ e. omega arith))

pub coming_says : {d : Node} → Sound d → (m : Message) → coming_of d ≡ some m → Says d m
unfolding coming_of
coming_says {d} s m e = go (eqb d.round 1) (eqb d.round 2) (confirming d) refl refl refl e
  where
    go : (first second chosen : Bool)
        → eqb d.round 1 ≡ first → eqb d.round 2 ≡ second → confirming d ≡ chosen
        → cond first (some (selection_of d.run d.phase d.vote d.stamp d.history (listed_phases d)))
        (cond second (cond chosen (some (validation_of d.run d.phase d.select)) none)
        (some (decision_of d.run d.phase d.vote d.stamp))) ≡ some m
        → Says d m
    go true second chosen one two plan e = subst (Says d) (cc) (selects (eqb-true _ _ one))
    go false true true one two plan e =
        let both = both_true (validates d.crew d.phase d.own) (leb 1 d.select) plan in
        subst (Says d) (cc) (confirms (eqb-true _ _ two) both.0 (leb-true _ _ both.1))
    go false true false one two plan e = absurd (none-ne-some m e)
    go false false chosen one two plan e =
        subst (Says d) (cc) (decides (last_round s (eqb-false _ _ one) (eqb-false _ _ two)))

-- in round 2 without a turn or a plan, the node is silent
pub coming_silent : (d : Node) → d.round ≡ 2 → confirming d ≡ false → coming_of d ≡ none
unfolding coming_of
coming_silent d two silent = simp (ne_eqb d.round 1 (λ e. omega arith), eq-eqb d.round 2 two, silent)

-- a node lists no phases but those before its own
pub listed_before : (d : Node) → listed_phases d ≤ d.phase
listed_before d = go (eqb d.crew.class 3)
  where
    go : (third : Bool) → cond third d.phase 0 ≤ d.phase
    go true = omega arith
    go false = omega arith

-- the tests that the writer of a selection makes, passed
pub selection_allowed : {d : Node} → Sound d → d.phase < spent_phase → d.round ≡ 1
    → Allows d.run d.phase d.vote d.stamp d.history (listed_phases d)
selection_allowed {d} s left one =
    allows d.run d.phase d.vote d.stamp d.history (listed_phases d) (simp (
      le-leb (listed_phases d) d.phase (listed_before d),
      le-leb 1 d.phase s.phase_from,
      le-leb d.phase last_phase (omega arith),
      le-leb 1 d.vote s.vote,
      lt-ltb d.stamp d.phase (s.stamp_before (omega arith)),
    ))

-- what a sound, unspent record writes is within the bounds
pub says_within : {d : Node} {m : Message} → Sound d → d.phase < spent_phase → Says d m → within m ≡ true
says_within s left (selects one) = (selection_allowed s left one).in_bounds
says_within {d} s left (confirms two turn plan) =
    simp (le-leb 1 d.phase s.phase_from, le-leb d.phase last_phase (omega arith), le-leb 1 d.select plan)
says_within {d} s left (decides three) =
    simp (
      le-leb 1 d.phase s.phase_from,
      le-leb d.phase last_phase (omega arith),
      le-leb 1 d.vote s.vote,
      le-leb d.stamp d.phase s.stamp,
    )

-- the entries that are listed fit their bytes where the history's do
plans_fit : (history : List ℕ) → ((phase : ℕ) → get_or history phase 0 < plan_limit) → (from count : ℕ)
    → PlansFit (entries_from history from count)
unfolding entries_from
plans_fit history small from zero = tt
plans_fit history small from (suc count) = go (leb 1 (get_or history from 0)) (plans_fit history small (from + 1) count)
  where
    go : (full : Bool) → PlansFit (entries_from history (from + 1) count)
        → PlansFit
        (cond full (record { phase = from; plan = get_or history from 0 } ∷ []) []
        ++ entries_from history (from + 1) count)
    go true rest = (small from, rest)
    go false rest = rest

-- what a record writes fits the bytes of a message
pub says_fits : {d : Node} {m : Message} → Typed d → Says d m → Fits m
says_fits {d} t (selects one) = (t.run, (t.vote, plans_fit d.history t.entries 0 (listed_phases d)))
says_fits t (confirms two turn plan) = (t.run, t.select)
says_fits t (decides three) = (t.run, t.vote)
