-- The invariant of `history_in`.
use mathlib.Core.List.{List}
use Prim.Native.Nat.{ℕ, ◌+◌, ◌*◌}
use Rattle.wire.specs.Sizes.{plan_size}
use Rattle.wire.specs.Bytes.{number_at}
use Rattle.wire.proofs.Arrays.{Filled}
use Rattle.image.specs.Layout.{history_place}
use Rattle.image.proofs.history_in.Given as goal

-- the plan of a phase, as it stands in an image
abbrev pub plan_at : List ℕ → ℕ → ℕ
plan_at s phase = number_at plan_size s (history_place + plan_size * phase)

-- the history has the plans of the phases before this one
abbrev pub invariant-loop-phase : goal.invariant-loop-phase
invariant-loop-phase l = Filled (plan_at l.s) 0 l.plan-items l.phase
