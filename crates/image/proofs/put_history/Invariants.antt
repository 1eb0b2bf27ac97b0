-- The invariant of `put_history`.
use mathlib.Core.Path.{◌≡◌}
use mathlib.Core.List.{List}
use Prim.Native.Nat.{ℕ, ◌+◌, ◌*◌}
use lib.ListN.{length, drop}
use lib.Seq.{sets}
use Rattle.wire.specs.Sizes.{plan_size}
use Rattle.image.specs.Layout.{history_place, history_bytes}
use Rattle.image.proofs.put_history.Given as goal

-- The invariant: the plans that are left, laid from this place on, end in the image with all plans.
pub record Laying (image₀ history image : List ℕ) (phase : ℕ) : Type 0 where
  pub long : length image ≡ length image₀
  pub left : sets image (history_place + plan_size * phase) (history_bytes (drop phase history))
      ≡ sets image₀ history_place (history_bytes history)

abbrev pub invariant-loop-phase : goal.invariant-loop-phase
invariant-loop-phase l = Laying l.initial.image l.history l.image l.phase
