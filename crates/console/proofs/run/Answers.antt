use mathlib.Core.Path.{◌≡◌, refl, ◌∙◌}
use Prim.Native.Nat.{ℕ, ◌<◌}
use native.Mathlib.Omega.{arith}
use Rattle.drill.proofs.Whole.{step_goes_on}
use Rattle.console.proofs.Showing.{shows_none, shows_more, shows_all}
use Rattle.console.proofs.run.Goals as goal

-- a drill with a line to come is not over
runs_on : (line : ℕ) → 0 < line → line ≡ 0 → ⊥
runs_on line some over = omega (arith, some, over)

pub loop-cursor-init : goal.loop-cursor-init
loop-cursor-init g c = record { room = refl; shows = shows_none _ _ c.start-cursor.ensures }

pub loop-cursor-smaller : goal.loop-cursor-smaller
loop-cursor-smaller g c =
    rw c.step-more.ensures.made.next (step_goes_on _ _ (runs_on _ c.loop-cursor-test.true))

pub loop-cursor-preserved : goal.loop-cursor-preserved
loop-cursor-preserved g c =
    let made = c.step-more.ensures.made in
    let so_far = c.loop-cursor.invariant in
    record {
      room = c.step-more.auto.text ∙ so_far.room;
      shows = shows_more so_far.shows (runs_on _ c.loop-cursor-test.true) _ _ made.next made.size made.within;
    }

pub returns : goal.returns
returns g c = shows_all c.loop-cursor.invariant.shows (omega (arith, c.loop-cursor-test.false))
