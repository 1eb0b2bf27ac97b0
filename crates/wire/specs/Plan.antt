-- A plan is a number from 1 on, so that 0 can stand for none; a phase that has rounds is one from 1 on, so that 0 is
-- the time before the first.
use Rattle.std.specs.Prelude.{ℕ, Bool, cond, ◌&&◌, leb, eqb}
use Rattle.wire.specs.Sizes.{last_phase}

-- the new value where v is a plan, the old one where it is 0
abbrev pub if_plan : {A : Type 0} → ℕ → A → A → A
if_plan v new old = cond (eqb v 0) old new

-- whether a number is a plan, and whether a phase has rounds: two of the bounds of a message
abbrev pub plan_ok : ℕ → Bool
plan_ok plan = leb 1 plan

abbrev pub phase_ok : ℕ → Bool
phase_ok phase = leb 1 phase && leb phase last_phase
