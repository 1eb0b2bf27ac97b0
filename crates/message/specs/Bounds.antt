-- The bounds that a message's fields keep: document 01, 'Messages'.
-- 01: "Bounds: phase 1 to 63; plans not 0; stamp below the phase in kind 1, at most the phase in kind 3; entries
-- whose phases rise strictly and are below the message's phase."
use Rattle.std.specs.Prelude.{ℕ, ◌+◌, ◌<◌, Bool, true, ◌&&◌, List, [], ◌∷◌, length, leb, ltb}
use Rattle.wire.specs.Entry.{Entry}
use Rattle.wire.specs.Plan.{plan_ok, phase_ok}
use Rattle.wire.specs.Sizes.{plan_limit, run_limit}
use Rattle.message.specs.Layout.{most_entries}
use Rattle.message.specs.Fields.{Body, selection, validation, decision, Message}

-- "entries whose phases rise strictly and are below the message's phase": none of these is below `least`
unfoldable pub entries_ok : ℕ → ℕ → List Entry → Bool
entries_ok least phase [] = true
entries_ok least phase (e ∷ es) =
    leb least e.phase && ltb e.phase phase && plan_ok e.plan && entries_ok (e.phase + 1) phase es

-- "stamp below the phase in kind 1, at most the phase in kind 3"; "k at most 63"
abbrev pub body_ok : ℕ → Body → Bool
body_ok phase (selection vote stamp entries) =
    plan_ok vote && ltb stamp phase && leb (length entries) most_entries && entries_ok 0 phase entries
body_ok phase (validation plan) = plan_ok plan
body_ok phase (decision vote stamp) = plan_ok vote && leb stamp phase

abbrev pub within : Message → Bool
within m = phase_ok m.phase && body_ok m.phase m.body

-- the fields fit the bytes that the layout has for them
abbrev pub PlansFit : List Entry → Type 0
PlansFit [] = Unit {0}
PlansFit (e ∷ es) = (e.plan < plan_limit) × PlansFit es

abbrev pub BodyFits : Body → Type 0
BodyFits (selection vote stamp entries) = (vote < plan_limit) × PlansFit entries
BodyFits (validation plan) = plan < plan_limit
BodyFits (decision vote stamp) = vote < plan_limit

abbrev pub Fits : Message → Type 0
Fits m = (m.run < run_limit) × BodyFits m.body
