-- When a record is sound: document 01, 'Crew and node'. Every sound record is due an answer, reached by a start or not.
use Rattle.std.specs.Prelude.{ℕ, zero, suc, ◌+◌, ◌-◌, Bool, true, not, cond, ◌&&◌, ◌||◌, List, get_or, leb, ltb, eqb}
use Rattle.wire.specs.Outcome.{is_accepted}
use Rattle.wire.specs.Sizes.{last_phase, spent_phase, history_size}
use Rattle.crew.specs.declared.Crew.{Crew}
use Rattle.crew.specs.Acceptance.{accept_of}
use Rattle.node.specs.declared.Node.{Node}

-- "crew accepted"
abbrev pub crew_accepted : Crew → Bool
crew_accepted crew = is_accepted (accept_of crew)

-- "own number below n"
abbrev pub own_known : Node → Bool
own_known d = ltb d.own d.crew.n

-- "phase 1 to 64, round 1 to 3, no round 2 in class 1, only round 1 at phase 64"
abbrev pub place_known : Node → Bool
place_known d =
    leb 1 d.phase
    && leb d.phase spent_phase
    && leb 1 d.round
    && leb d.round 3
    && not (eqb d.crew.class 1 && eqb d.round 2)
    && (eqb d.round 1 || leb d.phase last_phase)

-- "vote, base and entry 0 not 0"
abbrev pub plans_known : Node → Bool
plans_known d = leb 1 d.vote && leb 1 d.base && leb 1 (get_or d.history 0 0)

-- "stamp below phase, or equal to it in round 3; stamp 0 in class 1"
abbrev pub stamp_known : Node → Bool
stamp_known d =
    (ltb d.stamp d.phase || (eqb d.stamp d.phase && eqb d.round 3))
    && (not (eqb d.crew.class 1) || eqb d.stamp 0)

-- The first phase that is not yet selected: in round 1, before its selection, the record's own; after that the next.
abbrev pub first_unselected : Node → ℕ
first_unselected d = cond (eqb d.round 1) d.phase (d.phase + 1)

-- `count` entries from a phase on are 0
unfoldable pub empty_from : List ℕ → ℕ → ℕ → Bool
empty_from history phase zero = true
empty_from history phase (suc count) = eqb (get_or history phase 0) 0 && empty_from history (phase + 1) count

-- "entries of phases not yet selected are 0"
abbrev pub rest_empty : Node → Bool
rest_empty d = empty_from d.history (first_unselected d) (history_size - first_unselected d)

-- 01: "A record is sound when: crew accepted; own number below n; phase 1 to 64, round 1 to 3, no round 2 in class 1,
-- only round 1 at phase 64; vote, base and entry 0 not 0; stamp below phase, or equal to it in round 3; stamp 0 in
-- class 1; entries of phases not yet selected are 0."
unfoldable pub sound : Node → Bool
sound d = crew_accepted d.crew && own_known d && place_known d && plans_known d && stamp_known d && rest_empty d
