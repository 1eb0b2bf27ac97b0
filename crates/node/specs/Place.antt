-- A node's place: the phase and the number of its coming round, and the place after a round. Document 01, 'Crew and
-- node': "round (1 selection, 2 validation, 3 decision)"; and 'The three rounds'.
use Rattle.std.specs.Prelude.{ℕ, ◌+◌, cond, eqb}

-- 01: "Class 1 goes on to round 3, the others to round 2 and then 3."; after round 3 "Phase rises by 1, round is 1."
abbrev pub round_after : ℕ → ℕ → ℕ
round_after class round = cond (eqb round 1) (cond (eqb class 1) 3 2) (cond (eqb round 2) 3 1)

abbrev pub phase_after : ℕ → ℕ → ℕ
phase_after phase round = cond (eqb round 3) (phase + 1) phase
