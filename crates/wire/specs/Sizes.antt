-- How wide a plan and a run are, and how many phases there are: document 01, 'Crew and node'. Each number stands here
-- and nowhere else in the definitions; the code has the same as constants in src/lib.rt.
use Rattle.std.specs.Prelude.{ℕ, ◌+◌, ◌^◌}

-- 01: "A plan is a two-byte number, 1 to 65,535; 0 means none."
abbrev pub plan_size : ℕ
plan_size = 2

-- one past the largest plan that has room in them
abbrev pub plan_limit : ℕ
plan_limit = 256 ^ plan_size

-- 01: "run (four bytes, any value)"
abbrev pub run_size : ℕ
run_size = 4

-- one past the largest run
abbrev pub run_limit : ℕ
run_limit = 256 ^ run_size

-- the last phase that has rounds
abbrev pub last_phase : ℕ
last_phase = 63

-- 01: "Phase 64 means spent"
abbrev pub spent_phase : ℕ
spent_phase = last_phase + 1

-- 01: "a history of 64 entries": one for each phase from 0, the time before the first, to the last
abbrev pub history_size : ℕ
history_size = last_phase + 1
