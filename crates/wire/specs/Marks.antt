-- A mark for each node, in one number: document 02, C-24.
use Rattle.std.specs.Prelude.{ℕ, zero, suc, ◌+◌, ◌/◌, ◌%◌, ◌^◌, Bool, cond, eqb}

-- 02: "marks as one number, node q its bit of weight 2 to the q"
abbrev pub marked : ℕ → ℕ → Bool
marked q marks = eqb (marks / 2 ^ q % 2) 1

-- the number in which of the first n nodes these are marked, and no other node is
unfoldable pub marks_of : (ℕ → Bool) → ℕ → ℕ
marks_of which zero = 0
marks_of which (suc n) = marks_of which n + cond (which n) (2 ^ n) 0
