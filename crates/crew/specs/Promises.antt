-- The group of a phase by its first node: a row of nodes, round the end of the crew.
-- Promises of private functions: no public contract cites this file.
use Rattle.std.specs.Prelude.{ℕ, ◌+◌, Bool, ◌&&◌, ◌||◌, leb, ltb}
use Rattle.crew.specs.declared.Crew.{Crew}

-- q is one of `count` numbers from the first on, where 0 comes after n − 1
abbrev pub row : (n first count q : ℕ) → Bool
row n first count q = (leb first q && ltb q (first + count)) || ltb (q + n) (first + count)

-- node q is one of the c from the first on
abbrev pub in_row : Crew → (first q : ℕ) → Bool
in_row crew first q = ltb q crew.n && row crew.n first crew.c q
