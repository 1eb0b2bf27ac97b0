-- Where a line ends, and the pieces of a list between the places of a byte: document 01, 'The drill'.
use Rattle.std.specs.Prelude.{ℕ, suc, cond, List, [], ◌∷◌, eqb}

-- the bytes that part a line's fields and end the line
abbrev pub space : ℕ
space = 32

abbrev pub newline : ℕ
newline = 10

-- how many elements stand before the first b
unfoldable pub until : ℕ → List ℕ → ℕ
until b [] = 0
until b (x ∷ l) = cond (eqb x b) 0 (suc (until b l))

-- x in front of the first piece
unfoldable pub onto : ℕ → List (List ℕ) → List (List ℕ)
onto x [] = (x ∷ []) ∷ []
onto x (w ∷ ws) = (x ∷ w) ∷ ws

-- The pieces between the places of b: one more than there are such places. Of a script cut at byte 10 each piece but
-- the last is a line, and the last is what stands after the last line: nothing, or a line that is not ended.
-- 01: "each line ends in byte 10"
unfoldable pub split : ℕ → List ℕ → List (List ℕ)
split b [] = [] ∷ []
split b (x ∷ l) = cond (eqb x b) ([] ∷ split b l) (onto x (split b l))
