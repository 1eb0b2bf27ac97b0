-- Decimal fields: document 01, 'The drill'.
use Rattle.std.specs.Prelude.{ℕ, ◌+◌, ◌*◌, ◌-◌, Bool, true, false, cond, ◌&&◌, Option, Some, None}
use Rattle.std.specs.Prelude.{List, [], ◌∷◌, length, get_or, set, replicate, leb, eqb}
use Rattle.std.specs.Option.{option_and_then}
use Rattle.wire.specs.Sizes.{plan_limit}
use Rattle.crew.specs.Parts.{most_nodes}
use Rattle.script.specs.Lines.{space, split}
use Rattle.script.specs.declared.Numbers.{Numbers}

-- No bound of a script is above the largest plan, so a larger number is as bad as a byte that is no digit.
abbrev pub largest : ℕ
largest = plan_limit - 1

-- no line has more numbers: line 2 has one for each node
abbrev pub most_numbers : ℕ
most_numbers = most_nodes

-- a digit's value
abbrev pub digit_of : ℕ → Option ℕ
digit_of c = cond (leb 48 c && leb c 57) (Some (c - 48)) None

-- a number that is one byte
abbrev pub byte_of : ℕ → Option ℕ
byte_of v = cond (leb v 255) (Some v) None

-- the number whose first digits have the value a: none at a byte that is no digit, and beyond `most`
unfoldable pub value_from : ℕ → ℕ → List ℕ → Option ℕ
value_from most a [] = Some a
value_from most a (c ∷ cs) =
    option_and_then (λ d. cond (leb (10 * a + d) most) (value_from most (10 * a + d) cs) None) (digit_of c)

-- A field of at most `most`: not empty, and no zero before other digits.
-- 01: "Fields are decimal without leading zeros"
unfoldable pub number_of : ℕ → List ℕ → Option ℕ
number_of most w =
    cond (eqb (length w) 0) None
    (cond (leb 2 (length w) && eqb (get_or w 0 0) 48) None (value_from most 0 w))

-- The fields' numbers, laid from place k on: none where a field is no number, or there are too many of them.
unfoldable pub numbers_from : List (List ℕ) → ℕ → List ℕ → Option Numbers
numbers_from [] k values = Some (record { count = k; values = values })
numbers_from (w ∷ ws) k values =
    option_and_then
    (λ v. cond (leb most_numbers k) None (numbers_from ws (k + 1) (set values k v)))
    (number_of largest w)

-- 01: "parted by one space"
abbrev pub numbers_on : List ℕ → Option Numbers
numbers_on l = numbers_from (split space l) 0 (replicate most_numbers 0)

-- the list begins with the word
unfoldable pub starts : List ℕ → List ℕ → Bool
starts [] l = true
starts (c ∷ cs) [] = false
starts (c ∷ cs) (x ∷ l) = eqb x c && starts cs l
