-- The lines that a drill prints: document 01, 'The drill'.
use Rattle.std.specs.Prelude.{ℕ, zero, suc, ◌+◌, ◌*◌, ◌/◌, ◌%◌, ◌≤◌, Bool, false}
use Rattle.std.specs.Prelude.{cond, List, [], ◌∷◌, ◌++◌, ◌≡◌, length, get_or, leb}
use Rattle.std.proofs.lemmas.List.Edits.{sets}
use Rattle.crew.specs.Parts.{most_nodes}
use Rattle.script.specs.Lines.{space, newline}

-- From the buffer l and the place at, writing a text leaves l' and goes on to at': the text stands there as far as the
-- buffer goes, and no other byte of it has changed. Here and in the next a promise of private functions.
pub record Wrote (l : List ℕ) (at : ℕ) (text l' : List ℕ) (at' : ℕ) : Type 0 where
  pub next : at' ≡ at + length text
  pub left : l' ≡ sets l at text

-- Writing a text so, where it has no more than `most` bytes.
pub record WroteWithin (most : ℕ) (l : List ℕ) (at : ℕ) (text l' : List ℕ) (at' : ℕ) : Type 0 where
  pub wrote : Wrote l at text l' at'
  pub within : at' ≤ at + most

-- the digit of the worth p stands where the number is at least p
abbrev pub place_of : ℕ → ℕ → List ℕ
place_of v p = cond (leb p v) ((48 + v / p % 10) ∷ []) []

-- A number below 100,000, more than any that is printed: plans end at 65,535, and a script has at most 65,536 bytes.
unfoldable pub decimal_of : ℕ → List ℕ
decimal_of v = place_of v 10000 ++ (place_of v 1000 ++ (place_of v 100 ++ (place_of v 10 ++ ((48 + v % 10) ∷ []))))

-- how many digits it has at most
abbrev pub decimal_most : ℕ
decimal_most = 5

-- a space, and the node's result.
-- 01: "each node's result, `-` if not honest"
unfoldable pub field_of : Bool → ℕ → List ℕ
field_of honest result = space ∷ cond honest (decimal_of result) (45 ∷ [])

abbrev pub field_most : ℕ
field_most = 1 + decimal_most

-- of n nodes from node i on
unfoldable pub fields_from : List ℕ → List Bool → ℕ → ℕ → List ℕ
fields_from results honest i zero = []
fields_from results honest i (suc n) =
    field_of (get_or honest i false) (get_or results i 0) ++ fields_from results honest (i + 1) n

-- a line has room for the results of the largest crew
abbrev pub nodes_shown : ℕ → ℕ
nodes_shown n = cond (leb n most_nodes) n most_nodes

-- 01: "Each go prints phase, round just done, and each node's result"
unfoldable pub result_line : ℕ → ℕ → ℕ → List ℕ → List Bool → List ℕ
result_line phase round n results honest =
    decimal_of phase ++ (space ∷ (decimal_of round ++ (fields_from results honest 0 n ++ (newline ∷ []))))

-- how long the line can be, with a result for each node of the largest crew; no other line is longer
abbrev pub line_most : ℕ
line_most = decimal_most + 1 + decimal_most + field_most * most_nodes + 1

abbrev pub word_of : ℕ → ℕ → ℕ → ℕ → List ℕ
word_of w x y z = w ∷ x ∷ y ∷ z ∷ []

-- the line for a bad line of that number
unfoldable pub bad_line : ℕ → List ℕ
bad_line l = word_of 98 97 100 space ++ (decimal_of l ++ (newline ∷ []))

-- 01: "The end prints `end`."
abbrev pub end_line : List ℕ
end_line = word_of 101 110 100 newline

-- the line for a script that is too long
abbrev pub long_line : List ℕ
long_line = word_of 108 111 110 103 ++ (newline ∷ [])

-- A line is laid: it stands at the front of the buffer as far as that goes, and no other byte of it has changed; the
-- answer is the line's size, and no line is too long for a buffer of the longest.
pub record Laid (l line l' : List ℕ) (r : ℕ) : Type 0 where
  pub size : r ≡ length line
  pub left : l' ≡ sets l 0 line
  pub within : r ≤ line_most
