-- What a whole script prints, from its bytes to the output's bytes: document 01, 'The drill'.
use Rattle.std.specs.Prelude.{ℕ, ◌+◌, Bool, true, false, cond, List, [], ◌∷◌, ◌++◌, length, ltb, eqb}
use Rattle.std.specs.Prelude.{Option, Some, None}
use Rattle.wire.specs.Outcome.{is_accepted}
use Rattle.crew.specs.declared.Crew.{Crew}
use Rattle.crew.specs.Acceptance.{accept_of}
use Rattle.script.specs.Lines.{newline, split}
use Rattle.script.specs.Fields.{numbers_on}
use Rattle.script.specs.Commands.{line_of, crew_line_of, plans_of}
use Rattle.print.specs.Texts.{bad_line, end_line, long_line}
use Rattle.aisle.specs.declared.Setup.{Setup}
use Rattle.aisle.specs.declared.Moment.{Moment}
use Rattle.aisle.specs.declared.State.{State}
use Rattle.aisle.specs.Start.{begun_of}
use Rattle.drill.specs.Lines.{allowed, after, text}

-- a script has at most so many bytes
abbrev pub most_bytes : ℕ
most_bytes = 65536

-- Of the pieces that a script has between its bytes 10 the last is not a line: it is empty, or an unended line.
abbrev pub is_last : List (List ℕ) → Bool
is_last [] = true
is_last (w ∷ ws) = false

-- a line by what it says, or bad
abbrev pub on_good : {A B : Type 0} → Option B → (B → A) → A → A
on_good (Some said) good bad = good said
on_good None good bad = bad

-- The lines from number l on.
-- 01: "A bad line L (also a missing, empty or unended one ..) prints `bad L` and stops, without `end`."
unfoldable pub follow : Setup → Moment → ℕ → List (List ℕ) → List ℕ
follow setup m l [] = []
follow setup m l (w ∷ ws) =
    cond (is_last ws)
    (cond (eqb (length w) 0) end_line (bad_line l))
    (on_good (line_of w)
    (λ command.
    cond (allowed setup m command)
    (text setup m command ++ follow setup (after setup m command) (l + 1) ws)
    (bad_line l))
    (bad_line l))

-- the lines from line 3 on
abbrev pub third : State → List (List ℕ) → List ℕ
third state = follow state.setup state.moment 3

-- the lines from line 2 on
unfoldable pub second : Crew → List (List ℕ) → List ℕ
second crew [] = []
second crew (w ∷ ws) =
    cond (is_last ws) (bad_line 2)
    (on_good (plans_of (numbers_on w) crew.n) (λ plans. third (begun_of crew plans) ws) (bad_line 2))

-- the rest of a script by what its line 1 says
abbrev pub crewed : Option Crew → List (List ℕ) → List ℕ
crewed line ws = on_good line (λ crew. cond (is_accepted (accept_of crew)) (second crew ws) (bad_line 1)) (bad_line 1)

unfoldable pub first : List (List ℕ) → List ℕ
first [] = []
first (w ∷ ws) = cond (is_last ws) (bad_line 1) (crewed (crew_line_of (numbers_on w)) ws)

-- The whole output.
-- 01: "It reads standard input (over 65,536 bytes: prints `long` only)."
unfoldable pub drill_of : List ℕ → List ℕ
drill_of input = cond (ltb most_bytes (length input)) long_line (first (split newline input))
