-- A drill step by step: where it stands in a script, what a step prints and where it goes, and what is still to come.
-- proofs/Whole.antt: what is to come is a step's text and what is to come after it, and from the start all of it is
-- `drill_of`.
use Rattle.std.specs.Prelude.{
  ◌≡◌,
  ℕ,
  zero,
  suc,
  ◌+◌,
  ◌-◌,
  ◌≤◌,
  Bool,
  cond,
  ◌&&◌,
  List,
  [],
  ◌∷◌,
  ◌++◌,
  length,
  drop,
  replicate,
  leb,
  ltb,
  eqb,
  Option,
}
use Rattle.std.proofs.lemmas.List.Edits.{sets}
use Rattle.wire.specs.Outcome.{is_accepted}
use Rattle.wire.specs.Sizes.{spent_phase}
use Rattle.crew.specs.Parts.{most_nodes, blank_crew}
use Rattle.crew.specs.declared.Crew.{Crew}
use Rattle.crew.specs.Acceptance.{accept_of}
use Rattle.script.specs.Lines.{newline, split}
use Rattle.script.specs.Fields.{numbers_on}
use Rattle.script.specs.Commands.{line_of, crew_line_of, plans_of}
use Rattle.script.specs.declared.Note.{Note}
use Rattle.script.specs.declared.Command.{Command}
use Rattle.script.specs.declared.Command.TheVariants.{Note as Noted, Go}
use Rattle.print.specs.Texts.{line_most, bad_line, end_line, long_line}
use Rattle.aisle.specs.declared.Moment.{Moment}
use Rattle.aisle.specs.declared.State.{State}
use Rattle.aisle.specs.Round.{go_of}
use Rattle.aisle.specs.Start.{begun_of}
use Rattle.drill.specs.declared.Cursor.{Cursor}
use Rattle.drill.specs.Lines.{fits, noted, holding, go_text}
use Rattle.drill.specs.Run.{most_bytes, is_last, on_good, follow, second, first}

-- the pieces of a script from a place on
abbrev pub lines_from : List ℕ → ℕ → List (List ℕ)
lines_from input at = split newline (drop at input)

-- an aisle before line 2: nobody is honest in it
abbrev pub unmanned : List ℕ
unmanned = replicate most_nodes 0

-- before line 1
unfoldable pub outset : Cursor
outset = record { at = 0; line = 1; state = begun_of blank_crew unmanned }

-- Whether a drill can stand there before a line: each line that it has passed had its byte 10 at least, and each node
-- of its crew has a place.
abbrev pub stands : List ℕ → Cursor → Bool
stands input c =
    leb 1 c.line
    && leb c.line (c.at + 1)
    && leb c.at (length input)
    && leb c.state.setup.crew.n most_nodes

-- what the lines from a cursor on print
abbrev pub onward : Cursor → List (List ℕ) → List ℕ
onward c lines =
    cond (eqb c.line 1) (first lines)
    (cond (eqb c.line 2) (second c.state.setup.crew lines)
    (follow c.state.setup c.state.moment c.line lines))

-- What is still to come: nothing where no drill can stand, and where a drill is over.
unfoldable pub rest : List ℕ → Cursor → List ℕ
rest input c =
    cond (stands input c)
    (cond (ltb most_bytes (length input)) long_line (onward c (lines_from input c.at)))
    []

-- a step's text, and where the drill stands after it
pub record Turn : Type 0 where
  pub text : List ℕ
  pub next : Cursor

-- a drill that is over: no line comes any more
abbrev pub stopped : Cursor → Cursor
stopped c = record { at = c.at; line = 0; state = c.state }

-- a step after which the drill is over
abbrev pub over : List ℕ → Cursor → Turn
over text c = record { text = text; next = stopped c }

abbrev pub over_bad : Cursor → Turn
over_bad c = over (bad_line c.line) c

-- a cursor behind its line, with another state
abbrev pub behind : Cursor → List ℕ → State → Cursor
behind c line state = record { at = c.at + length line + 1; line = c.line + 1; state = state }

-- the same drill at another moment
abbrev pub moved : State → Moment → State
moved state m = record { setup = state.setup; moment = m }

-- a step over line 1
abbrev pub pass_crew : Cursor → List ℕ → Option Crew → Turn
pass_crew c line read =
    on_good read
    (λ crew.
    cond (is_accepted (accept_of crew))
    (record { text = []; next = behind c line (begun_of crew unmanned) })
    (over_bad c))
    (over_bad c)

unfoldable pub step_first : Cursor → List (List ℕ) → Turn
step_first c [] = over [] c
step_first c (w ∷ ws) = cond (is_last ws) (over_bad c) (pass_crew c w (crew_line_of (numbers_on w)))

-- a step over line 2
abbrev pub pass_plans : Cursor → List ℕ → Option (List ℕ) → Turn
pass_plans c line read =
    on_good read
    (λ plans. record { text = []; next = behind c line (begun_of c.state.setup.crew plans) })
    (over_bad c)

unfoldable pub step_second : Cursor → List (List ℕ) → Turn
step_second c [] = over [] c
step_second c (w ∷ ws) =
    cond (is_last ws) (over_bad c) (pass_plans c w (plans_of (numbers_on w) c.state.setup.crew.n))

-- whether a cut or a say can wait where a drill stands
abbrev pub fits_at : Cursor → Note → Bool
fits_at c note = fits c.state.setup c.state.moment.phase c.state.moment.round note

-- behind a line with a cut or a say
abbrev pub behind_note : Cursor → List ℕ → Note → Cursor
behind_note c line note =
    let m = c.state.moment in
    behind c line (moved c.state (holding m (noted m.pending note)))

-- a step over a go
abbrev pub pass_go : Cursor → List ℕ → Turn
pass_go c line =
    let setup = c.state.setup in
    let m = c.state.moment in
    cond (ltb m.phase spent_phase)
    (record { text = go_text setup m; next = behind c line (moved c.state (go_of setup m)) })
    (over_bad c)

-- a command by whether it is a cut or a say
abbrev pub on_note : {A : Type 0} → Command → (Note → A) → A → A
on_note (Noted note) noting go = noting note
on_note Go noting go = go

-- A step from line 3 on: the cuts and says that come first are noted, and then one line more is passed.
unfoldable pub step_later : Cursor → List (List ℕ) → Turn
step_later c [] = over [] c
step_later c (w ∷ ws) =
    cond (is_last ws)
    (cond (eqb (length w) 0) (over end_line c) (over_bad c))
    (on_good (line_of w)
    (λ command.
    on_note command
    (λ note. cond (fits_at c note) (step_later (behind_note c w note) ws) (over_bad c))
    (pass_go c w))
    (over_bad c))

-- a step
unfoldable pub step_of : List ℕ → Cursor → Turn
step_of input c =
    let lines = lines_from input c.at in
    cond (stands input c)
    (cond (ltb most_bytes (length input)) (over long_line c)
    (cond (eqb c.line 1) (step_first c lines)
    (cond (eqb c.line 2) (step_second c lines) (step_later c lines))))
    (over [] c)

-- A step is made: the drill stands behind it, its text stands at the front of the lent buffer as far as that goes, and
-- no other byte of it has changed; the answer is the text's size. No text is too long for a buffer of one line.
pub record Stepped (turn : Turn) (c : Cursor) (buffer buffer' : List ℕ) (r : ℕ) : Type 0 where
  pub next : c ≡ turn.next
  pub size : r ≡ length turn.text
  pub left : buffer' ≡ sets buffer 0 turn.text
  pub within : r ≤ line_most

-- The step from a cursor is made, and what is still to come splits: it is the step's text, and what is to come after.
pub record SteppedFrom (input : List ℕ) (c next : Cursor) (buffer buffer' : List ℕ) (r : ℕ) : Type 0 where
  pub made : Stepped (step_of input c) next buffer buffer' r
  pub splits : rest input c ≡ (step_of input c).text ++ rest input next

-- the texts of the first k steps from a cursor, joined
unfoldable pub texts_of : List ℕ → Cursor → ℕ → List ℕ
texts_of input c zero = []
texts_of input c (suc k) = (step_of input c).text ++ texts_of input (step_of input c).next k

-- How much of a script lies before a drill: the bytes from its place on, and the end; nothing where it is over.
abbrev pub way : List ℕ → Cursor → ℕ
way input c = cond (eqb c.line 0) 0 (length input - c.at + 1)
