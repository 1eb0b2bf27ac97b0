-- What the drill's functions require and promise that pass over a script's lines.
-- Promises of private functions: no public contract cites this file.
use Rattle.std.specs.Prelude.{◌≡◌, cond, List, [], ◌∷◌, ℕ, ◌+◌, ◌-◌, ◌≤◌, ◌<◌, length, take, drop, eqb}
use Rattle.std.specs.Prelude.{Option, Some, None}
use Rattle.crew.specs.Parts.{most_nodes}
use Rattle.script.specs.Commands.{line_of}
use Rattle.script.specs.Lines.{newline, until}
use Rattle.script.specs.declared.Note.{Note}
use Rattle.script.specs.declared.Command.{Command}
use Rattle.print.specs.Texts.{end_line}
use Rattle.aisle.specs.declared.Setup.{Setup}
use Rattle.drill.specs.declared.Cursor.{Cursor}
use Rattle.drill.specs.Lines.{fits}
use Rattle.drill.specs.Run.{most_bytes, is_last, on_good}
use Rattle.drill.specs.Stepping.{
  lines_from,
  Turn,
  over,
  over_bad,
  on_note,
  pass_go,
  step_first,
  step_second,
  step_later,
}

-- a drill stands before a line of a script that is not too long
pub record Standing (input : List ℕ) (c : Cursor) : Type 0 where
  pub from : 1 ≤ c.line
  pub few : c.line ≤ c.at + 1
  pub inside : c.at ≤ length input
  pub small : c.state.setup.crew.n ≤ most_nodes
  pub short : length input ≤ most_bytes

-- the bytes from one place to another
abbrev pub here : List ℕ → ℕ → ℕ → List ℕ
here input at end = take (end - at) (drop at input)

-- a line that begins at a place, without the byte 10 that ends it
pub record LineAt (input : List ℕ) (at : ℕ) (line : List ℕ) : Type 0 where
  pub end : ℕ
  pub found : end ≡ at + until newline (drop at input)
  pub before : end < length input
  pub bytes : line ≡ here input at end

-- the cut or the say of a line, where it can wait for the coming round
abbrev pub note_of : Setup → ℕ → ℕ → Option Command → Option Note
note_of setup phase round line =
    on_good line (λ command. on_note command (λ note. cond (fits setup phase round note) (Some note) None) None) None

-- the command at which a step stops: a go, or one that cannot be done
abbrev pub passing : Cursor → List ℕ → Option Command → Turn
passing c w line = on_good line (λ command. on_note command (λ note. over_bad c) (pass_go c w)) (over_bad c)

-- what a step does once no cut or say that can wait comes first
unfoldable pub finishing : Cursor → List (List ℕ) → Turn
finishing c [] = over [] c
finishing c (w ∷ ws) =
    cond (is_last ws) (cond (eqb (length w) 0) (over end_line c) (over_bad c)) (passing c w (line_of w))

-- the cuts and says that come first are noted
pub record NotedAll (input : List ℕ) (c d : Cursor) : Type 0 where
  pub same : step_later c (lines_from input c.at) ≡ finishing d (lines_from input d.at)
  pub standing : Standing input d

-- a drill can stand behind this line
pub record Passable (c : Cursor) (line : List ℕ) : Type 0 where
  pub few : c.line ≤ c.at + 1
  pub short : c.at + length line + 1 ≤ most_bytes
  pub small : c.state.setup.crew.n ≤ most_nodes

-- a drill stands before one of the first two lines
pub record Heading (input : List ℕ) (c : Cursor) : Type 0 where
  pub standing : Standing input c
  pub head : c.line ≤ 2

-- a step over one of the first two lines
abbrev pub step_head : Cursor → List (List ℕ) → Turn
step_head c lines = cond (eqb c.line 1) (step_first c lines) (step_second c lines)
