-- What the lines of a script ask for: document 01, 'The drill', and 02, C-13.
use Rattle.std.specs.Prelude.{ℕ, Bool, cond, ◌&&◌, List, [], Option, Some, None}
use Rattle.std.specs.Prelude.{◌∷◌, length, get_or, drop, leb, eqb}
use Rattle.std.specs.Option.{option_and_then}
use Rattle.crew.specs.declared.Crew.{Crew}
use Rattle.crew.specs.Parts.{crew_of}
use Rattle.script.specs.Lines.{space}
use Rattle.script.specs.Fields.{numbers_on, starts}
use Rattle.script.specs.declared.Numbers.{Numbers}
use Rattle.script.specs.declared.Note.TheVariants.{Cut, Say}
use Rattle.script.specs.declared.Command.{Command}
use Rattle.script.specs.declared.Command.TheVariants.{Note, Go}

-- the number at place i of a line
abbrev pub nth : Numbers → ℕ → ℕ
nth w i = get_or w.values i 0

-- a line of k numbers
abbrev pub has : Numbers → ℕ → Bool
has w k = eqb w.count k

-- the number at place i is one byte
abbrev pub byte : Numbers → ℕ → Bool
byte w i = leb (nth w i) 255

-- a crew of six numbers, each of one byte
abbrev pub crew_on : Numbers → Option Crew
crew_on w =
    cond (has w 6 && byte w 0 && byte w 1 && byte w 2 && byte w 3 && byte w 4 && byte w 5)
    (Some (crew_of (nth w 0) (nth w 1) (nth w 2) (nth w 3) (nth w 4) (nth w 5))) None

-- 01: "Line 1: class n b f D."; 02: "The drill's line 1 takes c as a sixth field."; each is one byte
abbrev pub crew_line_of : Option Numbers → Option Crew
crew_line_of w = option_and_then crew_on w

-- 01: "Line 2: n initial plans"
abbrev pub plans_of : Option Numbers → ℕ → Option (List ℕ)
plans_of w n = option_and_then (λ (w : Numbers). cond (has w n) (Some w.values) None) w

-- a cut; a node's number is one byte
abbrev pub cut_on : Numbers → Option Command
cut_on w = cond (has w 2 && byte w 0 && byte w 1) (Some (Note (Cut (nth w 0) (nth w 1)))) None

abbrev pub cut_of : Option Numbers → Option Command
cut_of w = option_and_then cut_on w

-- a say; a stamp is one byte as well
abbrev pub say_on : Numbers → Option Command
say_on w =
    cond (has w 4 && byte w 0 && byte w 1 && byte w 3)
    (Some (Note (Say (nth w 0) (nth w 1) (nth w 2) (nth w 3))))
    None

abbrev pub say_of : Option Numbers → Option Command
say_of w = option_and_then say_on w

-- "cut "
abbrev pub cut_word : List ℕ
cut_word = 99 ∷ 117 ∷ 116 ∷ space ∷ []

-- "say "
abbrev pub say_word : List ℕ
say_word = 115 ∷ 97 ∷ 121 ∷ space ∷ []

-- "go"
abbrev pub go_word : List ℕ
go_word = 103 ∷ 111 ∷ []

-- 01: "Then `cut s r` .., `say s r v t` .., or `go`."
unfoldable pub line_of : List ℕ → Option Command
line_of l =
    cond (starts cut_word l) (cut_of (numbers_on (drop 4 l)))
    (cond (starts say_word l) (say_of (numbers_on (drop 4 l)))
    (cond (starts go_word l && eqb (length l) 2) (Some Go) None))
