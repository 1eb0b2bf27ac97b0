-- Cuts and says that are noted: what a line tells that is one, and that the step from behind it is the step from it.
use mathlib.Core.Path.{◌≡◌, refl, ap, sym, ◌∙◌}
use mathlib.Core.Bool.{Bool, true, false, cond}
use Rattle.std.specs.Prelude.{Option, Some, None}
use mathlib.Core.List.{List}
use Prim.Native.Nat.{ℕ, ◌+◌, ◌<◌, ◌≤◌}
use native.Mathlib.Omega.{arith}
use lib.ListN.{length, drop}
use Rattle.script.specs.Lines.{newline}
use Rattle.script.specs.Commands.{line_of}
use Rattle.script.specs.declared.Note.{Note}
use Rattle.script.specs.declared.Command.TheVariants.{Note as Noted, Go}
use Rattle.script.specs.declared.Command.{Command}
use Rattle.aisle.specs.declared.Setup.{Setup}
use Rattle.drill.specs.declared.Cursor.{Cursor}
use Rattle.drill.specs.Lines.{fits}
use Rattle.drill.specs.Run.{on_good}
use Rattle.drill.specs.Stepping.{lines_from, Turn, over_bad, pass_go, on_note, fits_at, behind_note, step_later}
use Rattle.drill.specs.Promises.{Standing, here, note_of, passing, finishing}
use Rattle.drill.proofs.Pieces.{Found, ended, unended, split_some, here_end}
use Rattle.drill.proofs.Places.{behind_stands}

-- a line that is to be noted: it has a cut or a say, which fits
pub record Waits (setup : Setup) (phase round : ℕ) (line : Option Command) (note : Note) : Type 0 where
  pub read : line ≡ Some (Noted note)
  pub fit : fits setup phase round note ≡ true

module _ (setup : Setup) (phase round : ℕ) where
  fitting : (note found : Note) (good : Bool) → fits setup phase round found ≡ good
      → cond good (Some found) None ≡ Some note → Waits setup phase round (Some (Noted found)) note
  fitting note found true fit e =
      let same : found ≡ note = cc e in
      record { read = ap (λ (n : Note). Some (Noted n)) same; fit = rw (← same) fit }
  fitting note found false fit e = cc e

  noted_note : (line : Option Command) (note : Note) → note_of setup phase round line ≡ Some note
      → Waits setup phase round line note
  noted_note (Some (Noted found)) note e = fitting note found (fits setup phase round found) refl e
  noted_note (Some Go) note e = cc e
  noted_note None note e = cc e

-- what is noted of a line where a drill stands
abbrev noted_at : Cursor → Option Command → Option Note
noted_at c = note_of c.state.setup c.state.moment.phase c.state.moment.round

module _ (c : Cursor) (w : List ℕ) (ws : List (List ℕ)) where
  -- what a step does from an ended line on
  abbrev pub step_line : Option Command → Turn
  step_line line =
      on_good line
      (λ command.
      on_note command
      (λ note. cond (fits_at c note) (step_later (behind_note c w note) ws) (over_bad c))
      (pass_go c w))
      (over_bad c)

  unfit : (note : Note) (good : Bool) → fits_at c note ≡ good → cond good (Some note) None ≡ None
      → cond good (step_later (behind_note c w note) ws) (over_bad c) ≡ over_bad c
  unfit note true fit e = cc e
  unfit note false fit e = refl

  -- a line that is not noted is the last of its step
  other_last : (line : Option Command) → noted_at c line ≡ None → step_line line ≡ passing c w line
  other_last (Some (Noted note)) e = unfit note (fits_at c note) refl e
  other_last (Some Go) e = refl
  other_last None e = refl

  -- one that is noted is not
  note_behind : (line : Option Command) (note : Note)
      → Waits c.state.setup c.state.moment.phase c.state.moment.round line note
      → step_line line ≡ step_later (behind_note c w note) ws
  note_behind line note is = rw (is.read, is.fit)

-- the step from a cursor, by the line that is found there
module _ (c : Cursor) (input : List ℕ) (e : ℕ) (line : Found input c.at e) where
  pub unended_finishes : length input ≤ e
      → step_later c (lines_from input c.at) ≡ finishing c (lines_from input c.at)
  unfolding step_later finishing
  unended_finishes h = rw (unended line h)

  module _ (before : e < length input) where
    abbrev word : List ℕ
    word = here input c.at e

    abbrev behind : List (List ℕ)
    behind = lines_from input (e + 1)

    pub other_finishes : noted_at c (line_of word) ≡ None
        → step_later c (lines_from input c.at) ≡ finishing c (lines_from input c.at)
    unfolding step_later finishing
    other_finishes other =
        rw (ended line before, split_some newline (drop (e + 1) input)) (other_last c word behind (line_of word) other)

    pub note_goes_on : (note : Note) → noted_at c (line_of word) ≡ Some note
        → step_later c (lines_from input c.at) ≡ step_later (behind_note c word note) behind
    unfolding step_later
    note_goes_on note is =
        rw (ended line before, split_some newline (drop (e + 1) input))
        (note_behind c word behind (line_of word) note (noted_note _ _ _ (line_of word) note is))

-- the drill goes on behind a line that is noted
module _ (c : Cursor) (input : List ℕ) (e : ℕ) (found : Found input c.at e) (before : e < length input) (note : Note)
    (told : noted_at c (line_of (here input c.at e)) ≡ Some note) where
  abbrev next : Cursor
  next = behind_note c (here input c.at e) note

  pub goes_on : step_later c (lines_from input c.at) ≡ step_later next (lines_from input next.at)
  goes_on =
      note_goes_on c input e found before note told
      ∙ ap (λ (at : ℕ). step_later next (lines_from input at)) (sym (here_end found))

  pub goes_standing : Standing input c → Standing input next
  goes_standing facts =
      let inside : c.at + length (here input c.at e) + 1 ≤ length input = rw (here_end found) (omega arith) in
      behind_stands input c facts (here input c.at e) next.state inside facts.small
