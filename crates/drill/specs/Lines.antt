-- What a line from the third on does: which are good, what each changes, and what it prints. Document 01, 'The drill'.
use Rattle.std.specs.Prelude.{ℕ, Bool, not, cond, ◌&&◌, List, [], get_or, set, ltb, leb, eqb}
use Rattle.wire.specs.Sizes.{spent_phase}
use Rattle.script.specs.declared.Note.{Note}
use Rattle.script.specs.declared.Note.TheVariants.{Cut, Say}
use Rattle.script.specs.declared.Command.{Command}
use Rattle.script.specs.declared.Command.TheVariants.{Note as Noted, Go}
use Rattle.print.specs.Texts.{result_line, nodes_shown}
use Rattle.pending.specs.declared.Pending.{Pending}
use Rattle.pending.specs.Pairs.{with_cut, with_say}
use Rattle.aisle.specs.declared.Setup.{Setup}
use Rattle.aisle.specs.declared.Moment.{Moment}
use Rattle.aisle.specs.Round.{nobody, is_in, results_of, go_of}

-- the bounds of a stamp in the message that a say stands for; 01: "t is 0 in round 2"
abbrev pub stamp_fits : ℕ → ℕ → ℕ → Bool
stamp_fits round phase stamp =
    cond (eqb round 1) (ltb stamp phase) (cond (eqb round 2) (eqb stamp 0) (leb stamp phase))

-- whether a cut or a say can wait for the coming round
abbrev pub fits : Setup → ℕ → ℕ → Note → Bool
fits setup phase round (Cut sender receiver) = ltb sender setup.crew.n && ltb receiver setup.crew.n
fits setup phase round (Say sender receiver plan stamp) =
    ltb sender setup.crew.n
    && ltb receiver setup.crew.n
    && leb 1 plan
    && not (is_in setup.honest sender)
    && stamp_fits round phase stamp
    && ltb phase spent_phase

-- A line that is not bad.
-- 01: "A bad line L (also .. a say from an honest node, a number out of the bounds above, a go or say when spent)"
abbrev pub allowed : Setup → Moment → Command → Bool
allowed setup m (Noted note) = fits setup m.phase m.round note
allowed setup m Go = ltb m.phase spent_phase

-- for whom a cut or a say waits
abbrev pub receiver_of : Note → ℕ
receiver_of (Cut sender receiver) = receiver
receiver_of (Say sender receiver plan stamp) = receiver

-- what waits for that node, with it
abbrev pub with_note : Pending → Note → Pending
with_note pending (Cut sender receiver) = with_cut pending sender
with_note pending (Say sender receiver plan stamp) = with_say pending sender plan stamp

-- what then waits for everybody
abbrev pub noted : List Pending → Note → List Pending
noted pending note = set pending (receiver_of note) (with_note (get_or pending (receiver_of note) nobody) note)

-- a moment with other cuts and says
abbrev pub holding : Moment → List Pending → Moment
holding m pending = record { phase = m.phase; round = m.round; nodes = m.nodes; pending = pending }

-- the moment after a good line
abbrev pub after : Setup → Moment → Command → Moment
after setup m (Noted note) = holding m (noted m.pending note)
after setup m Go = go_of setup m

-- what a go prints
abbrev pub go_text : Setup → Moment → List ℕ
go_text setup m =
    let n = setup.crew.n in
    result_line m.phase m.round (nodes_shown n) (results_of (go_of setup m).nodes n) setup.honest

-- what a good line prints
abbrev pub text : Setup → Moment → Command → List ℕ
text setup m (Noted note) = []
text setup m Go = go_text setup m
