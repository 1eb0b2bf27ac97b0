-- In `Cursor::note_all` a line is a cut or a say that is noted, or the step ends before it: the lemmas of Noted.antt.
use mathlib.Core.Path.{◌≡◌, refl, sym, ◌∙◌}
use Rattle.drill.specs.Stepping.{behind_note}
use Rattle.drill.proofs.Pieces.{found_there}
use Rattle.drill.proofs.Noted.{unended_finishes, other_finishes, goes_on, goes_standing}
use Rattle.drill.proofs.Cursor.note_all.Goals as goal

pub returns-in_default-note_of : goal.returns-in_default-note_of
returns-in_default-note_of c =
    let turn = c.loop-line.invariant in
    let line = c.in-Some.ensures in
    let found = found_there c.args.input.now _ _ turn.standing.inside line.found in
    let other = rw line.bytes at (sym c.note_of.ensures ∙ c.in_default-note_of.is) in
    record {
      same = turn.same ∙ other_finishes c.loop-line.self _ _ found line.before other;
      standing = turn.standing;
    }

pub loop-line-preserved : goal.loop-line-preserved
loop-line-preserved c =
    let turn = c.loop-line.invariant in
    let line = c.in-Some.ensures in
    let note = c.in-Some-note_of.note in
    let found = found_there c.args.input.now _ _ turn.standing.inside line.found in
    let told = rw line.bytes at (sym c.note_of.ensures ∙ c.in-Some-note_of.is) in
    let next : c.pass.new.self ≡ behind_note c.loop-line.self c.in-Some.line.now note =
    c.pass.ensures ∙ rw (c.add_note.ensures, c.from-receiver.ensures, c.receiver_of.ensures) in
    rw (next, line.bytes)
    (record {
      same = turn.same ∙ goes_on c.loop-line.self _ _ found line.before note told;
      standing = goes_standing c.loop-line.self _ _ found line.before note told turn.standing;
    })

pub returns : goal.returns
returns c =
    let turn = c.loop-line.invariant in
    let found = found_there c.args.input.now _ _ turn.standing.inside refl in
    record {
      same = turn.same ∙ unended_finishes c.loop-line.self _ _ found c.in_default.ensures;
      standing = turn.standing;
    }
