-- Steps as they are made: one that prints nothing, one that prints a line, and what a step is by the line that is
-- found.
use mathlib.Core.Path.{◌≡◌, refl, ◌∙◌}
use mathlib.Core.Bool.{Bool, true, false, cond}
use mathlib.Core.List.{List, []}
use Prim.Native.Nat.{ℕ, ◌+◌, ◌<◌, ◌≤◌}
use native.Mathlib.Omega.{arith}
use lib.ListN.{length, drop}
use lib.Dec.{eqb}
use borrow.Author.Tests.{eq-eqb, ne_eqb, eqb-false, lt-ltb, le-ltb}
use Rattle.script.specs.Lines.{newline}
use Rattle.script.specs.Fields.{numbers_on}
use Rattle.script.specs.Commands.{line_of, crew_line_of, plans_of}
use Rattle.print.specs.Texts.{Laid, end_line, long_line}
use Rattle.drill.specs.declared.Cursor.{Cursor}
use Rattle.drill.specs.Run.{most_bytes}
use Rattle.drill.specs.Stepping.{
  lines_from,
  stands,
  Stepped,
  over,
  over_bad,
  pass_crew,
  pass_plans,
  step_first,
  step_second,
  step_later,
  step_of,
}
use Rattle.drill.specs.Promises.{Standing, here, passing, finishing, step_head}
use Rattle.drill.proofs.Pieces.{Found, ended, unended, within, split_some, here_long}
use Rattle.drill.proofs.Places.{standing_test}

-- a step that prints nothing
pub silent : {next got : Cursor} {buffer : List ℕ} → got ≡ next
    → Stepped (record { text = []; next = next }) got buffer buffer 0
silent e = record { next = e; size = refl; left = refl; within = omega arith }

-- one that prints a line
pub printed : {next got : Cursor} {line buffer buffer' : List ℕ} {size : ℕ} → Laid buffer line buffer' size
    → got ≡ next → Stepped (record { text = line; next = next }) got buffer buffer' size
printed laid e = record { next = e; size = laid.size; left = laid.left; within = laid.within }

module _ (c : Cursor) (input : List ℕ) (e : ℕ) (line : Found input c.at e) where
  abbrev word : List ℕ
  word = here input c.at e

  module _ (before : e < length input) where
    pub finish_ended : finishing c (lines_from input c.at) ≡ passing c word (line_of word)
    unfolding finishing
    finish_ended = rw (ended line before, split_some newline (drop (e + 1) input))

    pub first_ended : step_first c (lines_from input c.at) ≡ pass_crew c word (crew_line_of (numbers_on word))
    unfolding step_first
    first_ended = rw (ended line before, split_some newline (drop (e + 1) input))

    pub second_ended : step_second c (lines_from input c.at)
        ≡ pass_plans c word (plans_of (numbers_on word) c.state.setup.crew.n)
    unfolding step_second
    second_ended = rw (ended line before, split_some newline (drop (e + 1) input))

  module _ (behind : length input ≤ e) where
    pub finish_end : c.at ≡ length input → finishing c (lines_from input c.at) ≡ over end_line c
    unfolding finishing
    finish_end at =
        rw (unended line behind, eq-eqb (length word) 0 (omega (arith, here_long line, within line)))

    pub finish_unended : (c.at ≡ length input → ⊥) → finishing c (lines_from input c.at) ≡ over_bad c
    unfolding finishing
    finish_unended at =
        rw (unended line behind, ne_eqb (length word) 0 (λ z. at (omega (arith, here_long line))))

    pub first_unended : step_first c (lines_from input c.at) ≡ over_bad c
    unfolding step_first
    first_unended = rw (unended line behind)

    pub second_unended : step_second c (lines_from input c.at) ≡ over_bad c
    unfolding step_second
    second_unended = rw (unended line behind)

    pub head_unended : step_head c (lines_from input c.at) ≡ over_bad c
    head_unended = go (eqb c.line 1)
      where
        go : (one : Bool)
            → cond one (step_first c (lines_from input c.at)) (step_second c (lines_from input c.at)) ≡ over_bad c
        go true = first_unended
        go false = second_unended

-- a step, by where the drill stands
module _ (input : List ℕ) (c : Cursor) where
  pub step_nowhere : stands input c ≡ false → step_of input c ≡ over [] c
  unfolding step_of
  step_nowhere test = rw test

  pub step_long : stands input c ≡ true → most_bytes < length input → step_of input c ≡ over long_line c
  unfolding step_of
  step_long test long = rw (test, lt-ltb most_bytes (length input) long)

  module _ (facts : Standing input c) where
    step_short : step_of input c
        ≡ cond (eqb c.line 1) (step_first c (lines_from input c.at))
        (cond (eqb c.line 2) (step_second c (lines_from input c.at)) (step_later c (lines_from input c.at)))
    unfolding step_of
    step_short = rw (standing_test input c facts, le-ltb most_bytes (length input) facts.short)

    pub step_head_lem : c.line ≤ 2 → step_of input c ≡ step_head c (lines_from input c.at)
    step_head_lem head = step_short ∙ go (eqb c.line 1) (eqb c.line 2) refl refl
      where
        go : (one two : Bool) → eqb c.line 1 ≡ one → eqb c.line 2 ≡ two
            → cond one (step_first c (lines_from input c.at))
            (cond two (step_second c (lines_from input c.at)) (step_later c (lines_from input c.at)))
            ≡ cond one (step_first c (lines_from input c.at)) (step_second c (lines_from input c.at))
        go true two e₁ e₂ = refl
        go false true e₁ e₂ = refl
        go false false e₁ e₂ =
            absurd (omega (arith, facts.from, eqb-false c.line 1 e₁, eqb-false c.line 2 e₂))

    pub step_later_lem : 2 < c.line → step_of input c ≡ step_later c (lines_from input c.at)
    step_later_lem late =
        step_short ∙ rw (ne_eqb c.line 1 (λ e. omega arith), ne_eqb c.line 2 (λ e. omega arith))
