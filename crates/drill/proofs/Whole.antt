-- What is still to come is a step's text and what is to come after the step; every step goes on in the script; so from
-- the start the texts of all steps are what the whole script prints.
use mathlib.Core.Path.{◌≡◌, refl, ap, sym, ◌∙◌}
use mathlib.Core.Bool.{Bool, true, false, cond}
use mathlib.Core.List.{List, [], ◌∷◌, ◌++◌, append-nil}
use Rattle.std.specs.Prelude.{Option, Some, None}
use Prim.Native.Nat.{ℕ, zero, suc, ◌+◌, ◌<◌, ◌≤◌}
use native.Mathlib.Omega.{arith}
use lib.ListN.{length}
use lib.Dec.{ltb, eqb}
use borrow.Author.Tests.{ne_eqb, eqb-true, eqb-false, le-leb, ltb-false}
use Rattle.wire.specs.Outcome.{is_accepted}
use Rattle.wire.specs.Sizes.{spent_phase}
use Rattle.wire.proofs.Outcomes.{accepted_is}
use Rattle.crew.specs.declared.Crew.{Crew}
use Rattle.crew.specs.Parts.{most_nodes}
use Rattle.crew.specs.Acceptance.{accept_of}
use Rattle.crew.proofs.Facts.{accepts}
use Rattle.script.specs.Fields.{numbers_on}
use Rattle.script.specs.Commands.{line_of, crew_line_of, plans_of}
use Rattle.script.specs.declared.Note.{Note}
use Rattle.script.specs.declared.Command.TheVariants.{Note as Noted, Go}
use Rattle.script.specs.declared.Command.{Command}
use Rattle.print.specs.Texts.{bad_line, end_line, long_line}
use Rattle.aisle.specs.declared.State.{State}
use Rattle.aisle.specs.Round.{go_of}
use Rattle.aisle.specs.Start.{begun_of}
use Rattle.drill.specs.declared.Cursor.{Cursor}
use Rattle.drill.specs.Lines.{allowed, after, text, go_text}
use Rattle.drill.specs.Run.{most_bytes, is_last, on_good, follow, third, second, crewed, first, drill_of}
use Rattle.drill.specs.Stepping.{
  lines_from,
  unmanned,
  outset,
  stands,
  onward,
  rest,
  Turn,
  over,
  over_bad,
  behind,
  behind_note,
  fits_at,
  pass_crew,
  pass_plans,
  step_first,
  step_second,
  step_later,
  step_of,
  Stepped,
  SteppedFrom,
  texts_of,
  way,
}
use Rattle.drill.specs.Promises.{Standing}
use Rattle.drill.proofs.Pieces.{behind_line}
use Rattle.drill.proofs.Noted.{step_line}
use Rattle.drill.proofs.Places.{is_standing, rest_onward, behind_stands}

-- behind a step the drill is over, or it stands further on
pub data Ahead (input : List ℕ) (c next : Cursor) : Type 0 where
  finished : next.line ≡ 0 → Ahead input c next
  further : c.at < next.at → Standing input next → Ahead input c next

-- A turn is right where `come` was still to come: its text comes first and the rest after it.
pub record Right (input : List ℕ) (c : Cursor) (come : List ℕ) (turn : Turn) : Type 0 where
  pub splits : come ≡ turn.text ++ rest input turn.next
  pub ahead : Ahead input c turn.next

-- an accepted crew has no more nodes than the largest
crew_small : (crew : Crew) → is_accepted (accept_of crew) ≡ true → crew.n ≤ most_nodes
crew_small crew e = (accepts crew (accepted_is (accept_of crew) e)).quorum.size_to

begun_small : (crew : Crew) (plans : List ℕ) → crew.n ≤ most_nodes → (begun_of crew plans).setup.crew.n ≤ most_nodes
unfolding begun_of
begun_small crew plans h = h

module _ (input : List ℕ) where
  -- where the drill is over nothing is to come
  over_right : (c : Cursor) (text : List ℕ) → Right input c text (over text c)
  unfolding rest
  over_right c text = record { splits = sym (append-nil text); ahead = finished refl }

  module _ (c : Cursor) (facts : Standing input c) where
    -- a line is passed: the pieces behind it are to come
    passed_right : (w : List ℕ) (ws : List (List ℕ)) → lines_from input c.at ≡ w ∷ ws → is_last ws ≡ false
        → (state : State) → state.setup.crew.n ≤ most_nodes → (text later : List ℕ)
        → later ≡ onward (behind c w state) ws
        → Right input c (text ++ later) (record { text = text; next = behind c w state })
    passed_right w ws lines more state small text later is =
        let next = behind_line input c.at w ws facts.inside lines more in
        let stands-next = behind_stands input c facts w state next.inside small in
        let come : rest input (behind c w state) ≡ later =
        rest_onward input (behind c w state) stands-next
        ∙ ap (onward (behind c w state)) next.lines ∙ sym is in
        record { splits = ap (λ (l : List ℕ). text ++ l) (sym come); ahead = further (omega arith) stands-next }

-- from line 3 on
onward_later : (c : Cursor) (ws : List (List ℕ)) → 3 ≤ c.line
    → onward c ws ≡ follow c.state.setup c.state.moment c.line ws
onward_later c ws h = rw (ne_eqb c.line 1 (λ e. omega arith), ne_eqb c.line 2 (λ e. omega arith))

-- a turn from further on is one from here
right_before : (input : List ℕ) (c d : Cursor) (come : List ℕ) (turn : Turn) → c.at ≤ d.at
    → Right input d come turn → Right input c come turn
right_before input c d come turn less right = record { splits = right.splits; ahead = go right.ahead }
  where
    go : Ahead input d turn.next → Ahead input c turn.next
    go (finished e) = finished e
    go (further more stands-next) = further (omega arith) stands-next

-- what an ended line from line 3 on prints, and those after it
abbrev follow_line : Cursor → List (List ℕ) → Option Command → List ℕ
follow_line c ws line =
    let setup = c.state.setup in
    let m = c.state.moment in
    on_good line
    (λ command.
    cond (allowed setup m command)
    (text setup m command ++ follow setup (after setup m command) (c.line + 1) ws)
    (bad_line c.line))
    (bad_line c.line)

-- what the lines from line 3 on print, and the step over them
abbrev LaterRight : List ℕ → List (List ℕ) → Type 0
LaterRight input ws =
    (c : Cursor) → Standing input c → 3 ≤ c.line → lines_from input c.at ≡ ws
    → Right input c (follow c.state.setup c.state.moment c.line ws) (step_later c ws)

module _ (input : List ℕ) (c : Cursor) (facts : Standing input c) (late : 3 ≤ c.line) (w : List ℕ)
    (ws : List (List ℕ)) (lines : lines_from input c.at ≡ w ∷ ws) where
  last_right : (empty : Bool)
      → Right input c (cond empty end_line (bad_line c.line)) (cond empty (over end_line c) (over_bad c))
  last_right true = over_right input c end_line
  last_right false = over_right input c (bad_line c.line)

  module _ (more : is_last ws ≡ false) where
    note_right : LaterRight input ws → (note : Note) (good : Bool)
        → Right input c
        (cond good
        (follow c.state.setup (behind_note c w note).state.moment (c.line + 1) ws)
        (bad_line c.line))
        (cond good (step_later (behind_note c w note) ws) (over_bad c))
    note_right ih note true =
        let next = behind_line input c.at w ws facts.inside lines more in
        let stands-next = behind_stands input c facts w (behind_note c w note).state next.inside facts.small in
        right_before input c (behind_note c w note) _ _ (omega arith)
        (ih (behind_note c w note) stands-next (omega arith) next.lines)
    note_right ih note false = over_right input c (bad_line c.line)

    go_right : (good : Bool)
        → let setup = c.state.setup in
        let m = c.state.moment in
        let next = behind c w (record { setup = setup; moment = go_of setup m }) in
        Right input c
        (cond good (go_text setup m ++ follow setup (go_of setup m) (c.line + 1) ws) (bad_line c.line))
        (cond good (record { text = go_text setup m; next = next }) (over_bad c))
    go_right true =
        let setup = c.state.setup in
        let m = c.state.moment in
        let state : State = record { setup = setup; moment = go_of setup m } in
        passed_right input c facts w ws lines more state facts.small (go_text setup m) _
        (sym (onward_later (behind c w state) ws (omega arith)))
    go_right false = over_right input c (bad_line c.line)

    line_right : LaterRight input ws → (line : Option Command)
        → Right input c (follow_line c ws line) (step_line c w ws line)
    line_right ih (Some (Noted note)) = note_right ih note (fits_at c note)
    line_right ih (Some Go) = go_right (ltb c.state.moment.phase spent_phase)
    line_right ih None = over_right input c (bad_line c.line)

  piece_right : LaterRight input ws → (last : Bool) → is_last ws ≡ last
      → Right input c
      (cond last (cond (eqb (length w) 0) end_line (bad_line c.line)) (follow_line c ws (line_of w)))
      (cond last (cond (eqb (length w) 0) (over end_line c) (over_bad c)) (step_line c w ws (line_of w)))
  piece_right ih true is = last_right (eqb (length w) 0)
  piece_right ih false is = line_right is ih (line_of w)

later_right : (input : List ℕ) (ws : List (List ℕ)) → LaterRight input ws
unfolding follow step_later
later_right input [] c facts late lines = over_right input c []
later_right input (w ∷ ws) c facts late lines =
    piece_right input c facts late w ws lines (later_right input ws) (is_last ws) refl

-- what lines 2 and 3 on print, behind the line before
second_onward : (c : Cursor) (w : List ℕ) (ws : List (List ℕ)) (crew : Crew) → c.line ≡ 1
    → second crew ws ≡ onward (behind c w (begun_of crew unmanned)) ws
unfolding begun_of
second_onward c w ws crew one = rw one

third_onward : (c : Cursor) (w : List ℕ) (ws : List (List ℕ)) (state : State) → c.line ≡ 2
    → third state ws ≡ onward (behind c w state) ws
third_onward c w ws state two = rw two

module _ (input : List ℕ) (c : Cursor) (facts : Standing input c) where
  bad_right : (l : ℕ) → c.line ≡ l → Right input c (bad_line l) (over_bad c)
  bad_right l is = rw (← is) (over_right input c (bad_line c.line))

  module _ (one : c.line ≡ 1) where
    crew_right : (w : List ℕ) (ws : List (List ℕ)) → lines_from input c.at ≡ w ∷ ws → is_last ws ≡ false
        → (line : Option Crew) → Right input c (crewed line ws) (pass_crew c w line)
    crew_right w ws lines more (Some crew) = go (is_accepted (accept_of crew)) refl
      where
        go : (good : Bool) → is_accepted (accept_of crew) ≡ good
            → Right input c (cond good (second crew ws) (bad_line 1))
            (cond good (record { text = []; next = behind c w (begun_of crew unmanned) }) (over_bad c))
        go true is =
            passed_right input c facts w ws lines more (begun_of crew unmanned)
            (begun_small crew unmanned (crew_small crew is)) [] (second crew ws) (second_onward c w ws crew one)
        go false is = bad_right 1 one
    crew_right w ws lines more None = bad_right 1 one

    first_go : (w : List ℕ) (ws : List (List ℕ)) → lines_from input c.at ≡ w ∷ ws → (last : Bool) → is_last ws ≡ last
        → Right input c
        (cond last (bad_line 1) (crewed (crew_line_of (numbers_on w)) ws))
        (cond last (over_bad c) (pass_crew c w (crew_line_of (numbers_on w))))
    first_go w ws lines true is = bad_right 1 one
    first_go w ws lines false is = crew_right w ws lines is (crew_line_of (numbers_on w))

    first_right : (ws : List (List ℕ)) → lines_from input c.at ≡ ws → Right input c (first ws) (step_first c ws)
    unfolding first step_first
    first_right [] lines = over_right input c []
    first_right (w ∷ ws) lines = first_go w ws lines (is_last ws) refl

  module _ (two : c.line ≡ 2) where
    plans_right : (w : List ℕ) (ws : List (List ℕ)) → lines_from input c.at ≡ w ∷ ws → is_last ws ≡ false
        → (line : Option (List ℕ))
        → Right input c
        (on_good line (λ plans. third (begun_of c.state.setup.crew plans) ws) (bad_line 2))
        (pass_plans c w line)
    plans_right w ws lines more (Some plans) =
        let crew = c.state.setup.crew in
        passed_right input c facts w ws lines more (begun_of crew plans) (begun_small crew plans facts.small) []
        (third (begun_of crew plans) ws) (third_onward c w ws (begun_of crew plans) two)
    plans_right w ws lines more None = bad_right 2 two

    second_go : (w : List ℕ) (ws : List (List ℕ)) → lines_from input c.at ≡ w ∷ ws → (last : Bool) → is_last ws ≡ last
        → (line : Option (List ℕ))
        → Right input c
        (cond last (bad_line 2)
        (on_good line (λ plans. third (begun_of c.state.setup.crew plans) ws) (bad_line 2)))
        (cond last (over_bad c) (pass_plans c w line))
    second_go w ws lines true is line = bad_right 2 two
    second_go w ws lines false is line = plans_right w ws lines is line

    second_right : (ws : List (List ℕ)) → lines_from input c.at ≡ ws
        → Right input c (second c.state.setup.crew ws) (step_second c ws)
    unfolding second step_second
    second_right [] lines = over_right input c []
    second_right (w ∷ ws) lines =
        second_go w ws lines (is_last ws) refl (plans_of (numbers_on w) c.state.setup.crew.n)

-- every step is right
module _ (input : List ℕ) (c : Cursor) where
  by_line : Standing input c → (one two : Bool) → eqb c.line 1 ≡ one → eqb c.line 2 ≡ two
      → let lines = lines_from input c.at in
      Right input c
      (cond one (first lines)
      (cond two (second c.state.setup.crew lines)
      (follow c.state.setup c.state.moment c.line lines)))
      (cond one (step_first c lines) (cond two (step_second c lines) (step_later c lines)))
  by_line facts true two e₁ e₂ = first_right input c facts (eqb-true c.line 1 e₁) _ refl
  by_line facts false true e₁ e₂ = second_right input c facts (eqb-true c.line 2 e₂) _ refl
  by_line facts false false e₁ e₂ =
      let late : 3 ≤ c.line = omega (arith, facts.from, eqb-false c.line 1 e₁, eqb-false c.line 2 e₂) in
      later_right input _ c facts late refl

  by_place : (test long : Bool) → stands input c ≡ test → ltb most_bytes (length input) ≡ long
      → let lines = lines_from input c.at in
      Right input c
      (cond test (cond long long_line (onward c lines)) [])
      (cond test
      (cond long (over long_line c)
      (cond (eqb c.line 1) (step_first c lines)
      (cond (eqb c.line 2) (step_second c lines) (step_later c lines))))
      (over [] c))
  by_place true true e₁ e₂ = over_right input c long_line
  by_place true false e₁ e₂ =
      let facts = is_standing input c e₁ (ltb-false most_bytes (length input) e₂) in
      by_line facts (eqb c.line 1) (eqb c.line 2) refl refl
  by_place false long e₁ e₂ = over_right input c []

  step_right : Right input c (rest input c) (step_of input c)
  unfolding rest step_of
  step_right = by_place (stands input c) (ltb most_bytes (length input)) refl refl

  -- what is still to come is the step's text and what is to come after the step
  pub step_splits : rest input c ≡ (step_of input c).text ++ rest input (step_of input c).next
  step_splits = step_right.splits

  pub stepped_from : {next : Cursor} {buffer buffer' : List ℕ} {r : ℕ} → Stepped (step_of input c) next buffer buffer' r
      → SteppedFrom input c next buffer buffer' r
  stepped_from made = record { made = made; splits = rw made.next step_splits }

  -- behind a step the drill is over, or stands further on
  pub step_ahead : Ahead input c (step_of input c).next
  step_ahead = step_right.ahead

-- a drill that is over has nothing to come
pub rest_over : (input : List ℕ) (c : Cursor) → c.line ≡ 0 → rest input c ≡ []
unfolding rest
rest_over input c e = rw e

-- every step goes on in the script
pub step_goes_on : (input : List ℕ) (c : Cursor) → (c.line ≡ 0 → ⊥) → way input (step_of input c).next < way input c
step_goes_on input c on = go (step_ahead input c)
  where
    go : Ahead input c (step_of input c).next → way input (step_of input c).next < way input c
    go (finished e) = rw (e, ne_eqb c.line 0 on) (omega arith)
    go (further more next) =
        rw (ne_eqb c.line 0 on, ne_eqb (step_of input c).next.line 0 (λ e. omega (arith, next.from)))
        (omega (arith, next.inside))

-- before line 1 all is to come
pub rest_all : (input : List ℕ) → rest input outset ≡ drill_of input
unfolding rest outset begun_of drill_of
rest_all input = rw (le-leb 0 (length input) (omega arith))

-- a drill that is over stays so
stays_over : (input : List ℕ) (c : Cursor) → c.line ≡ 0 → (step_of input c).next.line ≡ 0
unfolding step_of
stays_over input c e = rw e

-- where k + 1 steps are enough, k are enough behind the coming one
fewer : (input : List ℕ) (c : Cursor) (k : ℕ) → way input c ≤ suc k → way input (step_of input c).next ≤ k
fewer input c k short = go (eqb c.line 0) refl
  where
    go : (t : Bool) → eqb c.line 0 ≡ t → way input (step_of input c).next ≤ k
    go true e = rw (stays_over input c (eqb-true c.line 0 e)) (omega arith)
    go false e = omega (arith, short, step_goes_on input c (eqb-false c.line 0 e))

-- in as many steps as there is way left, all comes that is to come
pub texts_all : (input : List ℕ) (k : ℕ) (c : Cursor) → way input c ≤ k → texts_of input c k ≡ rest input c
unfolding texts_of
texts_all input zero c short = go (eqb c.line 0) refl
  where
    go : (t : Bool) → eqb c.line 0 ≡ t → [] ≡ rest input c
    go true e = sym (rest_over input c (eqb-true c.line 0 e))
    go false e = absurd (omega (arith, rw e at short))
texts_all input (suc k) c short =
    ap (λ (l : List ℕ). (step_of input c).text ++ l) (texts_all input k (step_of input c).next (fewer input c k short))
    ∙ sym (step_splits input c)

-- From the start, the texts of all steps, joined, are what the script prints: a step for each of its bytes, and one
-- more, are enough.
pub texts_whole : (input : List ℕ) → texts_of input outset (length input + 1) ≡ drill_of input
unfolding outset
texts_whole input = texts_all input (length input + 1) outset (omega arith) ∙ rest_all input
