-- The board of document 01: the examples that are to be proved, in its order, as one table with one theorem. Below it
-- two more tables, of what no law of this crate would notice.
use mathlib.Core.Path.{◌≡◌, refl}
use mathlib.Core.Bool.{Bool, true, false}
use mathlib.Core.List.{List, [], ◌∷◌, map}
use Prim.Native.Nat.{ℕ}
use Rattle.wire.specs.Entry.{Entry}
use Rattle.wire.specs.Outcome.{Outcome, accepted, refused}
use Rattle.crew.specs.declared.Crew.{Crew}
use Rattle.crew.specs.Parts.{crew_of}
use Rattle.crew.specs.Acceptance.{accept_of}
use Rattle.crew.specs.Group.{among, validates}
use Rattle.crew.specs.Thresholds.{class_of}
use Rattle.ballot.specs.Count.{count_if}
use Rattle.ballot.specs.Ballot.{Ballot, lists}
use Rattle.ballot.specs.Least.{least, least_of}
use Rattle.ballot.specs.Selection.{possible, backed, backing, enough, selection}
use Rattle.ballot.specs.Selection.{leading, most_voted, any_plan, taken}
use Rattle.ballot.specs.Selection.{Choice, plan, any, nothing}

-- a crew put to acceptance, and ballots put to a crew's selection
data Question : Type 0 where
  accept : Crew → Question
  select : Crew → List Ballot → Question

-- what acceptance answers; what selection answers, and the plan that a node takes on it
data Answer : Type 0 where
  answers : Outcome (Unit {0}) → Answer
  chooses : Choice → ℕ → Answer

abbrev reply : Question → Answer
reply (accept crew) = answers (accept_of crew)
reply (select crew ballots) = chooses (selection (class_of crew) crew ballots) (taken (class_of crew) crew ballots)

-- a line of the board
record Example : Type 0 where
  question : Question
  answer : Answer

abbrev ◌gives◌ : Question → Answer → Example
◌gives◌ q a = record { question = q; answer = a }

infix 20 ◌gives◌
-- every question of the table has its answer
abbrev Holds : List Example → Type 0
Holds table = map (λ e. reply e.question) table ≡ map (λ e. e.answer) table

-- a crew of 01, in which every node validates
abbrev whole : ℕ → ℕ → ℕ → ℕ → ℕ → Crew
whole class n b f d = crew_of class n b f d n

-- the answers in 01's words
abbrev acceptance : Answer
acceptance = answers (accepted tt)

abbrev refusal : ℕ → Answer
refusal number = answers (refused number)

abbrev the_plan : ℕ → Answer
the_plan v = chooses (plan v) v

abbrev any_taken_as : ℕ → Answer
any_taken_as v = chooses any v

abbrev no_plan : Answer
no_plan = chooses nothing 0

-- a vote with a stamp and entries, one with a stamp alone, and one alone
abbrev full : ℕ → ℕ → List Entry → Ballot
full v t entries = record { vote = v; stamp = t; entries = entries }

abbrev at : ℕ → ℕ → Ballot
at v t = full v t []

abbrev bare : ℕ → Ballot
bare v = at v 0

abbrev entry : ℕ → ℕ → Entry
entry t v = record { phase = t; plan = v }

-- 01's ballots of phase 2 in class 3, but for what the second one lists
abbrev phase2 : List Entry → List Ballot
phase2 entries = full 5 1 (entry 0 5 ∷ entry 1 5 ∷ []) ∷ full 6 0 entries ∷ full 6 0 (entry 0 6 ∷ []) ∷ []

-- 01, 'Board examples (p = to be proved)': those marked p
abbrev board : List Example
board =
    (accept (whole 3 4 1 0 3) gives acceptance)
    ∷ (accept (whole 3 4 1 0 2) gives refusal 4)
    ∷ (accept (whole 3 4 1 0 4) gives refusal 3)
    ∷ (accept (whole 1 6 1 0 5) gives acceptance)
    ∷ (accept (whole 1 5 1 0 4) gives refusal 4)
    ∷ (accept (whole 2 5 1 0 4) gives acceptance)
    ∷ (select (whole 1 6 1 0 5) (map bare (7 ∷ 7 ∷ 7 ∷ 9 ∷ 9 ∷ [])) gives the_plan 7)
    ∷ (select (whole 1 6 1 0 5) (map bare (7 ∷ 7 ∷ 9 ∷ 9 ∷ [])) gives no_plan)
    ∷ (select (whole 1 6 1 0 5) (map bare (7 ∷ 7 ∷ 9 ∷ 9 ∷ 8 ∷ [])) gives any_taken_as 7)
    ∷ (select (whole 3 4 1 0 3) (map bare (5 ∷ 5 ∷ 6 ∷ [])) gives any_taken_as 5)
    ∷ (select (whole 3 4 1 0 3) (phase2 (entry 0 6 ∷ entry 1 5 ∷ [])) gives the_plan 5)
    ∷ (select (whole 3 4 1 0 3) (phase2 (entry 0 6 ∷ [])) gives no_plan)
    ∷ (select (whole 2 5 1 0 4) (at 5 1 ∷ at 6 0 ∷ at 6 0 ∷ at 5 1 ∷ []) gives the_plan 5)
    ∷ []

board_holds : Holds board
unfolding accept_of count_if lists least least_of possible backed backing enough selection
    leading most_voted any_plan taken
board_holds = refl

-- The laws of this crate hold for any sense of what a ballot lists. This says that an entry counts by its phase and its
-- plan together: the second ballot has 5 at another phase and another plan at phase 1, and so does not list 5 at 1.
abbrev listings : List Example
listings = (select (whole 3 4 1 0 3) (phase2 (entry 0 5 ∷ entry 1 6 ∷ [])) gives no_plan) ∷ []

listings_hold : Holds listings
unfolding count_if lists least possible backed backing enough selection taken
listings_hold = refl

-- Who validates, of a crew of five with c = 3, in phases 1 to 6: the laws of turns hold from whichever phase on, so
-- they would not notice a turn that comes a phase too soon.
abbrev in_phase : ℕ → List Bool
in_phase phase = map (validates (crew_of 2 5 1 0 4 3) phase) (0 ∷ 1 ∷ 2 ∷ 3 ∷ 4 ∷ [])

abbrev phases : List (List Bool)
phases =
    (true ∷ false ∷ false ∷ true ∷ true ∷ [])
    ∷ (false ∷ true ∷ true ∷ true ∷ false ∷ [])
    ∷ (true ∷ true ∷ false ∷ false ∷ true ∷ [])
    ∷ (false ∷ false ∷ true ∷ true ∷ true ∷ [])
    ∷ (true ∷ true ∷ true ∷ false ∷ false ∷ [])
    ∷ (true ∷ false ∷ false ∷ true ∷ true ∷ [])
    ∷ []

phases_hold : map in_phase (1 ∷ 2 ∷ 3 ∷ 4 ∷ 5 ∷ 6 ∷ []) ≡ phases
unfolding among validates
phases_hold = refl
