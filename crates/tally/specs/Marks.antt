-- Counts over the columns: tests of slots, how many slots pass them, and which plans are found by such counts. The
-- functions that run over the columns promise these; proofs/ joins them to the rules of crate ballot.
-- Promises of private functions: no public contract cites this file.
use Rattle.std.specs.Prelude.{ℕ, zero, suc, ◌+◌, ◌*◌, ◌<◌, max, ◌≡◌, Bool, false}
use Rattle.std.specs.Prelude.{not, cond, ◌&&◌, ◌||◌, List, get_or, leb, ltb, eqb}
use Rattle.std.proofs.Math.Option.{Option, none, some}
use Rattle.ballot.specs.Count.{tally}
use Rattle.ballot.specs.Least.{lower}
use Rattle.ballot.specs.Selection.{Backing, nobody, sole, several}
use Rattle.tally.specs.declared.counts.Needed.{Needed}
use Rattle.tally.specs.declared.counts.Plans.{Plans}
use Rattle.tally.specs.declared.counts.Plans.TheVariants.{Nothing, Sole, Several}

abbrev pub marked : List Bool → ℕ → Bool
marked marks q = get_or marks q false

-- these marks single out the slots below n that pass a test
abbrev pub Marks : List Bool → ℕ → (ℕ → Bool) → Type 0
Marks marks n test = (q : ℕ) → q < n → marked marks q ≡ test q

-- a marked slot has the vote; and how many of n have that of slot q
abbrev pub voting : List Bool → List ℕ → ℕ → ℕ → Bool
voting marks votes vote q = marked marks q && eqb (get_or votes q 0) vote

abbrev pub voters_of : List Bool → List ℕ → ℕ → ℕ → ℕ
voters_of marks votes n q = tally (voting marks votes (get_or votes q 0)) n

-- a slot that is present has the vote, or a stamp below the bound
abbrev pub supporting : List Bool → List ℕ → List ℕ → ℕ → ℕ → ℕ → Bool
supporting present votes stamps vote below q =
    marked present q && (eqb (get_or votes q 0) vote || ltb (get_or stamps q 0) below)

-- a slot that is present lists the plan at a phase, of rows with so many places; an empty place lists nothing
abbrev pub is_lister : List Bool → List ℕ → ℕ → ℕ → ℕ → ℕ → Bool
is_lister present histories phases plan phase q =
    marked present q
    && ((ltb phase phases && ltb 0 plan) && eqb (get_or histories (phases * q + phase) 0) plan)

-- how many slots support what slot q says, and how many list its vote at its stamp
abbrev pub supporters_of : List Bool → List ℕ → List ℕ → ℕ → ℕ → ℕ
supporters_of present votes stamps n q =
    tally (supporting present votes stamps (get_or votes q 0) (get_or stamps q 0)) n

abbrev pub listers_of : List Bool → List ℕ → List ℕ → List ℕ → ℕ → ℕ → ℕ → ℕ
listers_of present votes stamps histories phases n q =
    tally (is_lister present histories phases (get_or votes q 0) (get_or stamps q 0)) n

-- slot q is present and has as many of both as it needs
abbrev pub has_needed : List Bool → List ℕ → List ℕ → List ℕ → Needed → ℕ → Bool
has_needed present votes stamps histories needed q =
    marked present q
    && (leb needed.supporters (supporters_of present votes stamps needed.slots.count q)
    && leb needed.listers (listers_of present votes stamps histories needed.phases needed.slots.count q))

-- a slot that is present has this stamp
abbrev pub stamped_with : List Bool → List ℕ → ℕ → ℕ → Bool
stamped_with present stamps stamp q = marked present q && eqb (get_or stamps q 0) stamp

-- a slot before slot q has its vote; slot q is present, and the first with its vote
abbrev pub repeated : List Bool → List ℕ → ℕ → Bool
repeated present votes q = ltb 0 (voters_of present votes q q)

abbrev pub is_new : List Bool → List ℕ → ℕ → Bool
is_new present votes q = marked present q && not (repeated present votes q)

-- a slot that is present has a vote that so many marked slots have
abbrev pub reaching : List Bool → List Bool → List ℕ → ℕ → ℕ → ℕ → Bool
reaching present marks votes n needed q = marked present q && leb needed (voters_of marks votes n q)

-- what is told of the slots below n that pass a test, one slot after the other
module _ {S : Type 0} (more : S → ℕ → S) (start : S) where
  unfoldable pub told : (ℕ → Bool) → (ℕ → ℕ) → ℕ → S
  told test value zero = start
  told test value (suc n) = cond (test n) (more (told test value n) (value n)) (told test value n)

-- the least of their votes
abbrev pub lowered : Option ℕ → ℕ → Option ℕ
lowered least v = lower v least

abbrev pub least_marked : (ℕ → Bool) → (ℕ → ℕ) → ℕ → Option ℕ
least_marked = told lowered none

-- which votes they have: none, exactly one, or more
abbrev pub joined : Backing → ℕ → Backing
joined nobody v = sole v
joined (sole u) v = cond (eqb u v) (sole u) several
joined several v = several

abbrev pub backing_marked : (ℕ → Bool) → (ℕ → ℕ) → ℕ → Backing
backing_marked = told joined nobody

-- the highest of their numbers, 0 where there is none
abbrev pub highest : (ℕ → Bool) → (ℕ → ℕ) → ℕ → ℕ
highest = told max 0

-- what the plans that the code has found stand for in crate ballot, and the least of them
abbrev pub backing_as : Plans → Backing
backing_as Nothing = nobody
backing_as (Sole v) = sole v
backing_as (Several v) = several

abbrev pub least_in : Plans → Option ℕ
least_in Nothing = none
least_in (Sole v) = some v
least_in (Several v) = some v
