-- What the rules' answers stand for: each is the rule of crate ballot on the ballots of the columns.
-- What the crates below rounds promise each other: no public contract of rounds cites this file.
use Rattle.std.specs.Prelude.{ℕ, min, ◌≡◌, List}
use Rattle.wire.specs.Entry.{Entry}
use Rattle.crew.specs.declared.Crew.{Crew}
use Rattle.crew.specs.Parts.{most_nodes}
use Rattle.crew.specs.Thresholds.{three, class_of}
use Rattle.ballot.specs.Selection.{Choice, plan, any, nothing}
use Rattle.inbox.specs.Columns.{listed_in}
use Rattle.tally.specs.declared.Choice.{Choice as DeclaredChoice}
use Rattle.tally.specs.declared.Choice.TheVariants.{Plan, Any, Nothing}

-- the slots of a crew that have a place in the columns: all, where the crew is accepted
abbrev pub slots_of : Crew → ℕ
slots_of crew = min crew.n most_nodes

-- what the slots list: in class 3 by the flat array of histories; in the others it plays no part
abbrev pub Histories : Crew → List ℕ → ℕ → (ℕ → List Entry) → Type 0
Histories crew histories phase h = class_of crew ≡ three → h ≡ listed_in histories phase

-- what the code's answer stands for in crate ballot
abbrev pub choice_as : DeclaredChoice → Choice
choice_as (Plan v) = plan v
choice_as Any = any
choice_as Nothing = nothing
