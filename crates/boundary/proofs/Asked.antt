-- What a caller makes of an answer to asking: 0 is 'none', 2^32 is 'any', every other value a plan. Where the inbox
-- holds bytes no plan is 0 or above what a plan's bytes can hold, so that is the choice which the engine answers.
use mathlib.Core.Path.{◌≡◌, refl, subst}
use mathlib.Core.Bool.{cond, ◌&&◌}
use mathlib.Core.List.{List}
use Prim.Native.Nat.{ℕ, ◌*◌, ◌<◌, ◌≤◌}
use native.Mathlib.Omega.{arith}
use lib.Dec.{ltb, eqb}
use lib.ListN.{length}
use mathlib.Core.Logic.{inr}
use borrow.Author.Tests.{ne_eqb}
use Rattle.wire.specs.Sizes.{plan_limit, spent_phase}
use Rattle.wire.specs.Outcome.{accepted}
use Rattle.wire.specs.Bytes.{AreBytes}
use Rattle.wire.proofs.Outcomes.{passed, same_value}
use Rattle.crew.specs.Thresholds.{class_of}
use Rattle.message.specs.Layout.{slot_size}
use Rattle.ballot.specs.Selection.{Choice, plan, any, nothing}
use Rattle.ballot.proofs.Selection.{VotedChoice, selection_voted}
use Rattle.node.specs.declared.Node.{Node}
use Rattle.node.specs.Soundness.{sound}
use Rattle.inbox.specs.Inbox.{ballots}
use Rattle.inbox.proofs.Plans.{voted_fits, voted_plan}
use Rattle.rounds.specs.Asking.{ask_of}
use Rattle.image.specs.Layout.{record_in, image_fits}
use Rattle.boundary.specs.Answers.{plan_room, choice_number, ask_from}

-- the choice that a caller reads from a value
abbrev pub choice_at : ℕ → Choice
choice_at value = cond (eqb value 0) nothing (cond (eqb value plan_room) any (plan value))

-- a choice whose plan is some ballot's vote is read from its number
voted_told : (d : Node) (inbox : List ℕ) → AreBytes inbox → (c : Choice) → VotedChoice (ballots d inbox) c
    → choice_at (choice_number c) ≡ c
voted_told d inbox bytes (plan v) voted =
    let some : 1 ≤ v = voted_plan d inbox v voted in
    let fits : v < plan_limit = voted_fits d inbox bytes v (inr voted) in
    rw (ne_eqb v 0 (λ e. omega (arith, some)), ne_eqb v plan_room (λ e. omega (arith, fits)))
voted_told d inbox bytes any voted = refl
voted_told d inbox bytes nothing voted = refl

-- it is the one that asking answers
pub ask_told : (image inbox : List ℕ) → AreBytes inbox → (c : Choice) → ask_from image inbox ≡ accepted c
    → choice_at (choice_number c) ≡ c
unfolding ask_of
ask_told image inbox bytes c e =
    let d = record_in image in
    let fits = passed (image_fits image) 25 (ask_of d inbox) e in
    let first = passed (sound d && eqb d.round 1) 7 _ fits.1 in
    let unspent = passed (ltb d.phase spent_phase) 8 _ first.1 in
    let whole = passed (eqb (length inbox) (slot_size * d.crew.n)) 14 _ unspent.1 in
    voted_told d inbox bytes c
    (subst (VotedChoice (ballots d inbox)) (same_value whole.1)
    (selection_voted (class_of d.crew) d.crew (ballots d inbox)))
