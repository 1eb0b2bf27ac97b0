-- What a caller makes of the marks: slot q counts where the bit of weight 2 to the q is set, and beyond the crew's no
-- bit is.
use mathlib.Core.Path.{◌≡◌, ap, sym, ◌∙◌}
use mathlib.Core.Bool.{false}
use mathlib.Core.List.{List}
use Prim.Native.Nat.{ℕ, ◌*◌, ◌<◌, ◌≤◌}
use lib.Dec.{ltb, eqb}
use lib.ListN.{length}
use Rattle.wire.specs.Sizes.{spent_phase}
use Rattle.wire.specs.Outcome.{accepted}
use Rattle.wire.specs.Marks.{marked, marks_of}
use Rattle.wire.proofs.Outcomes.{passed, same_value}
use Rattle.wire.proofs.Marks.{marked_in, marked_out}
use Rattle.message.specs.Layout.{slot_size}
use Rattle.node.specs.Soundness.{sound}
use Rattle.inbox.specs.Inbox.{counts}
use Rattle.rounds.specs.Marking.{marking_of}
use Rattle.image.specs.Layout.{record_in, image_fits}
use Rattle.boundary.specs.Answers.{marks_from}

-- the marks that are told are those of the crew's slots that count
marks_are : (image inbox : List ℕ) (value : ℕ) → marks_from image inbox ≡ accepted value
    → value ≡ marks_of (counts (record_in image) inbox) (record_in image).crew.n
unfolding marking_of
marks_are image inbox value e =
    let d = record_in image in
    let fits = passed (image_fits image) 25 (marking_of d inbox) e in
    let sounds = passed (sound d) 7 _ fits.1 in
    let unspent = passed (ltb d.phase spent_phase) 8 _ sounds.1 in
    let whole = passed (eqb (length inbox) (slot_size * d.crew.n)) 14 _ unspent.1 in
    sym (same_value whole.1)

-- so from the value a caller tells of every slot whether it counts
pub slots_told : (image inbox : List ℕ) (value : ℕ) → marks_from image inbox ≡ accepted value
    → ((q : ℕ) → q < (record_in image).crew.n → marked q value ≡ counts (record_in image) inbox q)
    × ((q : ℕ) → (record_in image).crew.n ≤ q → marked q value ≡ false)
slots_told image inbox value e =
    let d = record_in image in
    let are = marks_are image inbox value e in (
      λ q less. ap (marked q) are ∙ marked_in (counts d inbox) d.crew.n q less,
      λ q beyond. ap (marked q) are ∙ marked_out (counts d inbox) d.crew.n q beyond,
    )
