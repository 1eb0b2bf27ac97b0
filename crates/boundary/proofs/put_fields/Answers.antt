-- `put_fields` meets its contract: the fields fill the slice, and no store changes its length.
use mathlib.Core.Path.{◌≡◌, ◌∙◌}
use native.Mathlib.Omega.{arith}
use mathlib.Core.List.{List}
use Prim.Native.Nat.{ℕ}
use lib.ListN.{length, length-set}
use lib.Seq.{sets}
use Rattle.wire.proofs.Stores.{laid_room, sets_whole}
use Rattle.boundary.specs.Answers.{fields_size, field_bytes}
use Rattle.boundary.proofs.put_fields.Goals as goal

fields_laid : (fields : List ℕ) (kind run phase vote stamp count : ℕ) → length fields ≡ fields_size
    → sets fields 0 (field_bytes kind run phase vote stamp count) ≡ field_bytes kind run phase vote stamp count
fields_laid fields kind run phase vote stamp count long =
    let same : fields_size ≡ length fields = omega arith in
    sets_whole (field_bytes kind run phase vote stamp count) fields same

pub returns : goal.returns
returns c =
    let first : length c.put.new.buf ≡ fields_size =
    c.put.auto.buf ∙ length-set c.args.fields.now 0 c.args.kind ∙ c.requires in
    simp (
      laid_room _ _ _ c.put-2.ensures (simp length-set (omega (arith, first))),
      laid_room _ _ _ c.put.ensures (simp length-set (omega (arith, c.requires))),
    )
    (fields_laid c.args.fields.now c.args.kind c.args.run c.args.phase c.args.plan c.args.stamp c.args.count c.requires)
