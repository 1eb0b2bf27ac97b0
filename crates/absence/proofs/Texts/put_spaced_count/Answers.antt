-- `Texts::put_spaced_count` meets its contract.
use mathlib.Core.Path.{◌≡◌, ap, ◌∙◌}
use mathlib.Core.List.{List, []}
use Prim.Native.Nat.{ℕ, ◌+◌, ◌≤◌, ◌<◌}
use native.Mathlib.Omega.{arith}
use lib.ListN.{length, get_or}
use Rattle.wire.proofs.Stores.{laid_part, laid_room}
use Rattle.wire.proofs.Tables.{table_filled}
use Rattle.absence.specs.Ring.{count_values}
use Rattle.absence.specs.Lines.{text_most}
use Rattle.absence.specs.Promises.{padded_text}
use Rattle.absence.proofs.Digits.{padded_long}
use Rattle.absence.proofs.Texts.put_spaced_count.Goals as goal

pub returns : goal.returns
returns c =
    let count = c.args.count in
    let byte : c.from.result < count_values = omega (arith, c.from.ensures, c.ranges.count) in
    let text : get_or c.args.self.now.of_count c.from.result [] ≡ padded_text count =
    ap (λ (l : List (List ℕ)). get_or l c.from.result []) c.args.self.now.filled
    ∙ table_filled padded_text [] count_values c.from.result byte
    ∙ ap padded_text c.from.ensures in
    let long : length (padded_text count) ≡ text_most = padded_long count in
    let room : c.args.at + length (padded_text count) ≤ length c.args.lines.now = omega arith in
    record {
      left =
          laid_room c.args.lines.now (padded_text count) c.args.at
          (rw long at (laid_part c.args.lines.now (padded_text count) c.copy_from_slice.new.self c.args.at room
          (c.copy_from_slice.ensures.after ∙ text)))
          room;
      next = omega (arith, c.text_size.ensures.size);
      within = omega (arith, c.text_size.ensures.within);
    }
