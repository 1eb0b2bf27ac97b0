-- Where a drill can stand, as a test and as facts, and that a step leads from such a place to such a place.
use mathlib.Core.Path.{◌≡◌}
use mathlib.Core.Bool.{Bool, true, ◌&&◌}
use mathlib.Core.List.{List}
use Prim.Native.Nat.{ℕ, ◌+◌, ◌≤◌}
use native.Mathlib.Omega.{arith}
use lib.ListN.{length}
use lib.Dec.{leb}
use borrow.Author.Tests.{leb-true, le-leb, le-ltb}
use Rattle.wire.proofs.Tests.{both_true}
use Rattle.crew.specs.Parts.{most_nodes}
use Rattle.aisle.specs.declared.State.{State}
use Rattle.drill.specs.declared.Cursor.{Cursor}
use Rattle.drill.specs.Run.{most_bytes}
use Rattle.drill.specs.Stepping.{stands, lines_from, onward, rest, behind}
use Rattle.drill.specs.Promises.{Standing}

module _ (input : List ℕ) (c : Cursor) where
  pub is_standing : stands input c ≡ true → length input ≤ most_bytes → Standing input c
  is_standing test short =
      let from : Bool = leb 1 c.line in
      let few : Bool = leb c.line (c.at + 1) in
      let inside : Bool = leb c.at (length input) in
      let three = both_true (from && few && inside) (leb c.state.setup.crew.n most_nodes) test in
      let two = both_true (from && few) inside three.0 in
      let one = both_true from few two.0 in
      record {
        from = leb-true _ _ one.0;
        few = leb-true _ _ one.1;
        inside = leb-true _ _ two.1;
        small = leb-true _ _ three.1;
        short = short;
      }

  module _ (facts : Standing input c) where
    pub standing_test : stands input c ≡ true
    standing_test =
        rw (
          le-leb _ _ facts.from,
          le-leb _ _ facts.few,
          le-leb _ _ facts.inside,
          le-leb _ _ facts.small,
        )

    -- what is still to come is what the lines from here on print
    pub rest_onward : rest input c ≡ onward c (lines_from input c.at)
    unfolding rest
    rest_onward = rw (standing_test, le-ltb most_bytes (length input) facts.short)

    -- behind a line of a crew that is small enough
    pub behind_stands : (line : List ℕ) (state : State) → c.at + length line + 1 ≤ length input
        → state.setup.crew.n ≤ most_nodes → Standing input (behind c line state)
    behind_stands line state inside small = record {
      from = omega arith;
      few = omega (arith, facts.few);
      inside = inside;
      small = small;
      short = facts.short;
    }
