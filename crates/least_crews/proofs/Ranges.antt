-- The ranges of a lookup, as facts, and that no accepted crew lies outside them.
use mathlib.Core.Path.{◌≡◌}
use mathlib.Core.Bool.{true, ◌&&◌}
use Prim.Native.Nat.{ℕ, ◌+◌, ◌≤◌, ◌<◌}
use native.Mathlib.Omega.{arith}
use lib.Dec.{leb}
use borrow.Author.Tests.{leb-true, le-leb}
use Rattle.wire.specs.Outcome.{accepted}
use Rattle.wire.proofs.Tests.{both_true}
use Rattle.crew.specs.declared.Crew.{Crew}
use Rattle.crew.specs.Acceptance.{accept_of}
use Rattle.crew.proofs.Facts.{Quorum, accepts, size_above}
use Rattle.least_crews.specs.Search.{last_class, most_b, most_f, in_range}
use Rattle.least_crews.specs.Entries.{numbers, place_of}

pub record Ranges (class b f : ℕ) : Type 0 where
  pub class_from : 1 ≤ class
  pub class_to : class ≤ last_class
  pub b_to : b ≤ most_b
  pub f_to : f ≤ most_f

pub ranges : (class b f : ℕ) → in_range class b f ≡ true → Ranges class b f
ranges class b f e =
    let all = both_true (leb 1 class && leb class last_class && leb b most_b) (leb f most_f) e in
    let three = both_true (leb 1 class && leb class last_class) (leb b most_b) all.0 in
    let two = both_true (leb 1 class) (leb class last_class) three.0 in
    record {
      class_from = leb-true _ _ two.0;
      class_to = leb-true _ _ two.1;
      b_to = leb-true _ _ three.1;
      f_to = leb-true _ _ all.1;
    }

-- in the ranges both numbers of an entry stand in the table
pub within : (class b f : ℕ) → in_range class b f ≡ true → place_of class b f + 1 < numbers
within class b f e =
    let r = ranges class b f e in
    omega (arith, r.class_from, r.class_to, r.b_to, r.f_to)

-- A lookup that is refused is about no crew at all: n passes 3b + 2f and is at most 32.
pub accepted_in_range : (crew : Crew) → accept_of crew ≡ accepted tt → in_range crew.class crew.b crew.f ≡ true
accepted_in_range crew e =
    let a : Quorum crew = (accepts crew e).quorum in
    let above = size_above a in
    rw (
      le-leb _ _ a.class_from,
      le-leb _ _ a.class_to,
      le-leb crew.b most_b (omega (arith, above, a.size_to)),
      le-leb crew.f most_f (omega (arith, above, a.size_to)),
    )
