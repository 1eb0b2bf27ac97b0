-- `is_repeated` says whether any slot before slot q has the vote, so whether they are more than none.
use mathlib.Core.Path.{◌≡◌, refl, sym}
use mathlib.Core.Bool.{Bool, true, false}
use Prim.Native.Nat.{ℕ, ◌<◌}
use native.Mathlib.Omega.{arith}
use lib.Dec.{ltb}
use lib.ListN.{get_or}
use borrow.Author.Tests.{lt-ltb, le-ltb}
use Rattle.std.proofs.iter.Serving.{returning}
use Rattle.ballot.specs.Count.{tally}
use Rattle.ballot.proofs.Counting.{tally_has, tally_none, tally_same, nobody_of}
use Rattle.tally.specs.Marks.{voting}
use Rattle.tally.proofs.counts.is_repeated.Goals as goal

says_any : (says : ℕ → Bool) (q : ℕ) (b : Bool) → (b ≡ true → (p : ℕ) × (p < q) × (says p ≡ true))
    → (b ≡ false → (p : ℕ) → p < q → says p ≡ false) → b ≡ ltb 0 (tally says q)
says_any says q true some none =
    let found = some refl in
    sym (lt-ltb 0 _ (tally_has says q found.0 found.1 (rw found.2 tt)))
says_any says q false some none =
    sym (le-ltb 0 _ (omega (arith, tally_same says nobody_of q (none refl), tally_none q)))

pub returns : goal.returns
returns c =
    let votes = c.args.columns.now.votes in
    says_any (voting c.args.columns.now.present votes (get_or votes c.args.q 0)) c.args.q c.any.result
    (grind (arith, returning)) (grind (arith, returning))
