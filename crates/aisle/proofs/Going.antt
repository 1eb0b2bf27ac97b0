-- When a go is a whole round.
use mathlib.Core.Path.{◌≡◌}
use mathlib.Core.Bool.{true}
use lib.Dec.{leb, ltb}
use borrow.Author.Tests.{leb-true, ltb-true, le-leb, lt-ltb}
use Rattle.wire.specs.Sizes.{spent_phase}
use Rattle.crew.specs.Parts.{most_nodes}
use Rattle.wire.proofs.Tests.{both_true}
use Rattle.aisle.specs.declared.Setup.{Setup}
use Rattle.aisle.specs.declared.Moment.{Moment}
use Rattle.aisle.specs.Round.{ready, go_of, gone}
use Rattle.aisle.specs.Promises.{Ready}

pub is_ready : (setup : Setup) (m : Moment) → ready setup m ≡ true → Ready setup m
is_ready setup m ok =
    let parts = both_true (leb setup.crew.n most_nodes) (ltb m.phase spent_phase) ok in
    record { small = leb-true _ _ parts.0; unspent = ltb-true _ _ parts.1 }

pub gone_round : (setup : Setup) (m : Moment) → Ready setup m → gone setup m ≡ go_of setup m
unfolding gone
gone_round setup m facts = rw (le-leb _ _ facts.small, lt-ltb _ _ facts.unspent)
