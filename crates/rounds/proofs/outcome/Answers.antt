-- `outcome` meets its contract.
use mathlib.Core.Path.{◌≡◌, sym, ap, ◌∙◌}
use mathlib.Core.Bool.{true≢false}
use Prim.Native.Nat.{◌*◌}
use native.Mathlib.Nat.{mul-le-mul}
use native.Mathlib.Omega.{arith}
use lib.ListN.{replicate}
use borrow.Author.Tests.{eqb-true, ne_eqb}
use Rattle.wire.specs.Sizes.{history_size}
use Rattle.crew.specs.Parts.{most_nodes}
use Rattle.rounds.proofs.outcome.Goals as goal
use Rattle.rounds.proofs.outcome.Goals.{then-crew-eq-CLASS_THREE, else-crew-eq-CLASS_THREE}

-- every phase has a place for each node
pub outcome_in_places-requires-2 : goal.outcome_in_places-requires-2
outcome_in_places-requires-2 c =
    let round = c.args.round in
    let heard = c.requires in
    let lists = c.if-not-lists.false in
    let first_kind : round.header.kind ≡ 1 = elim c.if-crew-eq-CLASS_THREE.branch [
      | then-crew-eq-CLASS_THREE w ↦ eqb-true _ _ (sym w.lists-is ∙ lists)
      | else-crew-eq-CLASS_THREE w ↦
          absurd (true≢false (sym lists ∙ w.lists-is ∙ ne_eqb _ _ w.if-crew-eq-CLASS_THREE.false))
    ] in
    record {
      own = heard.own;
      most = omega arith;
      empty = ap (replicate (most_nodes * history_size)) (heard.empty first_kind);
      room = λ back.
          let small = mul-le-mul {n₁ = round.header.phase} {m₁ = round.crew.n} {n₂ = history_size} {m₂ = most_nodes}
          (omega (arith, heard.early)) heard.own.places in
          omega (arith, small);
    }
