-- An honest node's first record is the one that an accepted start gave.
use mathlib.Core.Path.{◌≡◌, refl}
use mathlib.Core.Bool.{Bool, true, false, cond}
use mathlib.Core.List.{List, [], ◌∷◌}
use Prim.Native.Nat.{ℕ, ◌+◌, ◌<◌}
use native.Mathlib.Omega.{arith}
use lib.Dec.{eqb}
use borrow.Author.Tests.{eqb-true}
use Rattle.wire.specs.Outcome.{Outcome, accepted, refused}
use Rattle.ballot.specs.Count.{bit, count_if}
use Rattle.node.specs.declared.Node.{Node}
use Rattle.agreement.specs.Statement.{Start, answer_to, with_record, made, numbered, record_of, Every}

-- a start that made this record, which has this own number
pub record MadeBy (P : Start → Type 0) (Q : Node → Type 0) (q : ℕ) (d : Node) : Type 0 where
  pub start : Start
  pub answer : answer_to start ≡ accepted d
  pub own : d.own ≡ q
  pub of_start : P start
  pub of_record : Q d

module _ (P : Start → Type 0) (Q : Node → Type 0) (q : ℕ) where
  pub started : (ss : List Start) → Every P ss → Every Q (made ss) → 0 < numbered q (made ss)
      → MadeBy P Q q (record_of q (made ss))
  unfolding made record_of count_if
  started [] each records h = absurd (omega arith)
  started (s ∷ ss) each records h = go (answer_to s) refl records h (started ss each.1)
    where
      Later : Type 0
      Later = Every Q (made ss) → 0 < numbered q (made ss) → MadeBy P Q q (record_of q (made ss))

      here : (d : Node) → answer_to s ≡ accepted d → Q d → Every Q (made ss) → (b : Bool) → eqb d.own q ≡ b
          → 0 < bit b + numbered q (made ss) → Later → MadeBy P Q q (cond b d (record_of q (made ss)))
      here d e of_d of_rest true own h later = record {
        start = s;
        answer = e;
        own = eqb-true d.own q own;
        of_start = each.0;
        of_record = of_d;
      }
      here d e of_d of_rest false own h later = later of_rest (omega arith)

      go : (o : Outcome Node) → answer_to s ≡ o → Every Q (with_record o (made ss))
          → 0 < numbered q (with_record o (made ss)) → Later → MadeBy P Q q (record_of q (with_record o (made ss)))
      go (accepted d) e records h later = here d e records.0 records.1 (eqb d.own q) refl h later
      go (refused number) e records h later = later records h
