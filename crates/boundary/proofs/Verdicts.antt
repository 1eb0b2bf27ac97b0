-- Laws of what a caller sees of an operation beside what it leaves in a lent slice.
use mathlib.Core.Path.{◌≡◌, refl, ap, sym, ◌∙◌}
use mathlib.Core.List.{List}
use Prim.Native.Nat.{ℕ, ◌*◌, ◌<◌}
use native.Mathlib.Omega.{arith}
use Rattle.wire.specs.Outcome.{Outcome, accepted, refused, verdict, value_or}
use Rattle.wire.proofs.Outcomes.{refused_not_accepted, same_number}
use Rattle.least_crews.specs.declared.LookupRefusal.{LookupRefusal}
use Rattle.least_crews.specs.declared.LookupRefusal.TheVariants.{Range}
use Rattle.least_crews.specs.Search.{lookup_number}
use Rattle.boundary.specs.Answers.{refusal_unit, done, Answered, Leaves}
use Rattle.boundary.specs.Promises.{Numbered}

-- a lookup is refused for its range and for nothing else
pub range : (why : LookupRefusal) → Numbered (lookup_number why) 15
range Range = record { same = refl; some = omega arith; byte = omega arith }

module _ {A : Type 0} (value : A → ℕ) {outcome : Outcome A} where
  -- an accepted operation is told by its value, which is below every refusal
  value_told : (a : A) → value a < refusal_unit → outcome ≡ accepted a → Answered value outcome (value a)
  value_told a small is = rw is (record { number = refl; apart = small })

  -- a refused one is told by its number
  refusal_told : {number r answer : ℕ} → Numbered number r → answer ≡ refusal_unit * r → outcome ≡ refused number
      → Answered value outcome answer
  refusal_told n e is =
      rw is (record {
        number = e ∙ ap (λ k. refusal_unit * k) n.same;
        apart = (omega (arith, n.same, n.some), omega (arith, n.same, n.byte));
      })

-- An operation whose value is what it leaves in a lent slice, of which a caller sees the answer beside that.
module _ (before after : List ℕ) where
  -- where it is accepted, the slice has the value
  pub value_left : (outcome : Outcome (List ℕ)) → accepted tt ≡ verdict outcome → after ≡ value_or before outcome
      → Leaves done outcome (value_or before) 0 after
  value_left (accepted value) told left = record { told = value_told done value (omega arith) refl; left = left }
  value_left (refused number) told left = absurd (refused_not_accepted number tt (sym told))

  -- where it is refused, what it had
  pub slice_kept : (outcome : Outcome (List ℕ)) {number r answer : ℕ} → refused number ≡ verdict outcome
      → Numbered number r → answer ≡ refusal_unit * r → after ≡ value_or before outcome
      → Leaves done outcome (value_or before) answer after
  slice_kept (accepted value) {number} told n e left = absurd (refused_not_accepted number tt told)
  slice_kept (refused known) told n e left =
      record { told = refusal_told done n e (ap refused (sym (same_number told))); left = left }
