-- What a caller sees: the top byte of an answer is the number of the refusal, 0 where there is none, and the seven
-- below it are the value. That each function's answers are `Apart` is in its contract.
use mathlib.Core.Path.{◌≡◌}
use mathlib.Core.Bool.{true}
use Prim.Native.Nat.{ℕ, ◌/◌, ◌%◌}
use native.Mathlib.Omega.{arith}
use Rattle.wire.specs.Outcome.{Outcome, accepted, refused}
use Rattle.least_crews.specs.Search.{in_range, least_crew}
use Rattle.least_crews.proofs.Ranges.{ranges}
use Rattle.least_crews.proofs.Found.{d_small}
use Rattle.least_crews.proofs.Forms.{search_least}
use Rattle.boundary.specs.Answers.{refusal_unit, answer_of, Apart, least_number}

-- the number of a refusal; none has 0
abbrev pub number_of : {A : Type 0} → Outcome A → ℕ
number_of (accepted a) = 0
number_of (refused number) = number

pub told_apart : {A : Type 0} (value : A → ℕ) (outcome : Outcome A) → Apart value outcome
    → answer_of value outcome / refusal_unit ≡ number_of outcome
told_apart value (accepted a) apart = omega (arith, apart)
told_apart value (refused number) apart = omega arith

pub value_kept : {A : Type 0} (value : A → ℕ) (a : A) → Apart value (accepted a)
    → answer_of value (accepted a) % refusal_unit ≡ value a
value_kept value a apart = omega (arith, apart)

-- and from the value of a lookup the two numbers of the least crew
pub least_told : (class b f : ℕ) → in_range class b f ≡ true → (let least = least_crew class b f in
    (least_number least / 256 ≡ least.n) × (least_number least % 256 ≡ least.d))
least_told class b f known =
    let r = ranges class b f known in
    let is = search_least class b f r.class_from r.class_to in
    let small = d_small class b f (least_crew class b f) is in
    (omega (arith, small), omega (arith, small))
