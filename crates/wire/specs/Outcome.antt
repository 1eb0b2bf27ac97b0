-- What an operation of the papers, 01 and 02, answers: a value, or the number of its refusal.
-- Every definition of an operation, from accepting a crew to taking a round, answers in this form.
use Rattle.std.specs.Prelude.{Bool, true, false, ℕ, Result, Ok, Err}

pub data Outcome (A : Type 0) : Type 0 where
  accepted : A → Outcome A
  refused : ℕ → Outcome A

-- what an operation's result says in the papers' terms, by the number of each refusal
abbrev pub outcome_of : {A E : Type 0} → (E → ℕ) → Result A E → Outcome A
outcome_of number (Ok value) = accepted value
outcome_of number (Err why) = refused (number why)

-- The operation goes on where the test passes, and is refused with this number where it fails.
-- 01: "The first that applies is given, and only where its condition holds."
abbrev pub require : {A : Type 0} → Bool → ℕ → Outcome A → Outcome A
require true number next = next
require false number next = refused number

-- One operation goes before another: the other's answer where it is accepted, else its refusal.
abbrev pub after : {A : Type 0} → Outcome (Unit {0}) → Outcome A → Outcome A
after (accepted value) next = next
after (refused number) next = refused number

-- Whether an operation was accepted, and the number of its refusal, without the value.
abbrev pub verdict : {A : Type 0} → Outcome A → Outcome (Unit {0})
verdict (accepted value) = accepted tt
verdict (refused number) = refused number

-- The value of an accepted operation, and what stood there before where it was refused.
-- 01: "A refusal gives its number and, where a record was handed in, that record unchanged"
abbrev pub value_or : {A : Type 0} → A → Outcome A → A
value_or before (accepted value) = value
value_or before (refused number) = before

-- whether an operation was accepted
abbrev pub is_accepted : {A : Type 0} → Outcome A → Bool
is_accepted (accepted value) = true
is_accepted (refused number) = false
