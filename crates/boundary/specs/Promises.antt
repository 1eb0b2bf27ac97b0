-- Promises of private functions: no public contract cites this file.
use Rattle.std.specs.Prelude.{◌≡◌, ℕ, ◌<◌, Result}
use Rattle.wire.specs.Outcome.{Outcome, accepted, refused, value_or, outcome_of}
use Rattle.crew.specs.Acceptance.{accept_number}
use Rattle.least_crews.specs.Search.{lookup_number}
use Rattle.current.specs.Shares.{split_number}
use Rattle.message.specs.Reading.{read_number}
use Rattle.node.specs.Starting.{start_number}
use Rattle.node.specs.Sending.{send_number}
use Rattle.rounds.specs.Taking.{take_number}
use Rattle.boundary.specs.declared.Refusal.{Refusal}
use Rattle.boundary.specs.declared.Refusal.TheVariants.{Crew, Start, Send, Take, Read, Lookup, Split}
use Rattle.boundary.specs.declared.Refusal.TheVariants.{Unsound, WrongImage, WrongFields, NoEntry}
use Rattle.boundary.specs.Answers.{refusal_unit}

-- A refusal's number as the code has it: it has a byte of an answer, and is not 0.
pub record Numbered (number r : ℕ) : Type 0 where
  pub same : r ≡ number
  pub some : 0 < r
  pub byte : r < 256

-- the number of each refusal: an operation's own, or this boundary's
abbrev pub refusal_number : Refusal → ℕ
refusal_number (Crew why) = accept_number why
refusal_number (Start why) = start_number why
refusal_number (Send why) = send_number why
refusal_number (Take why) = take_number why
refusal_number (Read why) = read_number why
refusal_number (Lookup why) = lookup_number why
refusal_number (Split why) = split_number why
refusal_number Unsound = 7
refusal_number WrongImage = 25
refusal_number WrongFields = 26
refusal_number NoEntry = 27

-- what a result says, by these numbers
abbrev pub told : {A : Type 0} → Result A Refusal → Outcome A
told result = outcome_of refusal_number result

-- an outcome's value as a number
abbrev pub valued : {A : Type 0} → (A → ℕ) → Outcome A → Outcome ℕ
valued value (accepted a) = accepted (value a)
valued value (refused number) = refused number

-- What a call answers, before it is made one number: the value of the outcome of the engine's operation, which is below
-- every refusal, or its refusal.
pub record Gives {A : Type 0} (value : A → ℕ) (outcome : Outcome A) (result : Result ℕ Refusal) : Type 0 where
  pub same : told result ≡ valued value outcome
  pub small : value_or 0 (valued value outcome) < refusal_unit
