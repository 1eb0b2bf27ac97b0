-- The least crews, by search, and what a lookup answers: document 02, C-11.
use Rattle.std.specs.Prelude.{ℕ, zero, suc, Bool, true, false, cond, ◌&&◌, leb, Result}
use Rattle.std.proofs.Math.Option.{Option, none, some}
use Rattle.wire.specs.Outcome.{Outcome, accepted, require, is_accepted, outcome_of}
use Rattle.crew.specs.declared.Crew.{Crew}
use Rattle.crew.specs.Parts.{crew_of}
use Rattle.crew.specs.Acceptance.{accept_of}
use Rattle.least_crews.specs.declared.Least.{Least}
use Rattle.least_crews.specs.declared.LookupRefusal.{LookupRefusal}
use Rattle.least_crews.specs.declared.LookupRefusal.TheVariants.{Range}

-- the first number that passes a test, of `count` numbers from `from` on
unfoldable pub first_from : (ℕ → Bool) → ℕ → ℕ → Option ℕ
first_from test from zero = none
first_from test from (suc count) = cond (test from) (some from) (first_from test (suc from) count)

-- n and D are numbers of one byte: so many there are, from 0 on
abbrev pub byte_values : ℕ
byte_values = 256

-- the least of them that passes a test
abbrev pub least_byte : (ℕ → Bool) → Option ℕ
least_byte test = first_from test 0 byte_values

abbrev pub is_found : Option ℕ → Bool
is_found none = false
is_found (some number) = true

-- the crew of a lookup that has n nodes and in which D votes decide; all nodes are its group, so no lookup is about c
abbrev pub crew_with : ℕ → ℕ → ℕ → ℕ → ℕ → Crew
crew_with class b f n d = crew_of class n b f d n

-- whether it is accepted
abbrev pub fits : ℕ → ℕ → ℕ → ℕ → ℕ → Bool
fits class b f n d = is_accepted (accept_of (crew_with class b f n d))

-- 02: "the least D accepted for that n"
abbrev pub least_d : ℕ → ℕ → ℕ → ℕ → Option ℕ
least_d class b f n = least_byte (fits class b f n)

-- 02: "the least n that any D lets be accepted"
unfoldable pub least_n : ℕ → ℕ → ℕ → Option ℕ
least_n class b f = least_byte (λ n. is_found (least_d class b f n))

-- 02: "both 0 where n would pass 32", for then no n is accepted
abbrev pub no_crew : Least
no_crew = record { n = 0; d = 0 }

-- an entry of the n that was found, if one was, and of the D that is found for it
abbrev pub with_d : ℕ → Option ℕ → Least
with_d n none = no_crew
with_d n (some d) = record { n = n; d = d }

abbrev pub with_n : (ℕ → Option ℕ) → Option ℕ → Least
with_n d_of none = no_crew
with_n d_of (some n) = with_d n (d_of n)

unfoldable pub least_crew : ℕ → ℕ → ℕ → Least
least_crew class b f = with_n (least_d class b f) (least_n class b f)

-- 02: "class 1 to 3, b 0 to 10 and f 0 to 15"
abbrev pub last_class : ℕ
last_class = 3

abbrev pub most_b : ℕ
most_b = 10

abbrev pub most_f : ℕ
most_f = 15

abbrev pub in_range : ℕ → ℕ → ℕ → Bool
in_range class b f = leb 1 class && leb class last_class && leb b most_b && leb f most_f

-- 02: "It refuses with 15 a lookup outside these ranges, tested first."
unfoldable pub lookup_of : ℕ → ℕ → ℕ → Outcome Least
lookup_of class b f = require (in_range class b f) 15 (accepted (least_crew class b f))

-- 02's number of the refusal
abbrev pub lookup_number : LookupRefusal → ℕ
lookup_number Range = 15

-- what an answer of `lookup` says in 02's terms
abbrev pub lookup_answer : Result Least LookupRefusal → Outcome Least
lookup_answer answer = outcome_of lookup_number answer
