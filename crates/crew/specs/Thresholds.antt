-- The numbers that the rules hold counts against: document 01, 'The three rounds', and 02, C-13.
use Rattle.std.specs.Prelude.{ℕ, ◌+◌, ◌-◌, ◌*◌, cond, eqb}
use Rattle.crew.specs.declared.Crew.{Crew}

-- The algorithm's three classes. Only accepted crews come to the rules, so a class is 1, 2 or 3 there.
pub data Class : Type 0 where
  one two three : Class

abbrev pub class_of : Crew → Class
class_of crew = cond (eqb crew.class 1) one (cond (eqb crew.class 2) two three)

-- 01: "Let E = n − D + b."
abbrev pub E : Crew → ℕ
E crew = crew.n - crew.d + crew.b

-- 'any' asks for more slots than this: `enough` in ballot/specs/Selection
abbrev pub any_above : Class → Crew → ℕ
any_above one crew = 2 * E crew
any_above two crew = E crew + crew.b
any_above three crew = E crew

-- validation asks that twice the count passes this: `valid` in ballot/specs/Validation
abbrev pub valid_above : Crew → ℕ
valid_above crew = crew.c + crew.b
