-- The least vote among the ballots that pass a test: document 01 takes the least where more than one plan would do.
use Rattle.std.specs.Prelude.{Bool, cond, List, [], ◌∷◌, ℕ, min}
use Rattle.std.proofs.Math.Option.{Option, none, some}
use Rattle.ballot.specs.Ballot.{Ballot}

-- the lower of a vote and the least so far
abbrev pub lower : ℕ → Option ℕ → Option ℕ
lower v none = some v
lower v (some w) = some (min v w)

-- the least vote of the ballots that pass, if any does
unfoldable pub least : (Ballot → Bool) → List Ballot → Option ℕ
least p [] = none
least p (m ∷ ms) = cond (p m) (lower m.vote (least p ms)) (least p ms)

-- 0 where there is none
abbrev pub or_zero : Option ℕ → ℕ
or_zero none = 0
or_zero (some v) = v

-- the least vote that passes a test of plans, 0 where none does
unfoldable pub least_of : (ℕ → Bool) → List Ballot → ℕ
least_of f ballots = or_zero (least (λ m. f m.vote) ballots)
