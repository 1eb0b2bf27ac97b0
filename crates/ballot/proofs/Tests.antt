-- Tests on a slot that may be empty, as facts.
use mathlib.Core.Path.{◌≡◌, refl}
use mathlib.Core.Bool.{Bool, true, false, cond}
use mathlib.Core.Option.{Option, none, some, none-ne-some}
use lib.Dec.{T}
use Rattle.ballot.specs.Count.{holds}

module _ {A : Type 0} (p : A → Bool) where
  pub holds_T : (o : Option A) → T (holds p o) → (a : A) × (o ≡ some a) × T (p a)
  holds_T none h = absurd h
  holds_T (some a) h = (a, refl, h)

  pub T-holds : (o : Option A) (a : A) → o ≡ some a → T (p a) → T (holds p o)
  T-holds o a e t = rw e t

-- a node that says something only where it is its turn
module _ {A : Type 0} where
  pub said_turn : {o : Option A} {a : A} (turn : Bool) → cond turn o none ≡ some a → T turn × (o ≡ some a)
  said_turn true e = (tt, e)
  said_turn false e = absurd (none-ne-some _ e)

  pub turn_says : {o : Option A} (turn : Bool) → T turn → cond turn o none ≡ o
  turn_says true t = refl
  turn_says false t = absurd t
