-- The fields of a message: document 01, 'Messages'.
use Rattle.std.specs.Prelude.{ℕ, List}
use Rattle.wire.specs.Entry.{Entry}

-- what a message says, by its kind
pub data Body : Type 0 where
  selection : (vote stamp : ℕ) → List Entry → Body
  validation : (plan : ℕ) → Body
  decision : (vote stamp : ℕ) → Body

pub record Message : Type 0 where
  pub run : ℕ
  pub phase : ℕ
  pub body : Body
