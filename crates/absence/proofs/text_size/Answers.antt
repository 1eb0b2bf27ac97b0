-- `text_size` meets its contract.
use mathlib.Core.Path.{refl}
use native.Mathlib.Omega.{arith}
use Rattle.absence.proofs.Digits.{one_digit, two_digits, three_digits}
use Rattle.absence.proofs.text_size.Goals as goal

pub returns-in-0-to-9 : goal.returns-in-0-to-9
returns-in-0-to-9 c = record { size = rw (one_digit c.args.count (omega arith)) refl; within = omega arith }

pub returns-in-10-to-99 : goal.returns-in-10-to-99
returns-in-10-to-99 c =
    record { size = rw (two_digits c.args.count (omega arith) (omega arith)) refl; within = omega arith }

pub returns-in_default : goal.returns-in_default
returns-in_default c =
    record { size = rw (three_digits c.args.count (omega arith) (omega arith)) refl; within = omega arith }
