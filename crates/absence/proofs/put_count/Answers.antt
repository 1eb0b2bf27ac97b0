-- `put_count` meets its contract.
use native.Mathlib.Omega.{arith}
use Rattle.print.proofs.Writing.{within_then, within_more}
use Rattle.absence.proofs.Digits.{one_digit, two_digits, three_digits}
use borrow.Author.Rules.{rules}
use Rattle.absence.proofs.put_count.Goals as goal

pub returns-then-count-lt10 : goal.returns-then-count-lt10
returns-then-count-lt10 c =
    rw (one_digit _ c.if-count-lt10.true) (within_more c.put_digit.ensures (omega arith))

pub returns-then-count-lt100 : goal.returns-then-count-lt100
returns-then-count-lt100 c =
    rw (two_digits _ c.if-count-lt10.false c.if-count-lt100.true)
    (within_more (within_then c.put_digit-tens.ensures c.put_digit-then-count-lt100.ensures) (omega arith))

pub returns : goal.returns
returns c =
    rw (three_digits _ c.if-count-lt100.false (search rules))
    (within_then c.put_digit-hundreds.ensures (within_then c.put_digit-tens-2.ensures c.put_digit-2.ensures))
