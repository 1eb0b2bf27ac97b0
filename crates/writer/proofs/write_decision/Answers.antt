-- `write_decision` meets its contract.
use Rattle.std.proofs.Common.{arith, ◌≡◌, true, false, rules}
use Rattle.message.specs.Bounds.{within}
use Rattle.message.specs.Encoding.{encode}
use Rattle.writer.specs.Writing.{decision_of}
use Rattle.writer.proofs.WriteLaws.{written, too_short, out_of_bounds}
use Rattle.writer.proofs.write_decision.Goals as goal

pub returns-then-not-stamp-phase : goal.returns-then-not-stamp-phase
returns-then-not-stamp-phase c =
    let broken : within (decision_of c.args.run c.args.phase c.args.vote c.args.stamp) ≡ false = search rules in
    out_of_bounds _ _ broken

pub returns-then-buf-from : goal.returns-then-buf-from
returns-then-buf-from c =
    let in_bounds : within (decision_of c.args.run c.args.phase c.args.vote c.args.stamp) ≡ true = search rules in
    too_short _ _ in_bounds (omega arith)

pub returns : goal.returns
unfolding encode
returns c =
    let in_bounds : within (decision_of c.args.run c.args.phase c.args.vote c.args.stamp) ≡ true = search rules in
    rw (c.put_front.ensures, c.from-2.ensures) (written _ _ in_bounds (omega arith))
