-- `write_selection` meets its contract.
use Rattle.std.proofs.Common.{arith, ◌≡◌, true, false, rules, length, length-set}
use Rattle.wire.specs.Entry.{entries_from}
use Rattle.message.specs.Encoding.{encode}
use Rattle.message.proofs.EncodeLaws.{entry_bytes_length}
use Rattle.writer.proofs.HistoryLaws.{listed_counted}
use Rattle.writer.proofs.WriteLaws.{allowed, allows}
use Rattle.writer.proofs.WriteLaws.{selection_written, selection_too_short, selection_out_of_bounds}
use Rattle.writer.proofs.write_selection.Goals as goal

pub returns-then-not-allowed : goal.returns-then-not-allowed
returns-then-not-allowed c =
    let a = c.args in
    let broken : allowed a.phase a.vote a.stamp a.phases ≡ false = search rules in
    selection_out_of_bounds a.run a.phase a.vote a.stamp a.history.now a.phases a.buf.now broken

pub returns-then-buf-size : goal.returns-then-buf-size
returns-then-buf-size c =
    let a = c.args in
    let passed : allowed a.phase a.vote a.stamp a.phases ≡ true = search rules in
    let fields_allowed = allows a.run a.phase a.vote a.stamp a.history.now a.phases passed in
    let count = listed_counted a.history.now a.phases (omega arith) in
    selection_too_short fields_allowed _ (omega (arith, count, c.count_entries-count.ensures, c.if-buf-size.true))

pub put_entries-requires : goal.put_entries-requires
put_entries-requires c =
    let a = c.args in
    let passed : allowed a.phase a.vote a.stamp a.phases ≡ true = search rules in
    let fields_allowed = allows a.run a.phase a.vote a.stamp a.history.now a.phases passed in
    let long = entry_bytes_length (entries_from a.history.now 0 a.phases) in
    let count = listed_counted a.history.now a.phases (omega arith) in
    record {
      few = fields_allowed.few;
      room = simp length-set (omega (arith, long, count, c.count_entries-count.ensures, c.put_front.auto.buf));
    }

pub returns : goal.returns
unfolding encode
returns c =
    let a = c.args in
    let passed : allowed a.phase a.vote a.stamp a.phases ≡ true = search rules in
    let fields_allowed = allows a.run a.phase a.vote a.stamp a.history.now a.phases passed in
    let count : c.count_entries-count.result ≡ length (entries_from a.history.now 0 a.phases) =
    omega (arith, listed_counted a.history.now a.phases (omega arith), c.count_entries-count.ensures) in
    let done = selection_written fields_allowed a.buf.now (omega (arith, count, c.if-buf-size.false)) in
    record {
      answer = rw (c.from.ensures, count) done.answer;
      left = simp (c.put_entries.ensures, c.put_front.ensures, c.from.ensures, count) done.left;
    }
