-- The answer and the whole buffer are as defined: refusals 7, 8 and 9 in order.
use Rattle.std.proofs.Common.{◌≡◌, ◌≢◌, ◌∙◌, sym, arith, rules, true, Ok}
use Rattle.std.specs.Prelude.{MatchResult, IsErrAnd}
use Rattle.wire.specs.Outcome.{refused}
use Rattle.writer.specs.Writing.{write_answer}
use Rattle.node.specs.Soundness.{sound}
use Rattle.node.specs.declared.SendRefusal.TheVariants.{Short}
use Rattle.node.proofs.SendLaws.{unsound_refused, spent_refused, never_out_of_bounds, sent_as_written}
use Rattle.node.proofs.Node.write.Goals as goal

pub write_coming-requires : goal.write_coming-requires
write_coming-requires c = record { is_sound = search rules; unspent = omega arith }

pub returns-then-not-is_sound : goal.returns-then-not-is_sound
returns-then-not-is_sound c = unsound_refused _ _ (search rules)

pub returns-then-self-ge-SPENT : goal.returns-then-self-ge-SPENT
returns-then-self-ge-SPENT c =
    let tested_sound : sound c.args.self.now ≡ true = search rules in
    spent_refused _ _ tested_sound c.if-self-ge-SPENT.true

pub returns : goal.returns
returns c =
    let wrote = c.write_coming.ensures in
    let inside : write_answer c.write_coming.result ≢ refused 13 =
    λ e. never_out_of_bounds _ _ (sym wrote.answer ∙ e) in
    let told : MatchResult c.write_coming.result (λ size. c.map_err.result ≡ Ok size)
    (λ why. IsErrAnd c.map_err.result (λ refusal. refusal ≡ Short)) =
    search rules in
    record { answer = sent_as_written _ _ inside told ∙ wrote.answer; left = wrote.left }
