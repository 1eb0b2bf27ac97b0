-- `is_empty_from` meets its contract.
use mathlib.Core.Path.{◌≡◌, ap, ◌∙◌}
use Prim.Native.Nat.{◌-◌}
use native.Mathlib.Omega.{arith}
use lib.Bits.{bit_or}
use lib.Dec.{eqb}
use lib.ListN.{take, drop, length-drop}
use lib.Seq.{take_all}
use Rattle.std.proofs.Common.{rules}
use Rattle.std.specs.List.{fold}
use Rattle.wire.specs.Sizes.{history_size}
use Rattle.message.specs.Reading.{all_zero}
use Rattle.message.proofs.Zeros.{zeros_joined}
use Rattle.node.proofs.is_empty_from.Goals as goal

pub returns : goal.returns
returns c =
    let rest = drop c.args.phase c.args.history.now in
    let part = take (history_size - c.args.phase) rest in
    let joined : c.fold.result ≡ fold bit_or 0 part = search rules in
    let whole : part ≡ rest = take_all _ rest (omega (arith, length-drop c.args.phase c.args.history.now)) in
    ap (λ seen. eqb seen 0) joined ∙ zeros_joined part 0 ∙ ap all_zero whole
