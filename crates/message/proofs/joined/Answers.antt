-- `joined` meets its contract.
use mathlib.Core.Path.{◌≡◌, ap, ◌∙◌}
use lib.Bits.{bit_or}
use lib.Dec.{eqb}
use Rattle.std.proofs.Common.{rules}
use Rattle.std.specs.List.{fold}
use Rattle.message.proofs.Zeros.{zeros_joined}
use Rattle.message.proofs.joined.Goals as goal

pub returns : goal.returns
returns c =
    let joined : c.fold.result ≡ fold bit_or 0 c.args.bytes.now = search rules in
    ap (λ seen. eqb seen 0) joined ∙ zeros_joined c.args.bytes.now 0
