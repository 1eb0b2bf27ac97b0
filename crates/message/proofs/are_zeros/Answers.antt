-- `are_zeros` meets its contract: the last block begins before the whole blocks end.
use mathlib.Core.Path.{ap₂, ◌∙◌}
use mathlib.Core.Bool.{◌&&◌}
use Prim.Native.Nat.{ℕ, ◌-◌, ◌%◌}
use native.Mathlib.Omega.{arith}
use lib.ListN.{length}
use Rattle.message.proofs.Zeros.{or_zero_lem, zeros_cover}
use Rattle.message.proofs.are_zeros.Goals as goal

-- as many bytes as the code joins at once
abbrev block : ℕ
block = 32

pub returns : goal.returns
returns c =
    let bytes = c.args.bytes.now in
    let n = length bytes in
    or_zero_lem c.joined-front.result c.joined-back.result
    ∙ ap₂ ◌&&◌ c.joined-front.ensures c.joined-back.ensures
    ∙ zeros_cover bytes (n - block) (n - n % block) (omega arith)
