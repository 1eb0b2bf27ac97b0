-- Half of what is left to try is tried in each turn.
use mathlib.Core.Path.{◌≡◌, sym, ap, ◌∙◌}
use Prim.Native.Nat.{ℕ, ◌+◌, ◌-◌, ◌*◌, ◌/◌, ◌%◌, ◌≤◌, ◌<◌}
use native.Mathlib.Omega.{arith}
use native.Mathlib.Nat.{add-mul, lt_of_not-le, one-mul, mod-eq_of_lt, add-mul-mod_self_right, mul-le-mul, mul-le-mul_right}
use Rattle.std.specs.Prelude.{Option, Some, None, SomeIff}
use Rattle.std.specs.Option.{unwrap_or}
use Rattle.crew.proofs.left_over.Goals as goal

-- half of the times are tried: they are taken away, or they were not in it; then the others are enough
half_tried : (n rest left half next : ℕ) (tried : Option ℕ) → half + half ≤ left → rest < left * n
    → SomeIff tried (half * n ≤ rest) (rest - half * n) → next ≡ unwrap_or tried rest
    → (next % n ≡ rest % n) × (next < (left - half) * n)
half_tried n rest left half next (Some less) fewer below taken e =
    let back : next + half * n ≡ rest = omega (arith, taken.0, taken.1, e) in
    let parts : left * n ≡ (left - half) * n + half * n =
    ap (λ x. x * n) (omega arith) ∙ add-mul (left - half) half n in
    (sym (add-mul-mod_self_right next half n) ∙ ap (λ x. x % n) back, omega (arith, parts))
half_tried n rest left half next None fewer below away e =
    let short : rest < half * n = lt_of_not-le away in
    let enough : half * n ≤ (left - half) * n = mul-le-mul_right n (omega arith) in
    (ap (λ x. x % n) e, omega (arith, e, short, enough))

pub overflow_mul-half : goal.overflow_mul-half
overflow_mul-half c =
    let half : c.loop-left.left / 2 ≤ 128 = omega arith in
    let byte : c.args.n ≤ 255 = omega arith in
    record { fits = omega (arith, mul-le-mul half byte) }

pub loop-left-preserved : goal.loop-left-preserved
loop-left-preserved c =
    let left = c.loop-left.left in
    let next =
    half_tried c.args.n c.loop-left.rest left (left / 2) _ c.checked_sub.result (omega arith) c.loop-left.invariant.1
    c.checked_sub.ensures c.unwrap_or-rest.ensures in
    (next.0 ∙ c.loop-left.invariant.0, next.1, omega arith)

pub returns : goal.returns
returns c =
    let n = c.args.n in
    let once : c.loop-left.left * n ≤ 1 * n = mul-le-mul_right n (omega arith) in
    let below : c.loop-left.rest < n = omega (arith, once, one-mul n) in
    (sym (mod-eq_of_lt below) ∙ c.loop-left.invariant.0, below)
