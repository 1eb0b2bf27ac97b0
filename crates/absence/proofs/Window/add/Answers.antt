-- `Window::add` meets its contract: by the test of the record's number.
use mathlib.Core.Path.{◌≡◌, sym, ap, ◌∙◌}
use mathlib.Core.Bool.{Bool, not}
use Prim.Native.Nat.{◌+◌}
use native.Mathlib.Omega.{arith}
use Rattle.wire.specs.Outcome.{accepted, require, verdict, value_or}
use Rattle.absence.specs.declared.Run.{Run}
use Rattle.absence.specs.declared.Window.{Window}
use Rattle.absence.specs.Ring.{repeats_at, held_next, with_run, add_of}
use Rattle.absence.proofs.Window.add.Goals as goal

add_is : (w : Window) (run : Run) {is test : Bool} → is ≡ repeats_at w run.number → is ≡ test
    → add_of w run ≡ require (not test) 23 (accepted (with_run w run))
unfolding add_of
add_is w run e t = ap (λ (u : Bool). require (not u) 23 (accepted (with_run w run))) (sym e ∙ t)

pub returns-then-is_repeat : goal.returns-then-is_repeat
returns-then-is_repeat c =
    let w = c.args.self.now in
    let is = add_is w c.args.run c.is_repeat.ensures c.if-is_repeat.true in
    record { answer = sym (ap verdict is); window = sym (ap (value_or w) is) }

pub returns : goal.returns
returns c =
    let w = c.args.self.now in
    let is = add_is w c.args.run c.is_repeat.ensures c.if-is_repeat.false in
    let more : c.min.result + 1 ≡ held_next w.held = omega (arith, c.min.ensures) in
    record {
      answer = sym (ap verdict is);
      window = rw (is, c.recount.ensures, c.leaving-leaving.ensures, more);
    }
