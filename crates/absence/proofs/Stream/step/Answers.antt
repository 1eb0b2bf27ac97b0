-- `Stream::step` meets its contract.
use mathlib.Core.Path.{◌∙◌}
use native.Mathlib.Nat.{zero-add}
use native.Mathlib.Omega.{arith}
use Rattle.absence.proofs.Stream.step.Goals as goal

pub returns : goal.returns
returns c =
    let n = c.taken-n.ensures in
    let laid = c.put_lines-size.ensures.wrote in
    record {
      next = rw (c.put_lines-size.ensures.window, c.left_after-self.ensures, n);
      size = (rw n at laid.wrote.next) ∙ zero-add _;
      lines = rw n at laid.wrote.left;
      within = omega (arith, laid.within, n);
    }
