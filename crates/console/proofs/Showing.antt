-- A script while it is shown: what has been handed out and what is to come are together what it prints.
use mathlib.Core.Path.{◌≡◌, refl, ap, ◌∙◌}
use mathlib.Core.List.{List}
use Prim.Native.Nat.{ℕ, ◌+◌, ◌*◌, ◌≤◌}
use native.Mathlib.Omega.{arith}
use lib.ListN.{length, length-append}
use Rattle.print.specs.Texts.{line_most}
use Rattle.drill.specs.declared.Cursor.{Cursor}
use Rattle.drill.specs.Run.{most_bytes, drill_of}
use Rattle.drill.specs.Stepping.{outset, rest, step_of}
use Rattle.drill.proofs.Whole.{Ahead, finished, further, rest_all, rest_over, step_splits, step_ahead}

-- What has been handed out is far from the largest number: a line for each byte at the most.
pub record Near (c : Cursor) (size : ℕ) : Type 0 where
  pub lines : size ≤ line_most * (c.at + 1)
  pub low : c.at ≤ most_bytes

-- so many bytes have been handed out where the drill stands here
pub record Shows (input : List ℕ) (c : Cursor) (size : ℕ) : Type 0 where
  pub left : size + length (rest input c) ≡ length (drill_of input)
  pub near : (c.line ≡ 0 → ⊥) → Near c size

outset_low : outset.at ≡ 0
unfolding outset
outset_low = refl

-- before line 1 none
pub shows_none : (input : List ℕ) (c : Cursor) → c ≡ outset → Shows input c 0
shows_none input c e = record {
  left = rw e (omega (arith, ap length (rest_all input)));
  near = λ on. record { lines = omega arith; low = rw e (omega (arith, outset_low)) };
}

module _ {input : List ℕ} {c : Cursor} {size : ℕ} (shows : Shows input c size) where
  -- a step's text is handed out
  pub shows_more : (c.line ≡ 0 → ⊥) → (next : Cursor) (s : ℕ) → next ≡ (step_of input c).next
      → s ≡ length (step_of input c).text → s ≤ line_most → Shows input next (size + s)
  shows_more on next s e es within = record {
    left =
        let parts : length (rest input c) ≡ length (step_of input c).text + length (rest input (step_of input c).next) =
        ap length (step_splits input c) ∙ length-append (step_of input c).text (rest input (step_of input c).next) in
        rw e (omega (arith, shows.left, parts, es));
    near = rw e (go (step_ahead input c));
  }
    where
      go : Ahead input c (step_of input c).next → ((step_of input c).next.line ≡ 0 → ⊥)
          → Near (step_of input c).next (size + s)
      go (finished over) more = absurd (more over)
      go (further ahead stands) more =
          let here = shows.near on in
          record { lines = omega (arith, here.lines); low = omega (arith, stands.inside, stands.short) }

  -- a drill that is over has been handed out whole
  pub shows_all : c.line ≡ 0 → size ≡ length (drill_of input)
  shows_all over =
      let none : length (rest input c) ≡ 0 = ap length (rest_over input c over) in
      omega (arith, shows.left, none)
