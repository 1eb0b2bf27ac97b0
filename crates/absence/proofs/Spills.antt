-- Texts whose last bytes spill over what comes after them: one laid over the spill leaves nothing of it.
use mathlib.Core.Path.{refl, ap, ◌∙◌}
use mathlib.Core.List.{List, [], ◌++◌}
use Prim.Native.Nat.{ℕ, ◌+◌, ◌*◌, ◌≤◌}
use native.Mathlib.Omega.{arith}
use native.Mathlib.Numerals.{add-one}
use lib.ListN.{length, length-append}
use lib.Seq.{sets}
use Rattle.wire.proofs.Stores.{sets_append, sets_over}
use Rattle.script.specs.Lines.{space}
use Rattle.print.specs.Texts.{WroteWithin}
use Rattle.absence.specs.Lines.{text_most, count_text, spaced}
use Rattle.absence.specs.Promises.{padded_text, LaidPadded, Spilt}
use Rattle.absence.proofs.Digits.{text_some, Padded, text_padded}

pub spilt_none : (l : List ℕ) (at : ℕ) → Spilt 0 l at [] l at
spilt_none l at = record { spill = []; few = omega arith; next = omega arith; left = refl; within = omega arith }

-- one count more
module _ (count : ℕ → ℕ) (q : ℕ) {l l' l'' : List ℕ} {at at' at'' : ℕ}
    (so_far : Spilt (text_most * q) l at (spaced count q) l' at') (laid : LaidPadded (count q) l' at' l'' at'') where
  abbrev text : List ℕ
  text = count_text (count q) space

  spilt_next : Padded (padded_text (count q)) text
      → Spilt (text_most * (q + 1)) l at (spaced count (q + 1)) l'' at''
  unfolding spaced
  spilt_next bytes =
      let whole = sets l at (spaced count q) in
      rw (add-one q)
      (record {
        spill = bytes.spill;
        few = bytes.few;
        next = omega (arith, so_far.next, laid.next, length-append (spaced count q) text);
        left = laid.left
            ∙ ap (λ (m : List ℕ). sets m at' (padded_text (count q))) so_far.left
            ∙ ap (sets (sets whole at' so_far.spill) at') bytes.same
            ∙ sets_over whole at' so_far.spill (text ++ bytes.spill)
            (omega (arith, so_far.few, text_some (count q) space, length-append text bytes.spill))
            ∙ sets_append text bytes.spill whole at'
            ∙ rw (laid.next, sets_append (spaced count q) text l at, ← so_far.next);
        within = omega (arith, so_far.within, laid.within);
      })

  pub spilt_more : Spilt (text_most * (q + 1)) l at (spaced count (q + 1)) l'' at''
  spilt_more = spilt_next (text_padded (count q) (omega (arith, laid.next, laid.within)))

-- a text that is laid over the spill
pub spilt_end : {most more : ℕ} {l text l' last l'' : List ℕ} {at at' at'' : ℕ} → Spilt most l at text l' at'
    → WroteWithin more l' at' last l'' at'' → 2 ≤ length last → WroteWithin (most + more) l at (text ++ last) l'' at''
spilt_end {l = l} {text = text} {last = last} {at = at} {at' = at'} so_far end enough =
    record {
      wrote = record {
        next = omega (arith, so_far.next, end.wrote.next, length-append text last);
        left = end.wrote.left
            ∙ ap (λ (m : List ℕ). sets m at' last) so_far.left
            ∙ sets_over (sets l at text) at' so_far.spill last (omega (arith, so_far.few))
            ∙ rw (sets_append text last l at, ← so_far.next);
      };
      within = omega (arith, so_far.within, end.within);
    }
