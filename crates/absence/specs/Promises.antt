-- What private functions promise: no public contract cites this file.
use Rattle.std.specs.Prelude.{ℕ, ◌+◌, ◌*◌, ◌≤◌, ◌≡◌, List, length, replicate}
use Rattle.std.proofs.lemmas.List.Edits.{sets}
use Rattle.crew.specs.Parts.{most_nodes}
use Rattle.script.specs.Lines.{space}
use Rattle.print.specs.Texts.{WroteWithin}
use Rattle.absence.specs.Ring.{window_after}
use Rattle.absence.specs.Lines.{text_most, records_in, count_text, lines_of}
use Rattle.absence.specs.declared.Window.{Window}

-- how long a line of counts can be
abbrev pub counts_most : ℕ
counts_most = text_most * most_nodes

-- the text of a count and a space after it, in as many bytes as the longest has; behind a shorter one stand zeros
unfoldable pub padded_text : ℕ → List ℕ
padded_text count = sets (replicate text_most 0) 0 (count_text count space)

-- how long that text is
pub record TextSize (count r : ℕ) : Type 0 where
  pub size : r ≡ length (count_text count space)
  pub within : r ≤ text_most

-- A count's text is laid with what it is padded by, and the place after the text told.
pub record LaidPadded (count : ℕ) (l : List ℕ) (at : ℕ) (l' : List ℕ) (at' : ℕ) : Type 0 where
  pub left : l' ≡ sets l at (padded_text count)
  pub next : at' ≡ at + length (count_text count space)
  pub within : at' ≤ at + text_most

-- A text is written as `WroteWithin` says, but that up to two bytes behind it hold anything.
pub record Spilt (most : ℕ) (l : List ℕ) (at : ℕ) (text l' : List ℕ) (at' : ℕ) : Type 0 where
  pub spill : List ℕ
  pub few : length spill ≤ 2
  pub next : at' ≡ at + length text
  pub left : l' ≡ sets (sets l at text) at' spill
  pub within : at' ≤ at + most

-- The first n records of a part are added, and their lines laid.
pub record LaidLines (w : Window) (part : List ℕ) (n : ℕ) (next : Window) (lent after : List ℕ) (r : ℕ) : Type 0 where
  pub window : next ≡ window_after w (records_in part 0 n)
  pub wrote : WroteWithin (counts_most * n) lent 0 (lines_of w (records_in part 0 n)) after r
