-- Promises of private functions: no public contract cites this file.
use Rattle.std.specs.Prelude.{◌≡◌, List, ℕ, length}
use Rattle.std.proofs.lemmas.List.Edits.{sets}
use Rattle.wire.specs.Sizes.{history_size}
use Rattle.image.specs.Layout.{history_place, history_bytes}

-- A history that is laid in an image: it has a plan for each phase, and they stand one after the other.
pub record HistoryLaid (image history image' : List ℕ) : Type 0 where
  pub long : length history ≡ history_size
  pub laid : image' ≡ sets image history_place (history_bytes history)
