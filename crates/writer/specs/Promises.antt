-- Where entries have room, and what putting them leaves.
-- Promises of private functions: no public contract cites this file.
use Rattle.std.specs.Prelude.{ℕ, ◌+◌, ◌≤◌, ◌≡◌, List, length}
use Rattle.std.proofs.lemmas.List.Edits.{sets}
use Rattle.wire.specs.Sizes.{last_phase}
use Rattle.wire.specs.Entry.{Entry, entries_from}
use Rattle.message.specs.Layout.{entries_place}
use Rattle.message.specs.Encoding.{entry_bytes}

-- a history has the phases, and their entries have room in the buffer behind a selection's other fields
pub record HaveRoom (history : List ℕ) (phases : ℕ) (buffer : List ℕ) : Type 0 where
  pub few : phases ≤ last_phase
  pub room : entries_place + length (entry_bytes (entries_from history 0 phases)) ≤ length buffer

-- From the buffer and the place, putting entries leaves the buffer after and goes on to the place after: their bytes
-- stand there, and no other byte of it has changed.
pub record Put (buffer : List ℕ) (place : ℕ) (entries : List Entry) (after : List ℕ) (next : ℕ) : Type 0 where
  pub goes_on : next ≡ place + length (entry_bytes entries)
  pub left : after ≡ sets buffer place (entry_bytes entries)
