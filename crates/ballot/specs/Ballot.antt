-- A ballot is what one counting slot says; the rules see an inbox as the list of its ballots. Which slots count says
-- inbox/specs/Inbox, from document 01, 'Messages'.
use Rattle.std.specs.Prelude.{Bool, true, false, ◌&&◌, List, [], ◌∷◌, ℕ, ltb, eqb}
use Rattle.std.proofs.Math.Option.{Option}
use Rattle.wire.specs.Entry.{Entry}
use Rattle.crew.specs.declared.Crew.{Crew}
use Rattle.ballot.specs.Count.{count_if, gather}

-- the plan voted for, its stamp, and the entries that stand in a selection
pub record Ballot : Type 0 where
  pub vote : ℕ
  pub stamp : ℕ
  pub entries : List Entry

-- the ballots of an inbox: what its n slots say, where they count
abbrev pub inbox : Crew → (ℕ → Option Ballot) → List Ballot
inbox crew slots = gather slots crew.n

abbrev pub votes : ℕ → Ballot → Bool
votes v m = eqb m.vote v

abbrev pub stamped : ℕ → Ballot → Bool
stamped t m = eqb m.stamp t

abbrev pub is_entry : ℕ → ℕ → Entry → Bool
is_entry phase plan e = eqb e.phase phase && eqb e.plan plan

-- the ballot lists v at phase t
unfoldable pub lists : ℕ → ℕ → Ballot → Bool
lists v t m = ltb 0 (count_if (is_entry t v) m.entries)

-- Two ballots say the same.
-- 01: "Two inboxes with the same counting messages, each in as many slots of one as of the other, give the same
-- answers."
abbrev pub same_entry : Entry → Entry → Bool
same_entry a b = eqb a.phase b.phase && eqb a.plan b.plan

abbrev pub same_entries : List Entry → List Entry → Bool
same_entries [] [] = true
same_entries [] (y ∷ k) = false
same_entries (x ∷ l) [] = false
same_entries (x ∷ l) (y ∷ k) = same_entry x y && same_entries l k

abbrev pub same_ballot : Ballot → Ballot → Bool
same_ballot a b =
    eqb a.vote b.vote && (eqb a.stamp b.stamp && same_entries a.entries b.entries)
