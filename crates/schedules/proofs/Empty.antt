-- The empty inbox: it is as long as an inbox has to be, it holds bytes, and nothing counts in it.
use mathlib.Core.Path.{◌≡◌, refl, ap, ◌∙◌}
use mathlib.Core.Bool.{Bool, true, false, cond, ◌&&◌}
use mathlib.Core.List.{List}
use mathlib.Core.Option.{Option, none}
use Prim.Native.Nat.{ℕ, ◌+◌, ◌*◌, ◌<◌}
use native.Mathlib.Omega.{arith}
use lib.ListN.{length, get_or, drop, length-replicate}
use lib.Seq.{get_or-take, get_or-drop}
use lib.Dec.{leb}
use borrow.Author.Tests.{leb-true}
use Rattle.wire.specs.Outcome.{refused}
use Rattle.wire.specs.Bytes.{AreBytes}
use Rattle.wire.proofs.Arrays.{same_everywhere}
use Rattle.wire.proofs.Tests.{both_true}
use Rattle.crew.specs.Group.{speaks}
use Rattle.message.specs.Layout.{header_size, slot_size}
use Rattle.message.specs.Reading.{length_at, framed, front_of, read_of}
use Rattle.ballot.specs.Ballot.{Ballot}
use Rattle.node.specs.declared.Node.{Node}
use Rattle.inbox.specs.Inbox.{slot_at, counted, ballot_at}
use Rattle.schedules.specs.Schedule.{empty_inbox}

pub empty_length : (n : ℕ) → length (empty_inbox n) ≡ slot_size * n
empty_length n = length-replicate {A = ℕ} (slot_size * n) 0

empty_at : (n i : ℕ) → ◌≡◌ {A = ℕ} (get_or (empty_inbox n) i 0) 0
empty_at n i = same_everywhere (slot_size * n) i 0

pub empty_bytes : (n : ℕ) → AreBytes (empty_inbox n)
empty_bytes n place = omega (arith, empty_at n place)

slot_at_lem : (n q i : ℕ) → i < slot_size → ◌≡◌ {A = ℕ} (get_or (slot_at (empty_inbox n) q) i 0) 0
slot_at_lem n q i h =
    get_or-take slot_size (drop (slot_size * q) (empty_inbox n)) i 0 h
    ∙ get_or-drop (slot_size * q) (empty_inbox n) i 0
    ∙ empty_at n (slot_size * q + i)

-- reading refuses a slice whose length stands as 0
no_length : (s : List ℕ) → ◌≡◌ {A = ℕ} (length_at s) 0 → read_of s ≡ refused 10
unfolding read_of front_of
no_length s e = go (framed s) refl
  where
    go : (b : Bool) → framed s ≡ b → read_of s ≡ refused 10
    go true h =
        let first =
        (both_true (leb header_size (length s) && leb header_size (length_at s)) (leb (length_at s) (length s)) h).0 in
        let header = (both_true (leb header_size (length s)) (leb header_size (length_at s)) first).1 in
        absurd (omega (arith, leb-true header_size (length_at s) header))
    go false h = rw h

pub nothing_counts : (d : Node) (n q : ℕ) → ballot_at d (empty_inbox n) q ≡ none
nothing_counts d n q =
    ap (λ read. cond (speaks d.crew d.phase d.round q) (counted d.run d.phase d.round read) none)
    (no_length (slot_at (empty_inbox n) q)
    (omega (arith, slot_at_lem n q 0 (omega arith), slot_at_lem n q 1 (omega arith))))
    ∙ silence (speaks d.crew d.phase d.round q)
  where
    silence : (turn : Bool) → ◌≡◌ {A = Option Ballot} (cond turn none none) none
    silence true = refl
    silence false = refl
