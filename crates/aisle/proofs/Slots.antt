-- What a say writes, and what stands in an array of slots while it is filled, sender by sender.
use mathlib.Core.Path.{◌≡◌, refl, ap, sym, ◌∙◌}
use mathlib.Core.Bool.{Bool, cond}
use mathlib.Core.List.{List, [], ◌++◌, append_assoc}
use Prim.Native.Nat.{ℕ, zero, suc, ◌+◌, ◌*◌, ◌-◌, ◌<◌, ◌≤◌}
use native.Mathlib.Nat.{add-sub_cancel_left}
use native.Mathlib.Omega.{arith}
use native.Mathlib.Numerals.{add-one}
use lib.ListN.{
  length,
  take,
  drop,
  replicate,
  length-append,
  length-drop,
  length-replicate,
  replicate-append-replicate,
  take-append-drop,
}
use lib.Seq.{length-take-le, take_at, drop_at, drop-drop}
use lib.Dec.{eqb}
use borrow.Author.Tests.{le-leb, ne_eqb}
use Rattle.crew.specs.Parts.{most_nodes}
use Rattle.message.specs.Fields.{selection, validation, decision}
use Rattle.message.specs.Layout.{slot_size}
use Rattle.writer.specs.Writing.{message_buffer_of, selection_buffer_of}
use Rattle.wire.specs.Entry.{entries_from}
use Rattle.wire.proofs.Tests.{by_equality}
use Rattle.aisle.specs.Round.{say_buffer, empty_slot, slots_of, inbox_size}
use Rattle.aisle.specs.Promises.{slot_in}

-- a selection that lists no phase has no entries
pub selection_said : (phase plan stamp : ℕ) (history slot : List ℕ)
    → selection_buffer_of 1 phase plan stamp history 0 slot
    ≡ message_buffer_of (record { run = 1; phase = phase; body = selection plan stamp [] }) slot
unfolding entries_from
selection_said phase plan stamp history slot = rw (le-leb 0 phase (omega arith))

-- a say in a later round is a validation, or in the third a decision
pub later_said : (phase round plan stamp : ℕ) (slot : List ℕ) → (plan ≡ 0 → ⊥) → (round ≡ 1 → ⊥)
    → (second : Bool) → eqb round 2 ≡ second
    → message_buffer_of
    (record { run = 1; phase = phase; body = cond second (validation plan) (decision plan stamp) }) slot
    ≡ say_buffer phase round plan stamp slot
unfolding say_buffer
later_said phase round plan stamp slot some later second is = rw (ne_eqb _ _ some, ne_eqb _ _ later, is)

-- A list's front, a part after it and its rest: what the part is, and the list with another part in its place.
module _ (front part rest new l : List ℕ) (a k : ℕ) (is : l ≡ front ++ (part ++ rest))
    (front_long : length front ≡ a) (part-long : length part ≡ k) where
  back : drop a l ≡ part ++ rest
  back = rw is (drop_at front (part ++ rest) a front_long)

  the_part : take k (drop a l) ≡ part
  the_part = rw back (take_at part rest k part-long)

  put_part : take a l ++ (new ++ drop k (drop a l)) ≡ (front ++ new) ++ rest
  put_part =
      rw (back, drop_at part rest k part-long, is, take_at front (part ++ rest) a front_long)
      (sym (append_assoc front new rest))

-- where a sender's slot begins
abbrev start : ℕ → ℕ
start s = slot_size * s

-- the same slots stand one after another where each sender's is the same
pub slots_same : (f g : ℕ → List ℕ) (n : ℕ) → ((s : ℕ) → s < n → f s ≡ g s) → slots_of f n ≡ slots_of g n
unfolding slots_of
slots_same f g zero same = refl
slots_same f g (suc n) same = rw (slots_same f g n (λ s h. same s (omega arith)), same n (omega arith))

module _ (slot : ℕ → List ℕ) where
  -- the slots of the first n senders are as long as a slot is
  abbrev Long : ℕ → Type 0
  Long n = (s : ℕ) → s < n → length (slot s) ≡ slot_size

  slots_more : (n : ℕ) → slots_of slot (n + 1) ≡ slots_of slot n ++ slot n
  unfolding slots_of
  slots_more n = rw (add-one n)

  slots_long : (n : ℕ) → Long n → length (slots_of slot n) ≡ start n
  unfolding slots_of
  slots_long zero long = refl
  slots_long (suc n) long =
      let before = slots_long n (λ s h. long s (omega arith)) in
      length-append (slots_of slot n) (slot n) ∙ omega (arith, before, long n (omega arith))

  -- where a sender's slot begins, its slot stands
  slot_there : (n s : ℕ) (rest : List ℕ) → s < n → Long n → slot_in (slots_of slot n ++ rest) s ≡ slot s
  unfolding slots_of
  slot_there zero s rest less long = absurd (omega arith)
  slot_there (suc n) s rest less long =
      let front : List ℕ = slots_of slot n in
      let before : Long n = λ k h. long k (omega arith) in
      let is : (front ++ slot n) ++ rest ≡ front ++ (slot n ++ rest) = append_assoc front (slot n) rest in
      by_equality s n
      (λ same.
      rw same
      (the_part front (slot n) rest [] _ (start n) slot_size is (slots_long n before) (long n (omega arith))))
      (λ apart. rw is (slot_there n s (slot n ++ rest) (omega (arith, apart)) before))

-- Of an array of slots, those of s senders are laid anew, and the others are as they were.
pub record Laid (slot : ℕ → List ℕ) (before slots : List ℕ) (s : ℕ) : Type 0 where
  pub within : s ≤ most_nodes
  pub size : length before ≡ inbox_size
  pub long : Long slot s
  pub laid : slots ≡ slots_of slot s ++ drop (start s) before

module _ (slot : ℕ → List ℕ) (before : List ℕ) where
  pub laid_none : length before ≡ inbox_size → Laid slot before before 0
  unfolding slots_of
  laid_none whole = record {
    within = omega arith;
    size = whole;
    long = λ s less. absurd (omega arith);
    laid = refl;
  }

  module _ (slots : List ℕ) where
    pub laid_size : (s : ℕ) → Laid slot before slots s → length slots ≡ inbox_size
    laid_size s inv =
        rw inv.laid
        (length-append (slots_of slot s) (drop (start s) before)
        ∙ omega (arith, slots_long slot s inv.long, length-drop (start s) before, inv.size, inv.within))

    -- the slots of n senders stand at the front
    pub laid_front : (n s : ℕ) → n ≤ s → s ≤ n → Laid slot before slots s → take (start n) slots ≡ slots_of slot n
    laid_front n s h k inv =
        let same : n ≡ s = omega arith in
        rw (same, inv.laid)
        (take_at (slots_of slot s) (drop (start s) before) (start s) (slots_long slot s inv.long))

    -- each sender's slot stands at its place
    pub laid_slot : (n s : ℕ) → s < n → Laid slot before slots n → slot_in slots s ≡ slot s
    laid_slot n s less inv = rw inv.laid (slot_there slot n s (drop (start n) before) less inv.long)

    module _ (s : ℕ) (less : s < most_nodes) (inv : Laid slot before slots s) where
      -- the slot of the next sender, which is lent, and what stands before and after it
      abbrev size : ℕ
      size = start s + slot_size - start s

      abbrev rest : List ℕ
      rest = drop (start (s + 1)) before

      old_long : length (slot_in before s) ≡ slot_size
      old_long =
          let room : slot_size ≤ length (drop (start s) before) =
          omega (arith, length-drop (start s) before, inv.size) in
          length-take-le slot_size (drop (start s) before) room

      size_is : length (slot_in before s) ≡ size
      size_is = old_long ∙ sym (add-sub_cancel_left (start s) slot_size)

      front_long : length (slots_of slot s) ≡ start s
      front_long = slots_long slot s inv.long

      apart : slots ≡ slots_of slot s ++ (slot_in before s ++ rest)
      apart =
          let next : start s + slot_size ≡ start (s + 1) = omega arith in
          let old : drop (start s) before ≡ slot_in before s ++ rest =
          sym (take-append-drop slot_size (drop (start s) before))
          ∙ ap (λ (l : List ℕ). slot_in before s ++ l)
          (drop-drop slot_size (start s) before ∙ ap (λ (k : ℕ). drop k before) next) in
          inv.laid ∙ ap (λ (l : List ℕ). slots_of slot s ++ l) old

      pub lent_old : take size (drop (start s) slots) ≡ slot_in before s
      lent_old = the_part (slots_of slot s) (slot_in before s) rest [] slots (start s) size apart front_long size_is

      pub lent_long : length (take size (drop (start s) slots)) ≡ slot_size
      lent_long = ap length lent_old ∙ old_long

      -- it comes back, as long as it was, and is the sender's
      pub laid_more : (x : List ℕ) → x ≡ slot s → length x ≡ length (take size (drop (start s) slots))
          → Laid slot before (take (start s) slots ++ (x ++ drop size (drop (start s) slots))) (s + 1)
      laid_more x is back_long = record {
        within = omega arith;
        size = inv.size;
        long = λ k h.
            by_equality k s
            (λ same. rw (same, ← is) (back_long ∙ lent_long))
            (λ other. inv.long k (omega (arith, other)));
        laid =
            put_part (slots_of slot s) (slot_in before s) rest x slots (start s) size apart front_long size_is
            ∙ ap (λ (l : List ℕ). l ++ rest) (ap (λ (l : List ℕ). slots_of slot s ++ l) is ∙ sym (slots_more slot s));
      }

-- a slot of an array of zeros is an empty slot
pub empty_there : (s : ℕ) → s < most_nodes → slot_in (replicate inbox_size 0) s ≡ empty_slot
empty_there s less =
    let more : inbox_size ≡ start s + (slot_size + (inbox_size - start s - slot_size)) = omega arith in
    let zeros : List ℕ = replicate (inbox_size - start s - slot_size) 0 in
    let is : replicate {A = ℕ} inbox_size 0 ≡ replicate (start s) 0 ++ (empty_slot ++ zeros) =
    ap (λ (n : ℕ). replicate n 0) more
    ∙ sym (replicate-append-replicate {A = ℕ} (start s) (slot_size + (inbox_size - start s - slot_size)) 0)
    ∙ ap (λ (l : List ℕ). replicate (start s) 0 ++ l)
    (sym (replicate-append-replicate {A = ℕ} slot_size (inbox_size - start s - slot_size) 0)) in
    the_part (replicate (start s) 0) empty_slot zeros [] (replicate inbox_size 0) (start s) slot_size is
    (length-replicate {A = ℕ} (start s) 0) (length-replicate {A = ℕ} slot_size 0)

-- what the size of the largest inbox comes to
inbox_size_lem : inbox_size ≡ 6464
inbox_size_lem = refl
