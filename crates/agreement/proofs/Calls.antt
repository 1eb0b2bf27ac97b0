-- The calls of one node in a round: the inbox that it takes, the record that it gets, and which writes it made.
use mathlib.Core.Path.{◌≡◌, refl, sym, ap, ◌∙◌, subst}
use mathlib.Core.Bool.{cond}
use mathlib.Core.List.{List, [], ◌∷◌}
use mathlib.Core.Logic.{inl, inr, ◌≢◌}
use mathlib.Core.Option.{none, some, none-ne-some}
use Prim.Native.Nat.{ℕ, ◌*◌, ◌<◌}
use native.Mathlib.Omega.{arith}
use native.Mathlib.Decide.{dec_lt}
use lib.ListN.{length, get_or-eq_default}
use Rattle.wire.specs.Outcome.{accepted, refused, value_or, is_accepted}
use Rattle.message.specs.Layout.{slot_size}
use Rattle.node.specs.declared.Node.{Node}
use Rattle.rounds.specs.Taking.{take_of}
use Rattle.agreement.specs.Statement.{Call, write, ask, take_round, Execution, after_call, after_calls, calls_of}
use Rattle.agreement.specs.Statement.{record_at, taken_inbox, inbox_at, Puts, Wrote, Asks, Whole}

-- asks change no record and write nothing
asks_keep : (d : Node) (cs : List Call) → Asks cs → after_calls d cs ≡ d
unfolding after_calls
asks_keep d [] h = refl
asks_keep d (write buffer ∷ cs) h = absurd h
asks_keep d (ask inbox ∷ cs) h = asks_keep d cs h
asks_keep d (take_round inbox ∷ cs) h = absurd h

asks_wrote : (d : Node) (cs : List Call) (bytes : List ℕ) → Asks cs → Wrote d cs bytes → ⊥
asks_wrote d [] bytes h w = w
asks_wrote d (write buffer ∷ cs) bytes h w = h
asks_wrote d (ask inbox ∷ cs) bytes h (inl w) = w
asks_wrote d (ask inbox ∷ cs) bytes h (inr w) = asks_wrote d cs bytes h w
asks_wrote d (take_round inbox ∷ cs) bytes h w = h

-- the inbox that was taken, where the first call is a take with this answer
taken_first : (d : Node) (inbox : List ℕ) (cs : List Call) {o : _} → take_of d inbox ≡ o
    → taken_inbox d (take_round inbox ∷ cs) ≡ cond (is_accepted o) (some inbox) (taken_inbox d cs)
unfolding taken_inbox
taken_first d inbox cs e = ap (λ o. cond (is_accepted o) (some inbox) (taken_inbox d cs)) e

-- a record that takes every inbox of the right length and refuses every other
module _ (d : Node) (n : ℕ) (next : List ℕ → Node)
    (takes : (inbox : List ℕ) → length inbox ≡ slot_size * n → take_of d inbox ≡ accepted (next inbox))
    (refuses : (inbox : List ℕ) → length inbox ≢ slot_size * n → take_of d inbox ≡ refused 14) where
  pub whole_takes : (cs : List Call) → Whole n cs
      → (inbox : List ℕ)
      × (length inbox ≡ slot_size * n)
      × (taken_inbox d cs ≡ some inbox)
      × (after_calls d cs ≡ next inbox)
  unfolding taken_inbox after_calls
  whole_takes [] h = absurd h
  whole_takes (write buffer ∷ cs) h = whole_takes cs h
  whole_takes (ask inbox ∷ cs) h = whole_takes cs h
  whole_takes (take_round inbox ∷ cs) (inl h) =
      let e = takes inbox h.0 in
      let after = ap (λ o. after_calls (value_or d o) cs) e ∙ asks_keep (next inbox) cs h.1 in
      (inbox, h.0, taken_first d inbox cs e, after)
  whole_takes (take_round inbox ∷ cs) (inr h) =
      let e = refuses inbox h.0 in
      let r = whole_takes cs h.1 in
      let after = ap (λ o. after_calls (value_or d o) cs) e ∙ r.3 in
      (r.0, r.1, taken_first d inbox cs e ∙ r.2, after)

  -- all writes of a whole round are made on the record with which the round begins
  pub whole_wrote : (cs : List Call) (bytes : List ℕ) → Whole n cs → Wrote d cs bytes
      → (buffer : List ℕ) × Puts d (write buffer) bytes
  whole_wrote [] bytes h w = absurd h
  whole_wrote (write buffer ∷ cs) bytes h (inl w) = (buffer, w)
  whole_wrote (write buffer ∷ cs) bytes h (inr w) = whole_wrote cs bytes h w
  whole_wrote (ask inbox ∷ cs) bytes h (inl w) = absurd w
  whole_wrote (ask inbox ∷ cs) bytes h (inr w) = whole_wrote cs bytes h w
  whole_wrote (take_round inbox ∷ cs) bytes h (inl w) = absurd w
  whole_wrote (take_round inbox ∷ cs) bytes (inl h) (inr w) =
      absurd (asks_wrote (after_call d (take_round inbox)) cs bytes h.1 w)
  whole_wrote (take_round inbox ∷ cs) bytes (inr h) (inr w) =
      whole_wrote cs bytes h.1 (subst (λ e. Wrote e cs bytes) (ap (value_or d) (refuses inbox h.0)) w)

-- a record that refuses every take
pub refused_keeps : (d : Node) → ((inbox : List ℕ) → take_of d inbox ≡ refused 8) → (cs : List Call)
    → (after_calls d cs ≡ d) × (taken_inbox d cs ≡ none)
unfolding taken_inbox after_calls
refused_keeps d refuses [] = (refl, refl)
refused_keeps d refuses (write buffer ∷ cs) = refused_keeps d refuses cs
refused_keeps d refuses (ask inbox ∷ cs) = refused_keeps d refuses cs
refused_keeps d refuses (take_round inbox ∷ cs) =
    let e = refuses inbox in
    let r = refused_keeps d refuses cs in
    (ap (λ o. after_calls (value_or d o) cs) e ∙ r.0, taken_first d inbox cs e ∙ r.1)

-- Inboxes are taken in rounds of the list only.

pub taken_inside : (l : Execution) (p j : ℕ) (bytes : List ℕ) → inbox_at l p j ≡ some bytes → j < length l.rounds
unfolding calls_of taken_inbox
taken_inside l p j bytes e = elim (dec_lt j (length l.rounds)) [
  | yes inside ↦ inside
  | no end ↦
      let no_calls = get_or-eq_default l.rounds [] {n = j} (omega arith) in
      absurd (none-ne-some _ (sym (ap (λ es. taken_inbox (record_at l p j) (calls_of p es)) no_calls) ∙ e))
]
