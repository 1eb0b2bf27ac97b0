-- One node's calls, cut into its own rounds: what the first call more changes, and what stands in a round. Assumes
-- nothing.
use mathlib.Core.Path.{◌≡◌, refl, sym, ap, ◌∙◌}
use mathlib.Core.Bool.{Bool, true, false, cond, true≢false}
use mathlib.Core.List.{List, [], ◌∷◌, ◌++◌, append-nil}
use mathlib.Core.Logic.{◌⊎◌, inl, inr}
use mathlib.Core.Option.{none, some, none-ne-some}
use Prim.Native.Nat.{ℕ, zero, suc, ◌+◌, ◌≤◌, ◌<◌}
use native.Mathlib.Omega.{arith}
use borrow.Author.Tests.{lt-ltb, le-ltb}
use lib.Dec.{T, ltb, leb-suc-zero, leb-suc-suc}
use Rattle.wire.specs.Outcome.{Outcome, accepted, refused, value_or, is_accepted}
use Rattle.ballot.specs.Count.{bit}
use Rattle.node.specs.declared.Node.{Node}
use Rattle.rounds.specs.Taking.{take_of}
use Rattle.agreement.specs.Statement.{Call, write, ask, take_round, after_call, after_calls, taken_inbox, Puts, Wrote}
use Rattle.schedules.specs.Schedule.{ends_round, rounds_in, calls_in, calls_before, record_in}

-- A test passes or fails, and not both.

either : (b : Bool) → (b ≡ true) ⊎ (b ≡ false)
either true = inl refl
either false = inr refl

pub not_both : {A : Type 0} → ◌≡◌ {A = Bool} false true → A
not_both e = absurd (true≢false (sym e))

-- a count with one call more, by whether it ends a round

one_more : (r : ℕ) → bit true + r ≡ suc r
one_more r = omega arith

none_more : (r : ℕ) → bit false + r ≡ r
none_more r = omega arith

-- a call that does not end a round leaves the record
pub leaves : (d : Node) (c : Call) → ends_round d c ≡ false → after_call d c ≡ d
leaves d (write buffer) e = refl
leaves d (ask inbox) e = refl
leaves d (take_round inbox) e = go (take_of d inbox) e
  where
    go : (o : Outcome Node) → is_accepted o ≡ false → value_or d o ≡ d
    go (accepted x) e = not_both (sym e)
    go (refused x) e = refl

pub after_append : (d : Node) (cs more : List Call) → after_calls d (cs ++ more) ≡ after_calls (after_calls d cs) more
unfolding after_calls
after_append d [] more = refl
after_append d (c ∷ cs) more = after_append (after_call d c) cs more

-- The rounds of c ∷ cs, by those of cs: round 0 begins with c, and if c ends it the others are one further on.

before_onward : (d : Node) (c : Call) (cs : List Call) (j : ℕ)
    → calls_before d (c ∷ cs) (suc j) ≡ c ∷ calls_before (after_call d c) cs (cond (ends_round d c) j (suc j))
unfolding calls_before calls_in
before_onward d c cs zero = go (ends_round d c)
  where
    go : (b : Bool) → c ∷ cond b [] (calls_in (after_call d c) cs 0)
        ≡ c ∷ calls_before (after_call d c) cs (cond b 0 1)
    go true = refl
    go false = refl
before_onward d c cs (suc j) =
    ap (λ x. x ++ calls_in (after_call d c) cs (cond (ends_round d c) j (suc j))) (before_onward d c cs j)
    ∙ go (ends_round d c)
  where
    go : (b : Bool)
        → c ∷ (calls_before (after_call d c) cs (cond b j (suc j)) ++ calls_in (after_call d c) cs (cond b j (suc j)))
        ≡ c ∷ calls_before (after_call d c) cs (cond b (suc j) (suc (suc j)))
    go true = refl
    go false = refl

record_onward : (d : Node) (c : Call) (cs : List Call) (j : ℕ)
    → record_in d (c ∷ cs) (suc j) ≡ record_in (after_call d c) cs (cond (ends_round d c) j (suc j))
unfolding after_calls
record_onward d c cs j = ap (after_calls d) (before_onward d c cs j)

-- The calls together, and the record after them.

-- the rounds up to the one that is on hold all the calls
pub all_calls : (d : Node) (cs : List Call) → calls_before d cs (suc (rounds_in d cs)) ≡ cs
unfolding calls_before calls_in rounds_in
all_calls d [] = refl
all_calls d (c ∷ cs) =
    before_onward d c cs (bit (ends_round d c) + rounds_in (after_call d c) cs)
    ∙ go (ends_round d c)
    ∙ ap (λ x. c ∷ x) (all_calls (after_call d c) cs)
  where
    r : ℕ
    r = rounds_in (after_call d c) cs

    go : (b : Bool) → c ∷ calls_before (after_call d c) cs (cond b (bit b + r) (suc (bit b + r)))
        ≡ c ∷ calls_before (after_call d c) cs (suc r)
    go true = ap (λ i. c ∷ calls_before (after_call d c) cs i) (one_more r)
    go false = ap (λ i. c ∷ calls_before (after_call d c) cs (suc i)) (none_more r)

-- The calls of one round, on the record with which it begins: none but the last ends it, and the last does where the
-- round has been taken.
abbrev pub OneRound : Node → List Call → Bool → Type 0
OneRound d [] taken = taken ≡ false
OneRound d (c ∷ cs) taken =
    ((ends_round d c ≡ true) × (cs ≡ []) × (taken ≡ true))
    ⊎ ((ends_round d c ≡ false) × OneRound (after_call d c) cs taken)

-- whether round suc j of c ∷ cs has been taken, by cs
taken_onward : (b : Bool) (j r : ℕ) → ltb (suc j) (bit b + r) ≡ ltb (cond b j (suc j)) r
taken_onward true j r = ap (ltb (suc j)) (one_more r) ∙ leb-suc-suc (suc j) r
taken_onward false j r = ap (ltb (suc j)) (none_more r)

pub one_round : (d : Node) (cs : List Call) (j : ℕ)
    → OneRound (record_in d cs j) (calls_in d cs j) (ltb j (rounds_in d cs))
unfolding calls_in rounds_in calls_before after_calls
one_round d [] j = leb-suc-zero j
one_round d (c ∷ cs) zero = go (either (ends_round d c)) (one_round (after_call d c) cs 0)
  where
    go : (ends_round d c ≡ true) ⊎ (ends_round d c ≡ false)
        → OneRound (after_call d c) (calls_in (after_call d c) cs 0) (ltb 0 (rounds_in (after_call d c) cs))
        → OneRound d (c ∷ cond (ends_round d c) [] (calls_in (after_call d c) cs 0))
        (ltb 0 (bit (ends_round d c) + rounds_in (after_call d c) cs))
    go (inl e) i = inl (e, rw e, rw e (lt-ltb 0 (1 + rounds_in (after_call d c) cs) (omega arith)))
    go (inr e) i = inr (e, rw (e, none_more (rounds_in (after_call d c) cs)) i)
one_round d (c ∷ cs) (suc j) =
    rw (record_onward d c cs j, taken_onward (ends_round d c) j (rounds_in (after_call d c) cs))
    (one_round (after_call d c) cs (cond (ends_round d c) j (suc j)))

-- after the round that is on there are no calls
pub no_calls : (d : Node) (cs : List Call) (j : ℕ) → rounds_in d cs < j → calls_in d cs j ≡ []
unfolding calls_in rounds_in
no_calls d [] j h = refl
no_calls d (c ∷ cs) zero h = absurd (omega arith)
no_calls d (c ∷ cs) (suc j) h =
    no_calls (after_call d c) cs (cond (ends_round d c) j (suc j)) (go (ends_round d c) h)
  where
    go : (b : Bool) → bit b + rounds_in (after_call d c) cs < suc j → rounds_in (after_call d c) cs < cond b j (suc j)
    go true h = omega arith
    go false h = omega arith

-- A round that no take has ended leaves the record, and takes no inbox.

open_after : (d : Node) (cs : List Call) → OneRound d cs false → after_calls d cs ≡ d
unfolding after_calls
open_after d [] h = refl
open_after d (c ∷ cs) (inl h) = not_both h.2
open_after d (c ∷ cs) (inr h) = open_after (after_call d c) cs h.1 ∙ leaves d c h.0

pub open_inbox : (d : Node) (cs more : List Call) → OneRound d cs false
    → taken_inbox d (cs ++ more) ≡ taken_inbox d more
unfolding taken_inbox
open_inbox d [] more h = refl
open_inbox d (c ∷ cs) more (inl h) = not_both h.2
open_inbox d (write buffer ∷ cs) more (inr h) = open_inbox d cs more h.1
open_inbox d (ask inbox ∷ cs) more (inr h) = open_inbox d cs more h.1
open_inbox d (take_round inbox ∷ cs) more (inr h) =
    rw h.0 (open_inbox d cs more (rw (leaves d (take_round inbox) h.0) at h.1))

pub open_none : (d : Node) (cs : List Call) → OneRound d cs false → taken_inbox d cs ≡ none
unfolding taken_inbox
open_none d cs h = sym (ap (taken_inbox d) (append-nil cs)) ∙ open_inbox d cs [] h

pub not_taken : (d : Node) (cs : List Call) (j : ℕ) → rounds_in d cs ≤ j
    → taken_inbox (record_in d cs j) (calls_in d cs j) ≡ none
not_taken d cs j h =
    open_none (record_in d cs j) (calls_in d cs j) (rw (le-ltb j (rounds_in d cs) h) at (one_round d cs j))

-- so the record after all calls is the one with which the round that is on began
pub last_record : (d : Node) (cs : List Call) → record_in d cs (rounds_in d cs) ≡ after_calls d cs
unfolding calls_before
last_record d cs =
    let r = rounds_in d cs in
    let unended = rw (le-ltb r r (omega arith)) at (one_round d cs r) in
    sym (open_after (record_in d cs r) (calls_in d cs r) unended)
    ∙ sym (after_append d (calls_before d cs r) (calls_in d cs r))
    ∙ ap (after_calls d) (all_calls d cs)

-- The take that ended a round, among all the calls.

pub record TakenAt (d : Node) (cs : List Call) (j : ℕ) (inbox : List ℕ) : Type 0 where
  pub before : List Call
  pub later : List Call
  pub stands : cs ≡ before ++ (take_round inbox ∷ later)
  pub round : rounds_in d before ≡ j
  pub on_record : after_calls d before ≡ record_in d cs j
  pub is_accepted : T (is_accepted (take_of (record_in d cs j) inbox))

one_earlier : (d : Node) (c : Call) (cs : List Call) (i j : ℕ) (inbox : List ℕ)
    → bit (ends_round d c) + i ≡ j → record_in (after_call d c) cs i ≡ record_in d (c ∷ cs) j
    → TakenAt (after_call d c) cs i inbox → TakenAt d (c ∷ cs) j inbox
unfolding rounds_in after_calls
one_earlier d c cs i j inbox e same t = record {
  before = c ∷ t.before;
  later = t.later;
  stands = ap (λ x. c ∷ x) t.stands;
  round = ap (λ x. bit (ends_round d c) + x) t.round ∙ e;
  on_record = t.on_record ∙ same;
  is_accepted = rw same at t.is_accepted;
}

pub taken_at : (d : Node) (cs : List Call) (j : ℕ) (inbox : List ℕ)
    → taken_inbox (record_in d cs j) (calls_in d cs j) ≡ some inbox → TakenAt d cs j inbox
unfolding calls_in calls_before after_calls taken_inbox rounds_in
taken_at d [] j inbox h = absurd (none-ne-some _ h)
taken_at d (write buffer ∷ cs) zero inbox h =
    one_earlier d (write buffer) cs 0 0 inbox refl refl (taken_at d cs 0 inbox h)
taken_at d (ask bytes ∷ cs) zero inbox h =
    one_earlier d (ask bytes) cs 0 0 inbox refl refl (taken_at d cs 0 inbox h)
taken_at d (take_round bytes ∷ cs) zero inbox h =
    go (either (is_accepted (take_of d bytes))) h (taken_at (after_call d (take_round bytes)) cs 0 inbox)
  where
    go : (is_accepted (take_of d bytes) ≡ true) ⊎ (is_accepted (take_of d bytes) ≡ false)
        → taken_inbox d (calls_in d (take_round bytes ∷ cs) 0) ≡ some inbox
        → (taken_inbox (after_call d (take_round bytes)) (calls_in (after_call d (take_round bytes)) cs 0) ≡ some inbox
        → TakenAt (after_call d (take_round bytes)) cs 0 inbox)
        → TakenAt d (take_round bytes ∷ cs) 0 inbox
    go (inl e) h i =
        let same : bytes ≡ inbox = cc (rw e at h) in
        record {
          before = [];
          later = cs;
          stands = ap (λ x. take_round x ∷ cs) same;
          round = refl;
          on_record = refl;
          is_accepted = rw (← same, e) tt;
        }
    go (inr e) h i =
        let stays = leaves d (take_round bytes) e in
        one_earlier d (take_round bytes) cs 0 0 inbox (ap (λ b. bit b + 0) e) stays
        (i (rw stays (rw (e, stays) at h)))
taken_at d (c ∷ cs) (suc j) inbox h =
    let i = cond (ends_round d c) j (suc j) in
    one_earlier d c cs i (suc j) inbox (go (ends_round d c)) (sym (record_onward d c cs j))
    (taken_at (after_call d c) cs i inbox (rw (record_onward d c cs j) at h))
  where
    go : (b : Bool) → bit b + cond b j (suc j) ≡ suc j
    go true = omega arith
    go false = omega arith

-- What was written in a round.

abbrev pub WroteIn : Node → List Call → ℕ → List ℕ → Type 0
WroteIn d cs j w = Wrote (record_in d cs j) (calls_in d cs j) w

-- it stays written, whatever calls come after
pub wrote_more : (d : Node) (cs more : List Call) (j : ℕ) (w : List ℕ) → WroteIn d cs j w → WroteIn d (cs ++ more) j w
unfolding calls_in calls_before after_calls
wrote_more d [] more j w h = absurd h
wrote_more d (c ∷ cs) more zero w (inl h) = inl h
wrote_more d (c ∷ cs) more zero w (inr h) = inr (go (ends_round d c) (wrote_more (after_call d c) cs more 0 w) h)
  where
    go : (b : Bool) → (WroteIn (after_call d c) cs 0 w → WroteIn (after_call d c) (cs ++ more) 0 w)
        → Wrote (after_call d c) (cond b [] (calls_in (after_call d c) cs 0)) w
        → Wrote (after_call d c) (cond b [] (calls_in (after_call d c) (cs ++ more) 0)) w
    go true i h = h
    go false i h = i h
wrote_more d (c ∷ cs) more (suc j) w h =
    rw (record_onward d c (cs ++ more) j)
    (wrote_more (after_call d c) cs more (cond (ends_round d c) j (suc j)) w (rw (record_onward d c cs j) at h))

-- one call more writes at most that call's bytes, in the round that is on
pub wrote_last : (d : Node) (cs : List Call) (c : Call) (j : ℕ) (w : List ℕ) → WroteIn d (cs ++ (c ∷ [])) j w
    → WroteIn d cs j w ⊎ ((rounds_in d cs ≡ j) × Puts (after_calls d cs) c w)
unfolding calls_in calls_before after_calls rounds_in
wrote_last d [] c zero w (inl h) = inr (refl, h)
wrote_last d [] c zero w (inr h) = absurd (go (ends_round d c) h)
  where
    go : (b : Bool) → Wrote (after_call d c) (cond b [] []) w → ⊥
    go true h = h
    go false h = h
wrote_last d [] c (suc j) w h = absurd h
wrote_last d (x ∷ cs) c zero w (inl h) = inl (inl h)
wrote_last d (x ∷ cs) c zero w (inr h) = go (ends_round d x) (wrote_last (after_call d x) cs c 0 w) h
  where
    go : (b : Bool)
        → (WroteIn (after_call d x) (cs ++ (c ∷ [])) 0 w
        → WroteIn (after_call d x) cs 0 w
        ⊎ ((rounds_in (after_call d x) cs ≡ 0) × Puts (after_calls (after_call d x) cs) c w))
        → Wrote (after_call d x) (cond b [] (calls_in (after_call d x) (cs ++ (c ∷ [])) 0)) w
        → (Puts d x w ⊎ Wrote (after_call d x) (cond b [] (calls_in (after_call d x) cs 0)) w)
        ⊎ ((bit b + rounds_in (after_call d x) cs ≡ 0) × Puts (after_calls (after_call d x) cs) c w)
    go true i h = absurd h
    go false i h = elim (i h) [ inl k ↦ inl (inr k) | inr k ↦ inr (omega arith, k.1) ]
wrote_last d (x ∷ cs) c (suc j) w h =
    elim (wrote_last (after_call d x) cs c (cond (ends_round d x) j (suc j)) w
    (rw (record_onward d x (cs ++ (c ∷ [])) j) at h)) [
      | inl k ↦ inl (rw (record_onward d x cs j) k)
      | inr k ↦ inr (go (ends_round d x) k.0, k.1)
    ]
  where
    go : (b : Bool) → rounds_in (after_call d x) cs ≡ cond b j (suc j) → bit b + rounds_in (after_call d x) cs ≡ suc j
    go true h = omega arith
    go false h = omega arith
