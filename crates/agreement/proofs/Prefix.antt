-- A list cut short after any of its rounds meets the premises of demand 3 where the whole list does, so the
-- conclusions hold after every round.
use mathlib.Core.Path.{◌≡◌, refl, sym, ap, ap₂, ◌∙◌, subst}
use mathlib.Core.List.{List, []}
use mathlib.Core.Option.{some}
use Prim.Native.Nat.{ℕ, zero, suc, ◌≤◌, ◌<◌}
use native.Mathlib.Omega.{arith}
use lib.ListN.{length, take, length-take}
use lib.Seq.{get_or-take}
use Rattle.crew.specs.declared.Crew.{Crew}
use Rattle.ballot.specs.Ballot.{Ballot}
use Rattle.inbox.specs.Inbox.{ballot_at}
use Rattle.agreement.specs.Statement.{Execution, after_calls, calls_of, calls, record_at, taken_inbox, inbox_at, Wrote}
use Rattle.agreement.specs.Statement.{Whole, Hears, Premises, Conclusions}
use Rattle.agreement.proofs.Calls.{taken_inside}
use Rattle.agreement.proofs.Demand.{demand3}

-- the list's first m rounds
abbrev pub cut : ℕ → Execution → Execution
cut m l = record { starts = l.starts; rounds = take m l.rounds }

module _ (l : Execution) (m : ℕ) where
  calls_same : (p j : ℕ) → j < m → calls (cut m l) p j ≡ calls l p j
  calls_same p j h = ap (calls_of p) (get_or-take m l.rounds j [] h)

  pub record_same : (p j : ℕ) → j ≤ m → record_at (cut m l) p j ≡ record_at l p j
  unfolding record_at
  record_same p zero h = refl
  record_same p (suc j) h = ap₂ after_calls (record_same p j (omega arith)) (calls_same p j (omega arith))

  pub inbox_same : (p j : ℕ) → j < m → inbox_at (cut m l) p j ≡ inbox_at l p j
  inbox_same p j h = ap₂ taken_inbox (record_same p j (omega arith)) (calls_same p j h)

  cut_length : (length (cut m l).rounds ≤ m) × (length (cut m l).rounds ≤ length l.rounds)
  cut_length = (omega (arith, length-take m l.rounds), omega (arith, length-take m l.rounds))

  -- a round in which an inbox was taken is among the first m
  taken_before : (p j : ℕ) (inbox : List ℕ) → inbox_at (cut m l) p j ≡ some inbox → j < m
  taken_before p j inbox e = omega (arith, taken_inside (cut m l) p j inbox e, cut_length.0)

  hears_same : (p q j : ℕ) (inbox : List ℕ) (b : Ballot) → Hears (cut m l) p j q inbox b → Hears l p j q inbox b
  hears_same p q j inbox b hears =
      let h = taken_before p j inbox hears.0 in
      let same = record_same p j (omega arith) in
      (sym (inbox_same p j h) ∙ hears.0, ap (λ d. ballot_at d inbox q) (sym same) ∙ hears.1)

  cut_premises : (crew : Crew) (run : ℕ) → Premises l crew run → Premises (cut m l) crew run
  cut_premises crew run pre = record {
    typed = pre.typed;
    crew_accepted = pre.crew_accepted;
    one_crew = pre.one_crew;
    distinct = pre.distinct;
    few = pre.few;
    whole = λ p j h inside early.
        let before : j < m = omega (arith, cut_length.0) in
        subst (Whole crew.n) (sym (calls_same p j before)) (pre.whole p j h (omega (arith, cut_length.1)) early);
    bytes = λ p j h inbox e. pre.bytes p j h inbox (sym (inbox_same p j (taken_before p j inbox e)) ∙ e);
    slots = λ p q j hp hq inbox b hears.
        let before = taken_before p j inbox hears.0 in
        let s = pre.slots p q j hp hq inbox b (hears_same p q j inbox b hears) in
        let wrote = subst (λ d. Wrote d (calls l q j) s.0) (sym (record_same q j (omega arith))) s.2 in
        (s.0, s.1, subst (λ cs. Wrote (record_at (cut m l) q j) cs s.0) (sym (calls_same q j before)) wrote, s.3);
  }

pub after_every_round : (l : Execution) (crew : Crew) (run : ℕ) → Premises l crew run
    → (m : ℕ) → Conclusions (cut m l) crew
after_every_round l crew run pre m = demand3 (cut m l) crew run (cut_premises l m crew run pre)
