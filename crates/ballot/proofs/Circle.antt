-- Selection answers, and does not say 'none', where the slots of a circle of n − b − f honest senders count.
-- Stated of one inbox of n slots.
use mathlib.Core.Path.{◌≡◌, ap}
use mathlib.Core.Bool.{Bool, true}
use mathlib.Core.List.{List}
use mathlib.Core.Option.{Option, none, some}
use Prim.Native.Nat.{ℕ, ◌+◌, ◌-◌, ◌≤◌, ◌<◌}
use native.Mathlib.Omega.{arith}
use native.Mathlib.Decide.{ℕ_discrete, dec_lt}
use lib.ListN.{length}
use lib.Dec.{T}
use Rattle.wire.proofs.Tests.{tests}
use Rattle.crew.specs.declared.Crew.{Crew}
use Rattle.crew.specs.Thresholds.{one, two, three, any_above}
use Rattle.ballot.specs.Count.{tally, count_if}
use Rattle.ballot.specs.Ballot.{Ballot, inbox, stamped, lists}
use Rattle.ballot.specs.Selection.{supports, possible, backed, enough, selection}
use Rattle.ballot.proofs.Counting.{tally_peak, length_count}
use Rattle.ballot.proofs.Selection.{Answers, supports_vote, supports_below, back_three}
use Rattle.ballot.proofs.Selection.{enough_answers, backed_answers}
use Rattle.ballot.proofs.Slots.{Slots, EachFrom, slot_counts, circle_passes}

abbrev stamp_or : Option Ballot → ℕ
stamp_or none = 0
stamp_or (some m) = m.stamp

module _ (crew : Crew) (slots : Slots) (circle : ℕ → Bool) (wide : crew.n ≤ tally circle crew.n + crew.b + crew.f)
    (present : (q : ℕ) → q < crew.n → T (circle q) → (m : Ballot) × (slots q ≡ some m)) where
  abbrev ballots : List Ballot
  ballots = inbox crew slots

  pub circle_counts : crew.n ≤ length (inbox crew slots) + crew.b + crew.f
  circle_counts =
      omega (arith, length_count ballots, circle_passes crew slots (λ m. true) circle wide present (λ q l k m e. tt))

  pub answers_one : any_above one crew < crew.n - crew.b - crew.f → Answers (selection one crew (inbox crew slots))
  unfolding enough
  answers_one above = enough_answers one crew ballots (omega (tests, circle_counts))

  pub answers_two : any_above two crew < crew.n - crew.b - crew.f → Answers (selection two crew (inbox crew slots))
  unfolding enough
  answers_two above = enough_answers two crew ballots (omega (tests, circle_counts))

  -- Class 3: a stamp goes with one vote in the circle, and more than b slots list it.
  module _ (above : any_above three crew < crew.n - crew.b - crew.f)
      (unique : EachFrom circle crew slots λ m. EachFrom circle crew slots λ o.
      m.stamp ≡ o.stamp → 0 < m.stamp → m.vote ≡ o.vote)
      (listed : EachFrom circle crew slots λ m.
      0 < m.stamp → crew.b < count_if (lists m.vote m.stamp) (inbox crew slots)) where
    -- a ballot of the circle with its highest stamp is backed, unless that stamp is 0 and 'any' is answered
    highest : (q : ℕ) → q < crew.n → T (circle q) → (m : Ballot) → slots q ≡ some m
        → EachFrom circle crew slots (λ o. o.stamp ≤ m.stamp) → Dec (0 < m.stamp)
        → Answers (selection three crew ballots)
    unfolding enough possible
    highest q lq kq m e top (yes pos) =
        let support = circle_passes crew slots (supports m) circle wide present
        λ a la ka o i. elim (ℕ_discrete o.stamp m.stamp) [
          | yes z ↦ supports_vote m o (unique a la ka o i q lq kq m e z (omega arith))
          | no z ↦ supports_below m o (omega (arith, top a la ka o i))
        ] in
        let its = back_three crew ballots m (omega tests) (listed q lq kq m e pos) in
        backed_answers crew ballots (slot_counts crew slots (backed three crew ballots) q lq m e its)
    highest q lq kq m e top (no pos) =
        enough_answers three crew ballots (omega (
          tests,
          circle_passes crew slots (stamped 0) circle wide present λ a la ka o i. omega (tests, top a la ka o i),
        ))

    pub answers_three : Answers (selection three crew (inbox crew slots))
    answers_three =
        let top = tally_peak circle (λ q. stamp_or (slots q)) crew.n (omega arith) in
        let r = present top.0 top.1 top.2 in
        go top.0 top.1 top.2 top.3 r.0 r.1
      where
        go : (q : ℕ) → q < crew.n → T (circle q)
            → ((a : ℕ) → a < crew.n → T (circle a) → stamp_or (slots a) ≤ stamp_or (slots q))
            → (m : Ballot) → slots q ≡ some m → Answers (selection three crew ballots)
        go q lq kq top m e =
            highest q lq kq m e (λ a la ka o i. omega (arith, top a la ka, ap stamp_or i, ap stamp_or e))
            (dec_lt 0 m.stamp)
