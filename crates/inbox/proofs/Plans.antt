-- The votes of counting messages are plans: not 0, and of two bytes where the inbox holds bytes. So is the plan
-- that a rule answers, where it answers one.
use mathlib.Core.Path.{◌≡◌, subst}
use mathlib.Core.Bool.{Bool, true, ◌&&◌}
use mathlib.Core.List.{List}
use mathlib.Core.Logic.{inl, inr}
use mathlib.Core.Option.{some}
use Prim.Native.Nat.{ℕ, ◌+◌, ◌*◌, ◌≤◌, ◌<◌}
use native.Mathlib.Omega.{arith}
use native.Mathlib.Decide.{dec_lt}
use lib.ListN.{length, take, drop, length-take, get_or-eq_default}
use lib.Seq.{get_or-take, get_or-drop}
use lib.Dec.{leb, ltb, eqb→eq}
use borrow.Author.Tests.{leb-true}
use Rattle.wire.specs.Bytes.{AreBytes}
use Rattle.wire.proofs.Tests.{tests, both_true}
use Rattle.wire.specs.Sizes.{plan_limit, last_phase}
use Rattle.message.specs.Fields.{Body, selection, validation, decision}
use Rattle.message.specs.Bounds.{entries_ok, body_ok, BodyFits}
use Rattle.wire.specs.Plan.{phase_ok, plan_ok}
use Rattle.message.proofs.ReadLaws.{read_passes}
use Rattle.message.specs.Layout.{slot_size}
use Rattle.codec.proofs.Padded.{padded_of_read}
use Rattle.ballot.specs.Count.{count_if}
use Rattle.ballot.specs.Ballot.{Ballot, votes}
use Rattle.ballot.proofs.Counting.{count_le}
use Rattle.ballot.proofs.Least.{Voted}
use Rattle.ballot.proofs.Slots.{no_slot_counts}
use Rattle.node.specs.declared.Node.{Node}
use Rattle.inbox.proofs.Counted.{heard_message}
use Rattle.inbox.specs.Inbox.{slot_at, ballot_of, ballot_at, ballots}

-- what a message within the bounds votes for is a plan
body_plan : (phase : ℕ) (body : Body) → body_ok phase body ≡ true → 1 ≤ (ballot_of body).vote
body_plan phase (selection vote stamp entries) ok =
    let all = both_true (plan_ok vote && ltb stamp phase && leb (length entries) last_phase)
    (entries_ok 0 phase entries) ok in
    let scalars = both_true (plan_ok vote && ltb stamp phase) (leb (length entries) last_phase) all.0 in
    leb-true 1 vote (both_true (plan_ok vote) (ltb stamp phase) scalars.0).0
body_plan phase (validation plan) ok = leb-true 1 plan ok
body_plan phase (decision vote stamp) ok = leb-true 1 vote (both_true (plan_ok vote) (leb stamp phase) ok).0

body_fits : (body : Body) → BodyFits body → (ballot_of body).vote < plan_limit
body_fits (selection vote stamp entries) fits = fits.0
body_fits (validation plan) fits = fits
body_fits (decision vote stamp) fits = fits

pub slot_plan : (d : Node) (inbox : List ℕ) (q : ℕ) (m : Ballot) → ballot_at d inbox q ≡ some m → 1 ≤ m.vote
slot_plan d inbox q m e =
    let c = heard_message d inbox q m e in
    let k = c.message in
    let bounds = (read_passes (slot_at inbox q) k c.read).in_bounds in
    subst (λ (x : Ballot). 1 ≤ x.vote) c.says
    (body_plan k.phase k.body (both_true (phase_ok k.phase) (body_ok k.phase k.body) bounds).1)

-- a part of a list of bytes holds bytes
part_bytes : (s : List ℕ) (from size : ℕ) → AreBytes s → AreBytes (take size (drop from s))
part_bytes s from size bytes place = elim (dec_lt place size) [
  | yes inside ↦ rw (get_or-take size (drop from s) place 0 inside, get_or-drop from s place 0) (bytes (from + place))
  | no outside ↦
      let out : length (take size (drop from s)) ≤ place = omega (arith, length-take size (drop from s)) in
      rw (get_or-eq_default (take size (drop from s)) 0 {n = place} out) (omega arith)
]

slot_fits : (d : Node) (inbox : List ℕ) → AreBytes inbox → (q : ℕ) (m : Ballot) → ballot_at d inbox q ≡ some m
    → m.vote < plan_limit
slot_fits d inbox bytes q m e =
    let c = heard_message d inbox q m e in
    let slot-bytes = part_bytes inbox (slot_size * q) slot_size bytes in
    let fits = (padded_of_read (slot_at inbox q) c.message slot-bytes c.read).2 in
    subst (λ (x : Ballot). x.vote < plan_limit) c.says (body_fits c.message.body fits.1)

-- the ballots whose vote does not fit two bytes
abbrev too_large : Ballot → Bool
too_large m = leb (plan_limit) m.vote

inbox_fits : (d : Node) (inbox : List ℕ) → AreBytes inbox → count_if too_large (ballots d inbox) ≡ 0
inbox_fits d inbox bytes = no_slot_counts d.crew (ballot_at d inbox) too_large λ q l m e t.
    omega (tests, slot_fits d inbox bytes q m e)

-- what is voted, or 0, fits two bytes
pub voted_fits : (d : Node) (inbox : List ℕ) → AreBytes inbox → (v : ℕ) → Voted v (ballots d inbox) → v < plan_limit
voted_fits d inbox bytes v (inl empty) = omega arith
voted_fits d inbox bytes v (inr voted) = elim (dec_lt v (plan_limit)) [
  | yes fits ↦ fits
  | no large ↦
      let voters = count_le (votes v) too_large (ballots d inbox) λ m t. omega (tests, eqb→eq m.vote v t) in
      absurd (omega (arith, voters, inbox_fits d inbox bytes))
]

-- what is voted is a plan
pub voted_plan : (d : Node) (inbox : List ℕ) (v : ℕ) → 0 < count_if (votes v) (ballots d inbox) → 1 ≤ v
voted_plan d inbox v voted = elim (dec_lt 0 v) [
  | yes plan ↦ plan
  | no zero ↦
      let none = no_slot_counts d.crew (ballot_at d inbox) (votes v) λ q l m e t.
      omega (tests, slot_plan d inbox q m e, eqb→eq m.vote v t) in
      absurd (omega (arith, none))
]
