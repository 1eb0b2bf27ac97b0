-- If an honest node's slot counts for an honest node, it says what the abstract engine's node says, and in round 2 only
-- validators' slots count; so the run of a list meets what the engine's theorems suppose.
use mathlib.Core.Path.{◌≡◌, sym, ap, ◌∙◌, subst}
use mathlib.Core.List.{List}
use mathlib.Core.Logic.{◌≢◌}
use mathlib.Core.Option.{Option, none, some, none-ne-some}
use Prim.Native.Nat.{ℕ}
use native.Mathlib.Omega.{arith}
use lib.Dec.{T}
use Rattle.crew.specs.declared.Crew.{Crew}
use Rattle.crew.specs.Thresholds.{class_of}
use Rattle.crew.specs.Group.{speaks}
use Rattle.ballot.specs.Ballot.{Ballot}
use Rattle.ballot.proofs.Tests.{said_turn}
use Rattle.model.proofs.Voter.{round_number}
use Rattle.model.proofs.Engine.{State, saying, Faithful, state, Held, Admissible}
use Rattle.node.specs.declared.Node.{Node}
use Rattle.inbox.specs.Inbox.{ballot_at}
use Rattle.agreement.specs.Statement.{Execution, honest, record_at, inbox_at, Premises}
use Rattle.inbox.proofs.Plans.{slot_plan}
use Rattle.agreement.proofs.Written.{slot_heard, forward}
use Rattle.agreement.proofs.Simulation.{slot_in, said, run_of, follows, took, wrote_at, coming_is}

module _ (l : Execution) (crew : Crew) (run : ℕ) (pre : Premises l crew run) where
  module _ (j : ℕ) (held : Held (run_of l crew) j) where
    abbrev now : State
    now = state (run_of l crew) j

    -- if a slot of an honest node counts, it says what the engine's node says
    spoken : (p q : ℕ) → T (honest l p) → T (honest l q) → (bytes : List ℕ) (m : Ballot) → inbox_at l p j ≡ some bytes
        → ballot_at (record_at l p j) bytes q ≡ some m → saying (class_of crew) crew now q ≡ some m
    spoken p q hp hq bytes m e counts =
        let slot = pre.slots p q j hp hq bytes m (e, counts) in
        let wrote = wrote_at l crew run pre q j hq held slot.0 slot.2 in
        let typed = (follows l crew run pre q j hq (omega (arith, held.0))).typed in
        let heard = slot_heard (record_at l q j) (record_at l p j) bytes wrote.0 slot.0 slot.1 q m typed
        wrote.1 slot.3 counts in
        sym (coming_is l crew run pre q j hq (omega (arith, held.0)))
        ∙ ap forward heard.coming
        ∙ ap some heard.ballot

    faithful : Faithful (class_of crew) crew (honest l) (said l j) now
    faithful = record {
      said = λ p lp hp q lq hq m e.
          let t = took l crew run pre p j hp held in
          spoken p q hp hq t.bytes m t.taken (sym (ap (λ o. slot_in (record_at l p j) o q) t.taken) ∙ e);
      in_turn = λ validating p lp hp q lq m e.
          let t = took l crew run pre p j hp held in
          let is = (follows l crew run pre p j hp (omega (arith, held.0))).is in
          let counts = subst (λ (d : Node). ballot_at d t.bytes q ≡ some m) is
          (sym (ap (λ o. slot_in (record_at l p j) o q) t.taken) ∙ e) in
          subst (λ round. T (speaks crew now.phase (round_number round) q)) validating
          (said_turn (speaks crew now.phase (round_number now.round) q) counts).0;
    }

  -- no slot votes for 0
  slots_plan : (d : Node) (o : Option (List ℕ)) (q : ℕ) (m : Ballot) → slot_in d o q ≡ some m → m.vote ≢ 0
  slots_plan d none q m e z = absurd (none-ne-some _ e)
  slots_plan d (some bytes) q m e z = omega (arith, slot_plan d bytes q m e)

  pub admissible : Admissible (run_of l crew)
  admissible = record {
    crew_accepted = pre.crew_accepted;
    few = pre.few;
    faithful = faithful;
    plans = λ j held p lp hp q lq m e. slots_plan (record_at l p j) (inbox_at l p j) q m e;
  }
