-- Law 5 of the engine: two inboxes with the same counting messages, each in as many slots of one as of the other, give
-- the same answers, on any record, sound or not.
use mathlib.Core.Path.{◌≡◌, ap₂}
use mathlib.Core.Bool.{cond, ◌&&◌}
use mathlib.Core.List.{List}
use Prim.Native.Nat.{ℕ, ◌*◌}
use lib.ListN.{length}
use lib.Dec.{ltb, eqb}
use Rattle.wire.specs.Sizes.{spent_phase}
use Rattle.wire.specs.Outcome.{accepted, require}
use Rattle.crew.specs.Thresholds.{class_of}
use Rattle.message.specs.Layout.{slot_size}
use Rattle.ballot.specs.Count.{count_if}
use Rattle.ballot.specs.Ballot.{Ballot, same_ballot}
use Rattle.ballot.proofs.Counting.{Same}
use Rattle.ballot.proofs.Order.{same_inboxes, selection_same, taken_same, validated_same, decision_same}
use Rattle.node.specs.declared.Node.{Node}
use Rattle.node.specs.Soundness.{sound}
use Rattle.inbox.specs.Inbox.{ballots}
use Rattle.rounds.specs.Taking.{after_selection, after_validation, after_decision, after_round, take_of}
use Rattle.rounds.specs.Asking.{ask_of}

module _ (d : Node) (left right : List ℕ) (long : length left ≡ length right)
    (each : (m : Ballot) → count_if (same_ballot m) (ballots d left) ≡ count_if (same_ballot m) (ballots d right)) where
  same : Same (ballots d left) (ballots d right)
  same = same_inboxes (ballots d left) (ballots d right) each

  after_same : after_round d (ballots d left) ≡ after_round d (ballots d right)
  unfolding after_round
  after_same =
      let taken = taken_same d.crew (ballots d left) (ballots d right) same (class_of d.crew) in
      let validated = validated_same d.crew (ballots d left) (ballots d right) same in
      let decision = decision_same d.crew (ballots d left) (ballots d right) same (class_of d.crew) d.phase in
      λ i. cond (eqb d.round 1) (after_selection d (taken i))
      (cond (eqb d.round 2) (after_validation d (validated i)) (after_decision d (decision i)))

  pub same_answers : (take_of d left ≡ take_of d right) × (ask_of d left ≡ ask_of d right)
  unfolding take_of ask_of
  same_answers = (
    ap₂ (λ size next. require (sound d) 7 (require (ltb d.phase spent_phase) 8
        (require (eqb size (slot_size * d.crew.n)) 14 (accepted next)))) long after_same,
    ap₂ (λ size choice. require (sound d && eqb d.round 1) 7 (require (ltb d.phase spent_phase) 8
        (require (eqb size (slot_size * d.crew.n)) 14 (accepted choice)))) long
        (selection_same d.crew (ballots d left) (ballots d right) same (class_of d.crew)),
  )
