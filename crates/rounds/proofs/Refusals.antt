-- What refuses a round, as taking it, asking for its selection and telling its slots test it, and what they then give.
use mathlib.Core.Path.{◌≡◌, refl, ap, sym, ◌∙◌}
use mathlib.Core.Bool.{Bool, true, false}
use mathlib.Core.Logic.{◌≢◌}
use mathlib.Core.List.{List}
use Prim.Native.Nat.{ℕ, ◌*◌, ◌<◌}
use lib.Dec.{ltb, eqb}
use lib.ListN.{length}
use borrow.Author.Tests.{eq-eqb, ne_eqb, eqb-true, ltb-true}
use Rattle.wire.specs.Sizes.{spent_phase}
use Rattle.wire.specs.Outcome.{Outcome, accepted, refused, require, after, verdict}
use Rattle.wire.specs.Marks.{marks_of}
use Rattle.wire.proofs.Tests.{and_true, and_false}
use Rattle.wire.proofs.Outcomes.{passed, same_value}
use Rattle.crew.specs.Thresholds.{class_of}
use Rattle.message.specs.Layout.{slot_size}
use Rattle.ballot.specs.Selection.{Choice, selection}
use Rattle.node.specs.declared.Node.{Node}
use Rattle.node.specs.Soundness.{sound}
use Rattle.inbox.specs.Inbox.{ballots, counts}
use Rattle.rounds.specs.Taking.{after_round, take_of}
use Rattle.rounds.specs.Asking.{ask_of}
use Rattle.rounds.specs.Marking.{marking_of}
use Rattle.rounds.specs.declared.Round.{Round}
use Rattle.rounds.specs.Steps.{coming_round, ready_of}

-- what comes after the tests of a round, by what these are told to come to
pub told : {A : Type 0} (value : A) {outcome : Outcome A} {tests answer : Outcome Round}
    → outcome ≡ after (verdict tests) (accepted value) → answer ≡ tests
    → outcome ≡ after (verdict answer) (accepted value)
told value comes same = comes ∙ ap (λ tests. after (verdict tests) (accepted value)) (sym same)

module _ (d : Node) (bytes : List ℕ) where
  -- the record after a round that passes, and what is then told of a selection and of the slots
  abbrev pub next : Node
  next = after_round d (ballots d bytes)

  abbrev pub choice : Choice
  choice = selection (class_of d.crew) d.crew (ballots d bytes)

  abbrev pub own_marks : ℕ
  own_marks = marks_of (counts d bytes) d.crew.n

  -- what is made of a round comes after the tests of it, and is refused where they fail
  after_ready : {A : Type 0} (asked : Bool) (value : A)
      → require (sound d) 7
      (require (ltb d.phase spent_phase) 8
      (require (eqb (length bytes) (slot_size * d.crew.n)) 14 (accepted value)))
      ≡ after (verdict (ready_of d bytes asked)) (accepted value)
  after_ready {A} asked value = go (sound d) (ltb d.phase spent_phase) (eqb (length bytes) (slot_size * d.crew.n))
    where
      go : (own early whole : Bool)
          → require own 7 (require early 8 (require whole 14 (accepted value)))
          ≡ after (verdict (require own 7 (require early 8 (require whole 14 (accepted (coming_round d asked))))))
          (accepted value)
      go true true true = refl
      go true true false = refl
      go true false whole = refl
      go false early whole = refl

  pub take_tested : take_of d bytes ≡ after (verdict (ready_of d bytes false)) (accepted next)
  unfolding take_of
  take_tested = after_ready false next

  pub marks_tested : marking_of d bytes ≡ after (verdict (ready_of d bytes false)) (accepted own_marks)
  unfolding marking_of
  marks_tested = after_ready false own_marks

  -- a selection is asked for in round 1 alone
  pub ask_tested : d.round ≡ 1 → ask_of d bytes ≡ after (verdict (ready_of d bytes true)) (accepted choice)
  unfolding ask_of
  ask_tested first = rw (eq-eqb _ _ first, and_true (sound d)) (after_ready true choice)

  pub ask_outside : d.round ≢ 1 → ask_of d bytes ≡ refused 7
  unfolding ask_of
  ask_outside other = rw (ne_eqb _ _ other, and_false (sound d)) refl

  -- a round that comes is the node's own, and no test of it fails
  pub ready_passes : (asked : Bool) {round : Round} → accepted round ≡ ready_of d bytes asked
      → (round ≡ coming_round d asked)
      × (sound d ≡ true)
      × (d.phase < spent_phase)
      × (length bytes ≡ slot_size * d.crew.n)
  ready_passes asked e =
      let sounds = passed (sound d) 7 _ (sym e) in
      let unspent = passed (ltb d.phase spent_phase) 8 _ sounds.1 in
      let whole = passed (eqb (length bytes) (slot_size * d.crew.n)) 14 _ unspent.1 in
      (sym (same_value whole.1), sounds.0, ltb-true _ _ unspent.0, eqb-true _ _ whole.0)

  -- the slots are told where the round is taken, and refused with the same number
  pub told_where_taken : verdict (marking_of d bytes) ≡ verdict (take_of d bytes)
  told_where_taken = ap verdict marks_tested ∙ same_verdict (ready_of d bytes false) ∙ sym (ap verdict take_tested)
    where
      same_verdict : (ready : Outcome Round)
          → verdict (after (verdict ready) (accepted own_marks)) ≡ verdict (after (verdict ready) (accepted next))
      same_verdict (accepted round) = refl
      same_verdict (refused number) = refl
