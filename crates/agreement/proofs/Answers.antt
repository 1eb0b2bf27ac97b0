-- What the calls on a sound record answer, case by case.
use mathlib.Core.Path.{◌≡◌}
use mathlib.Core.Bool.{true}
use mathlib.Core.List.{List}
use mathlib.Core.Logic.{inl, inr, ◌≢◌}
use Prim.Native.Nat.{ℕ, ◌*◌, ◌≤◌, ◌<◌}
use native.Mathlib.Omega.{arith}
use native.Mathlib.Decide.{dec_le}
use lib.ListN.{length}
use lib.Dec.{ltb, eqb}
use borrow.Author.Tests.{lt-ltb, le-ltb, le-leb, lt-leb, eq-eqb, ne_eqb, ltb-true, eqb-true}
use Rattle.wire.specs.Sizes.{spent_phase}
use Rattle.wire.specs.Outcome.{accepted, refused}
use Rattle.wire.proofs.Outcomes.{passed, same_value}
use Rattle.message.specs.Layout.{slot_size}
use Rattle.node.specs.declared.Node.{Node}
use Rattle.node.specs.Soundness.{sound}
use Rattle.node.specs.Sending.{coming_bytes, write_coming_of}
use Rattle.inbox.specs.Inbox.{ballots}
use Rattle.rounds.specs.Taking.{after_round, take_of}
use Rattle.rounds.specs.Asking.{ask_of}
use Rattle.agreement.specs.Statement.{Unspent, Spent}

-- an accepted take: what was asked of it holds, and its record is the one after the round
pub record Takes (d : Node) (inbox : List ℕ) (e : Node) : Type 0 where
  pub is_sound : sound d ≡ true
  pub left : d.phase < spent_phase
  pub long : length inbox ≡ slot_size * d.crew.n
  pub is_after : after_round d (ballots d inbox) ≡ e

pub take_accepted : (d : Node) (inbox : List ℕ) (e : Node) → take_of d inbox ≡ accepted e → Takes d inbox e
unfolding take_of
take_accepted d inbox e h =
    let ok = passed (sound d) 7 _ h in
    let left = passed (ltb d.phase spent_phase) 8 _ ok.1 in
    let long = passed (eqb (length inbox) (slot_size * d.crew.n)) 14 _ left.1 in
    record {
      is_sound = ok.0;
      left = ltb-true _ _ left.0;
      long = eqb-true _ _ long.0;
      is_after = same_value long.1;
    }

-- a sound record
module _ (d : Node) (ok : sound d ≡ true) where
  pub take_whole : d.phase < spent_phase → (inbox : List ℕ) → length inbox ≡ slot_size * d.crew.n
      → take_of d inbox ≡ accepted (after_round d (ballots d inbox))
  unfolding take_of
  take_whole left inbox long =
      simp (ok, lt-ltb d.phase spent_phase left, eq-eqb (length inbox) (slot_size * d.crew.n) long)

  pub take_cut : d.phase < spent_phase → (inbox : List ℕ) → length inbox ≢ slot_size * d.crew.n
      → take_of d inbox ≡ refused 14
  unfolding take_of
  take_cut left inbox long =
      simp (ok, lt-ltb d.phase spent_phase left, ne_eqb (length inbox) (slot_size * d.crew.n) long)

  pub take_spent : spent_phase ≤ d.phase → (inbox : List ℕ) → take_of d inbox ≡ refused 8
  unfolding take_of
  take_spent spent inbox = simp (ok, le-ltb d.phase spent_phase spent)

  -- before it is spent, its calls are refused with 9 or 14 and with nothing else
  pub unspent_calls : d.phase < spent_phase → Unspent d.crew.n d
  unfolding write_coming_of ask_of
  unspent_calls left =
      let early = lt-ltb d.phase spent_phase left in
      record {
        writes = λ buffer. elim (dec_le (length (coming_bytes d)) (length buffer)) [
          | yes room ↦ inl (simp (ok, early, le-leb _ _ room))
          | no short ↦
              let over = lt-leb (length (coming_bytes d)) (length buffer) (omega arith) in
              inr (simp (ok, early, over), omega arith)
        ];
        takes = λ inbox long. rw (take_whole left inbox long) tt;
        takes_not = take_cut left;
        asks = λ inbox one long.
            simp (ok, early, eq-eqb d.round 1 one, eq-eqb (length inbox) (slot_size * d.crew.n) long) tt;
        asks_not = λ inbox one long.
            simp (ok, early, eq-eqb d.round 1 one, ne_eqb (length inbox) (slot_size * d.crew.n) long);
        asks_late = λ inbox late. simp (ok, ne_eqb d.round 1 late);
      }

  -- once it is spent, all of them are refused with 8
  pub spent_calls : d.phase ≡ spent_phase → d.round ≡ 1 → Spent d
  unfolding write_coming_of ask_of
  spent_calls last one =
      let spent = le-ltb d.phase spent_phase (omega arith) in
      record {
        phase = last;
        round = one;
        writes_not = λ buffer. (simp (ok, spent), simp (ok, spent));
        takes_not = take_spent (omega arith);
        asks_not = λ inbox. simp (ok, spent, eq-eqb d.round 1 one);
      }
