-- The list of calls is a run of the abstract engine: every honest record, round by round, is the engine's node.
use mathlib.Core.Path.{◌≡◌, refl, sym, ap, ap₂, ◌∙◌, subst}
use mathlib.Core.List.{List}
use mathlib.Core.Bool.{true}
use mathlib.Core.Option.{Option, none, some}
use Prim.Native.Nat.{ℕ, zero, suc, ◌*◌, ◌≤◌, ◌<◌}
use native.Mathlib.Omega.{arith}
use lib.ListN.{length}
use lib.Dec.{T, ltb→lt}
use Rattle.wire.specs.Sizes.{plan_limit, run_limit, spent_phase}
use Rattle.crew.specs.declared.Crew.{Crew}
use Rattle.crew.specs.Thresholds.{class_of}
use Rattle.crew.proofs.Facts.{accepts}
use Rattle.message.specs.Layout.{slot_size}
use Rattle.ballot.specs.Ballot.{Ballot, inbox}
use Rattle.model.proofs.Voter.{selecting, opened}
use Rattle.model.proofs.Engine.{State, Inboxes, opening, step, saying, Run, state, Held}
use Rattle.model.proofs.Run.{moves}
use Rattle.node.specs.declared.Node.{Node}
use Rattle.node.specs.Record.{begun}
use Rattle.node.specs.Soundness.{sound}
use Rattle.node.specs.Sending.{coming_of}
use Rattle.node.proofs.Facts.{Typed, sound_facts}
use Rattle.node.proofs.StartLaws.{start_accepted, start_sound, start_typed}
use Rattle.inbox.specs.Inbox.{ballot_at, ballots}
use Rattle.rounds.specs.Taking.{after_round}
use Rattle.agreement.specs.Statement.{Start, Execution, Call, made, honest, record_of, after_calls, calls, record_at}
use Rattle.agreement.specs.Statement.{taken_inbox, inbox_at, write, Puts, Wrote, Whole, Premises}
use Rattle.agreement.proofs.Answers.{take_whole, take_cut, take_spent}
use Rattle.agreement.proofs.Soundness.{take_sound, take_typed}
use Rattle.agreement.proofs.Record.{as_record, take_turns}
use Rattle.agreement.proofs.Written.{forward, coming_said}
use Rattle.agreement.proofs.Calls.{whole_takes, whole_wrote, refused_keeps}
use Rattle.agreement.proofs.Starts.{MadeBy, started}
use Rattle.agreement.proofs.Places.{place_early}

-- The engine's run.

-- what slot q of an inbox says, nothing where no inbox was taken
abbrev pub slot_in : Node → Option (List ℕ) → ℕ → Option Ballot
slot_in d none q = none
slot_in d (some bytes) q = ballot_at d bytes q

-- what slot q of the inbox that p took in round j says
abbrev pub said : Execution → ℕ → Inboxes
said l j p q = slot_in (record_at l p j) (inbox_at l p j) q

abbrev pub run_of : Execution → Crew → Run
run_of l crew = record {
  crew = crew;
  honest = honest l;
  plans = λ q. (record_of q (made l.starts)).vote;
  rounds = said l;
  total = length l.rounds;
}

-- The record of q when round j begins is the engine's node in this state. It is sound, and its fields fit their types.
pub record Follows (l : Execution) (crew : Crew) (run q j : ℕ) (s : State) : Type 0 where
  pub is : record_at l q j ≡ as_record crew run q s.phase s.round (s.node q)
  pub is_sound : sound (record_at l q j) ≡ true
  pub typed : Typed (record_at l q j)

-- what the calls of a whole round give: the inbox that was taken, and the record after it
pub record Took (d : Node) (cs : List Call) : Type 0 where
  pub bytes : List ℕ
  pub taken : taken_inbox d cs ≡ some bytes
  pub long : length bytes ≡ slot_size * d.crew.n
  pub after : after_calls d cs ≡ after_round d (ballots d bytes)

-- a sound, unspent record in a whole round
module _ (d : Node) (ok : sound d ≡ true) (left : d.phase < spent_phase) (cs : List Call)
    (whole : Whole d.crew.n cs) where
  round_took : Took d cs
  round_took =
      let r = whole_takes d d.crew.n (λ bytes. after_round d (ballots d bytes)) (take_whole d ok left)
      (take_cut d ok left) cs whole in
      record { bytes = r.0; taken = r.2; long = r.1; after = r.3 }

  round_wrote : (bytes : List ℕ) → Wrote d cs bytes → (buffer : List ℕ) × Puts d (write buffer) bytes
  round_wrote bytes w =
      whole_wrote d d.crew.n (λ bytes. after_round d (ballots d bytes)) (take_whole d ok left)
      (take_cut d ok left) cs bytes whole w

-- a record that a start gave
start_opens : (d : Node) (crew : Crew) (own run plan : ℕ) → d ≡ begun crew own run plan
    → d ≡ as_record d.crew d.run d.own 1 selecting (opened d.vote)
unfolding begun
start_opens d crew own run plan e =
    subst (λ (x : Node). x ≡ as_record x.crew x.run x.own 1 selecting (opened x.vote)) (sym e) refl

module _ (l : Execution) (crew : Crew) (run : ℕ) (pre : Premises l crew run) where
  abbrev Typed-start : Start → Type 0
  Typed-start s = (s.run < run_limit) × (s.plan < plan_limit)

  abbrev Of-crew : Node → Type 0
  Of-crew d = (d.crew ≡ crew) × (d.run ≡ run)

  first : (q : ℕ) → T (honest l q) → MadeBy Typed-start Of-crew q (record_of q (made l.starts))
  first q h = started Typed-start Of-crew q l.starts pre.typed pre.one_crew (ltb→lt 0 _ h)

  -- The record of an honest node, round by round.

  begins : (q : ℕ) → T (honest l q) → Follows l crew run q 0 (opening (run_of l crew).plans)
  unfolding record_at
  begins q h =
      let made_by = first q h in
      let s = made_by.start in
      let d = record_of q (made l.starts) in
      let b = start_accepted s.crew s.own s.run s.plan d made_by.answer in
      let crew_is = made_by.of_record.0 in
      let run_is = made_by.of_record.1 in
      let own_is = made_by.own in
      record {
        is =
            start_opens d s.crew s.own s.run s.plan b.is_begun
            ∙ (λ i. as_record (crew_is i) (run_is i) (own_is i) 1 selecting (opened d.vote));
        is_sound = start_sound s.crew s.own s.run s.plan d made_by.answer;
        typed =
            start_typed s.crew s.own s.run s.plan d made_by.answer made_by.of_start.0
            made_by.of_start.1;
      }

  -- what the engine hears is what counts in the bytes
  pub heard_is : (q j : ℕ) → (record_at l q j).crew ≡ crew → (bytes : List ℕ) → inbox_at l q j ≡ some bytes
      → ballots (record_at l q j) bytes ≡ inbox crew (said l j q)
  heard_is q j crew_is bytes e =
      ap (λ c. inbox c (ballot_at (record_at l q j) bytes)) crew_is
      ∙ sym (ap (λ o. inbox crew (slot_in (record_at l q j) o)) e)

  module _ (q j : ℕ) (h : T (honest l q)) (inside : j < length l.rounds)
      (f : Follows l crew run q j (state (run_of l crew) j)) where
    abbrev s : State
    s = state (run_of l crew) j

    abbrev d : Node
    d = record_at l q j

    crew_same : d.crew ≡ crew
    crew_same = ap (λ (x : Node). x.crew) f.is

    phase_same : d.phase ≡ s.phase
    phase_same = ap (λ (x : Node). x.phase) f.is

    whole : s.phase < spent_phase → Whole d.crew.n (calls l q j)
    whole left =
        subst (λ (c : Crew). Whole c.n (calls l q j)) (sym crew_same)
        (pre.whole q j h inside (omega (arith, place_early (run_of l crew) j left)))

    took_at : s.phase < spent_phase → Took d (calls l q j)
    took_at left = round_took d f.is_sound (omega (arith, phase_same)) (calls l q j) (whole left)

    steps : s.phase < spent_phase → Follows l crew run q (suc j) (step (class_of crew) crew (said l j) s)
    unfolding record_at
    steps left =
        let t = took_at left in
        let heard = ballots d t.bytes in
        let takes = take_whole d f.is_sound (omega (arith, phase_same)) t.bytes t.long in
        let same = heard_is q j crew_same t.bytes t.taken in
        record {
          is =
              t.after
              ∙ ap₂ after_round f.is same
              ∙ take_turns crew run q s.phase s.round (s.node q) (inbox crew (said l j q));
          is_sound =
              subst (λ (x : Node). sound x ≡ true) (sym t.after)
              (take_sound d t.bytes (after_round d heard) takes);
          typed =
              subst Typed (sym t.after)
              (take_typed d t.bytes (after_round d heard) f.typed (pre.bytes q j h t.bytes t.taken) takes);
        }

    stays : spent_phase ≤ s.phase → Follows l crew run q (suc j) s
    unfolding record_at
    stays end =
        let same = (refused_keeps d (take_spent d f.is_sound (omega (arith, phase_same))) (calls l q j)).0 in
        record {
          is = same ∙ f.is;
          is_sound = subst (λ (x : Node). sound x ≡ true) (sym same) f.is_sound;
          typed = subst Typed (sym same) f.typed;
        }

  pub follows : (q j : ℕ) → T (honest l q) → j ≤ length l.rounds → Follows l crew run q j (state (run_of l crew) j)
  unfolding state
  follows q zero h inside = begins q h
  follows q (suc j) h inside =
      let f = follows q j h (omega arith) in
      moves (run_of l crew) (Follows l crew run q (suc j)) j (steps q j h (omega arith) f) (stays q j h (omega arith) f)

  pub honest_below : (q : ℕ) → T (honest l q) → q < crew.n
  honest_below q h =
      let f = follows q 0 h (omega arith) in
      let own = (sound_facts (record_at l q 0) f.is_sound).own in
      subst (λ (x : Node). x.own < x.crew.n) f.is own

  pub crew_is : (q j : ℕ) → T (honest l q) → j ≤ length l.rounds → (record_at l q j).crew ≡ crew
  crew_is q j h inside = ap (λ (x : Node). x.crew) (follows q j h inside).is

  -- before the records are spent every honest node takes an inbox; afterwards it takes none
  pub took : (q j : ℕ) → T (honest l q) → Held (run_of l crew) j → Took (record_at l q j) (calls l q j)
  took q j h held = took_at q j h held.0 (follows q j h (omega (arith, held.0))) held.1

  pub took_none : (q j : ℕ) → T (honest l q) → j ≤ length l.rounds → spent_phase ≤ (state (run_of l crew) j).phase
      → inbox_at l q j ≡ none
  took_none q j h inside end =
      let f = follows q j h inside in
      let spent : spent_phase ≤ (record_at l q j).phase = omega (arith, ap (λ (x : Node). x.phase) f.is) in
      (refused_keeps (record_at l q j) (take_spent (record_at l q j) f.is_sound spent) (calls l q j)).1

  -- what an honest node wrote in a round it wrote on the record with which the round begins
  pub wrote_at : (q j : ℕ) → T (honest l q) → Held (run_of l crew) j → (written : List ℕ)
      → Wrote (record_at l q j) (calls l q j) written
      → (buffer : List ℕ) × Puts (record_at l q j) (write buffer) written
  wrote_at q j h held written wrote =
      let f = follows q j h (omega (arith, held.0)) in
      let left : (record_at l q j).phase < spent_phase = omega (arith, held.1, phase_same q j h held.0 f) in
      round_wrote (record_at l q j) f.is_sound left (calls l q j) (whole q j h held.0 f held.1) written wrote

  -- what its coming message puts forward is what the engine's node says
  pub coming_is : (q j : ℕ) → T (honest l q) → j ≤ length l.rounds
      → forward (coming_of (record_at l q j)) ≡ saying (class_of crew) crew (state (run_of l crew) j) q
  coming_is q j h inside =
      let s = state (run_of l crew) j in
      ap (λ (d : Node). forward (coming_of d)) (follows q j h inside).is
      ∙ coming_said crew run q s.phase s.round (s.node q) (accepts crew pre.crew_accepted).quorum
