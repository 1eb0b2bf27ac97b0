-- With c = n the cases of 01 and the table of C-11 stand.
use mathlib.Core.Path.{◌≡◌, refl, ap, ◌∙◌}
use mathlib.Core.Bool.{true, not}
use mathlib.Core.List.{List}
use Prim.Native.Nat.{ℕ, ◌<◌}
use native.Mathlib.Omega.{arith}
use lib.Dec.{eqb}
use Rattle.wire.proofs.Tests.{T-or-r}
use Rattle.wire.specs.Outcome.{Outcome, accepted, refused, require, after, is_accepted}
use Rattle.crew.specs.declared.Crew.{Crew}
use Rattle.crew.specs.Acceptance.{group_known, quorum_of, accept_of}
use Rattle.crew.specs.Group.{validates, speaks}
use Rattle.crew.proofs.Facts.{quorum, accepts, group_from, whole_group, size_above}
use Rattle.ballot.specs.Ballot.{Ballot, inbox}
use Rattle.ballot.specs.Validation.{valid}
use Rattle.ballot.proofs.Tests.{turn_says}
use Rattle.ballot.proofs.Turns.{everybody, circle_serves}
use Rattle.node.specs.declared.Node.{Node}
use Rattle.node.specs.Sending.{coming_of}
use Rattle.inbox.specs.Inbox.{ballot_in, ballot_at, ballots}
use Rattle.inbox.proofs.Meaning.{gather_same}
use Rattle.least_crews.specs.Search.{crew_with}
use Rattle.least_crews.proofs.Ranges.{ranges}
use Rattle.least_crews.proofs.Forms.{search_least}
use Rattle.whole_group.specs.Statement.{coming_before, valid_before, AsBefore, WholeGroup}

-- 17 comes after the four conditions, and all nodes are a group of every class
never_refused : (crew : Crew) → crew.c ≡ crew.n → accept_of crew ≡ quorum_of crew
unfolding accept_of
never_refused crew whole = go (quorum_of crew) refl
  where
    go : (o : Outcome (Unit {0})) → quorum_of crew ≡ o → after o (require (group_known crew) 17 (accepted tt)) ≡ o
    go (accepted tt) e = rw (group_from crew (whole_group (quorum crew e) whole))
    go (refused number) e = refl

module _ (crew : Crew) (whole : crew.c ≡ crew.n) where
  -- of a record of this crew
  module _ (d : Node) (of_crew : d.crew ≡ crew) where
    validates_all : (q : ℕ) → q < crew.n → validates d.crew d.phase q ≡ true
    validates_all q less = ap (λ c. validates c d.phase q) of_crew ∙ everybody crew whole d.phase q less

    written : d.own < crew.n → coming_of d ≡ coming_before d
    unfolding coming_of
    written own = rw (validates_all d.own own)

    heard : (bytes : List ℕ) (q : ℕ) → q < crew.n
        → ballot_at d bytes q ≡ ballot_in d.run d.phase d.round bytes q
    heard bytes q less =
        turn_says (speaks d.crew d.phase d.round q)
        (T-or-r (not (eqb d.round 2)) (validates d.crew d.phase q) (rw (validates_all q less) tt))

    polled : (bytes : List ℕ) → ballots d bytes ≡ inbox crew (ballot_in d.run d.phase d.round bytes)
    polled bytes =
        ap (λ c. inbox c (ballot_at d bytes)) of_crew
        ∙ gather_same (ballot_at d bytes) (ballot_in d.run d.phase d.round bytes) crew.n (heard bytes)

  bounded : (ballots : List Ballot) (v : ℕ) → valid crew ballots v ≡ valid_before crew ballots v
  unfolding valid
  bounded ballots v = rw whole

  as_before : AsBefore crew
  as_before = record {
    accepts = never_refused crew whole;
    validate = everybody crew whole;
    bound = bounded;
    writes = written;
    hears = heard;
    polls = polled;
    circles = λ ok phase circle wide.
        circle_serves crew (omega arith) (omega (arith, size_above (accepts crew ok).quorum)) phase circle wide;
  }

pub whole_group_stands : WholeGroup
whole_group_stands = record {
  cases = as_before;
  table = record {
    search = λ class b f n d. ap is_accepted (never_refused (crew_with class b f n d) refl);
    least = λ class b f inside. let r = ranges class b f inside in search_least class b f r.class_from r.class_to;
  };
}
