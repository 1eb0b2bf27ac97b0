-- What acceptance gives, for every accepted crew: the inequalities on which all later arguments rest.
-- Builds on specs/Acceptance.antt and specs/Thresholds.antt.
use mathlib.Core.Path.{◌≡◌}
use mathlib.Core.Bool.{Bool, true, false, cond, ◌&&◌}
use Prim.Native.Nat.{◌+◌, ◌-◌, ◌*◌, ◌≤◌, ◌<◌}
use native.Mathlib.Omega.{arith}
use lib.Dec.{leb, ltb, eqb}
use borrow.Author.Tests.{leb-true, ltb-true, eqb-true, le-leb, lt-ltb, eq-eqb}
use Rattle.wire.specs.Outcome.{accepted}
use Rattle.wire.proofs.Tests.{both_true}
use Rattle.wire.proofs.Outcomes.{passed, both_accepted}
use Rattle.crew.specs.declared.Crew.{Crew}
use Rattle.crew.specs.Parts.{most_nodes}
use Rattle.crew.specs.Acceptance.{
  class_known,
  size_known,
  reachable,
  high_enough,
  group_known,
  quorum_of,
  accept_of,
}
use Rattle.crew.specs.Thresholds.{Class, one, two, three, class_of, E, any_above}

-- what a class asks of D
abbrev pub High : Class → Crew → Type 0
High one crew = crew.n + 3 * crew.b + crew.f < 2 * crew.d
High two crew = 3 * crew.b + crew.f < crew.d
High three crew = 2 * crew.b + crew.f < crew.d

-- what a class asks of c
abbrev pub Group : Class → Crew → Type 0
Group one crew = crew.c ≡ crew.n
Group two crew = (crew.c ≤ crew.n) × (crew.b < crew.c)
Group three crew = (crew.c ≤ crew.n) × (3 * crew.b + 2 * crew.f < crew.c)

-- 01's four conditions, as facts
pub record Quorum (crew : Crew) : Type 0 where
  pub class_from : 1 ≤ crew.class
  pub class_to : crew.class ≤ 3
  pub size_from : 1 ≤ crew.n
  pub size_to : crew.n ≤ most_nodes
  pub reach : crew.d + crew.b + crew.f ≤ crew.n
  pub high : High (class_of crew) crew

-- the conditions of acceptance: these, and what is asked of the group
pub record Accepts (crew : Crew) : Type 0 where
  pub quorum : Quorum crew
  pub group : Group (class_of crew) crew

high_is : (crew : Crew) → high_enough crew ≡ true → High (class_of crew) crew
high_is crew h = go (eqb crew.class 1) (eqb crew.class 2) h
  where
    go : (first second : Bool)
        → cond first (ltb (crew.n + 3 * crew.b + crew.f) (2 * crew.d))
        (cond second (ltb (3 * crew.b + crew.f) crew.d) (ltb (2 * crew.b + crew.f) crew.d)) ≡ true
        → High (cond first one (cond second two three)) crew
    go true second h = ltb-true _ _ h
    go false true h = ltb-true _ _ h
    go false false h = ltb-true _ _ h

pub quorum : (crew : Crew) → quorum_of crew ≡ accepted tt → Quorum crew
quorum crew e =
    let class = passed (class_known crew) 1 _ e in
    let size = passed (size_known crew) 2 _ class.1 in
    let sum = passed (reachable crew) 3 _ size.1 in
    let d-high = passed (high_enough crew) 4 _ sum.1 in
    let classes = both_true (leb 1 crew.class) (leb crew.class 3) class.0 in
    let sizes = both_true (leb 1 crew.n) (leb crew.n most_nodes) size.0 in
    record {
      class_from = leb-true _ _ classes.0;
      class_to = leb-true _ _ classes.1;
      size_from = leb-true _ _ sizes.0;
      size_to = leb-true _ _ sizes.1;
      reach = leb-true _ _ sum.0;
      high = high_is crew d-high.0;
    }

group_is : (crew : Crew) → group_known crew ≡ true → Group (class_of crew) crew
group_is crew h = go (eqb crew.class 1) (eqb crew.class 2) h
  where
    go : (first second : Bool)
        → cond first (eqb crew.c crew.n)
        (cond second (leb crew.c crew.n && ltb crew.b crew.c)
        (leb crew.c crew.n && ltb (3 * crew.b + 2 * crew.f) crew.c)) ≡ true
        → Group (cond first one (cond second two three)) crew
    go true second h = eqb-true _ _ h
    go false true h = let b = both_true _ _ h in (leb-true _ _ b.0, ltb-true _ _ b.1)
    go false false h = let b = both_true _ _ h in (leb-true _ _ b.0, ltb-true _ _ b.1)

pub accepts : (crew : Crew) → accept_of crew ≡ accepted tt → Accepts crew
unfolding accept_of
accepts crew e =
    let parts = both_accepted (quorum_of crew) _ e in
    let grouped = passed (group_known crew) 17 _ parts.1 in
    record { quorum = quorum crew parts.0; group = group_is crew grouped.0 }

-- what a class asks of D, as the test of acceptance
high_from : (crew : Crew) → High (class_of crew) crew → high_enough crew ≡ true
high_from crew h = go (eqb crew.class 1) (eqb crew.class 2) h
  where
    go : (first second : Bool) → High (cond first one (cond second two three)) crew
        → cond first (ltb (crew.n + 3 * crew.b + crew.f) (2 * crew.d))
        (cond second (ltb (3 * crew.b + crew.f) crew.d) (ltb (2 * crew.b + crew.f) crew.d)) ≡ true
    go true second h = lt-ltb _ _ h
    go false true h = lt-ltb _ _ h
    go false false h = lt-ltb _ _ h

pub group_from : (crew : Crew) → Group (class_of crew) crew → group_known crew ≡ true
group_from crew g = go (eqb crew.class 1) (eqb crew.class 2) g
  where
    go : (first second : Bool) → Group (cond first one (cond second two three)) crew
        → cond first (eqb crew.c crew.n)
        (cond second (leb crew.c crew.n && ltb crew.b crew.c)
        (leb crew.c crew.n && ltb (3 * crew.b + 2 * crew.f) crew.c)) ≡ true
    go true second g = eq-eqb _ _ g
    go false true g = simp (le-leb _ _ g.0, lt-ltb _ _ g.1)
    go false false g = simp (le-leb _ _ g.0, lt-ltb _ _ g.1)

-- and the other way: a crew of which the conditions hold is accepted
quorum_from : (crew : Crew) → Quorum crew → quorum_of crew ≡ accepted tt
quorum_from crew a = simp (
  le-leb _ _ a.class_from,
  le-leb _ _ a.class_to,
  le-leb _ _ a.size_from,
  le-leb _ _ a.size_to,
  le-leb _ _ a.reach,
  high_from crew a.high,
)

pub accepted_from : (crew : Crew) → Accepts crew → accept_of crew ≡ accepted tt
unfolding accept_of
accepted_from crew a = simp (quorum_from crew a.quorum, group_from crew a.group)

-- In any class D passes 2b + f: class 1 has 2D > n + 3b + f ≥ D + 4b + 2f.
pub quorum_high : {crew : Crew} → Quorum crew → 2 * crew.b + crew.f < crew.d
quorum_high {crew} a = go (class_of crew) a.high
  where
    go : (class : Class) → High class crew → 2 * crew.b + crew.f < crew.d
    go one h = omega (arith, a.reach)
    go two h = omega arith
    go three h = omega arith

-- a decision takes at least one vote, and more than the nodes that are not honest have
pub quorum_positive : {crew : Crew} → Quorum crew → 1 ≤ crew.d
quorum_positive a = omega (arith, quorum_high a)

pub quorum_above_b : {crew : Crew} → Quorum crew → crew.b < crew.d
quorum_above_b a = omega (arith, quorum_high a)

-- a circle of n − b − f nodes has the votes that decide
pub circle_decides : {crew : Crew} → Quorum crew → crew.d ≤ crew.n - crew.b - crew.f
circle_decides a = omega (arith, a.reach)

-- n passes 3b + 2f
pub size_above : {crew : Crew} → Quorum crew → 3 * crew.b + 2 * crew.f < crew.n
size_above a = omega (arith, quorum_high a, a.reach)

-- the bound E is at least 2b + f
pub bound_high : {crew : Crew} → Quorum crew → 2 * crew.b + crew.f ≤ E crew
bound_high a = omega (arith, a.reach)

-- a circle passes the bound for 'any': n − b − f > 2E in class 1, > E + b in class 2, > E in class 3
pub circle_above_any : {crew : Crew} → Quorum crew → any_above (class_of crew) crew < crew.n - crew.b - crew.f
circle_above_any {crew} a = go (class_of crew) a.high
  where
    go : (class : Class) → High class crew → any_above class crew < crew.n - crew.b - crew.f
    go one h = omega (arith, a.reach)
    go two h = omega (arith, a.reach)
    go three h = omega (arith, a.reach)

-- the group is no larger than the crew
pub group_small : {crew : Crew} → Accepts crew → crew.c ≤ crew.n
group_small {crew} a = go (class_of crew) a.group
  where
    go : (class : Class) → Group class crew → crew.c ≤ crew.n
    go one g = omega arith
    go two g = g.0
    go three g = g.0

-- and larger than the nodes that are not honest
pub group_above_b : {crew : Crew} → Accepts crew → crew.b < crew.c
group_above_b {crew} a = go (class_of crew) a.group
  where
    go : (class : Class) → Group class crew → crew.b < crew.c
    go one g = omega (arith, size_above a.quorum)
    go two g = g.1
    go three g = omega arith

-- what acceptance gives in every class: D votes can be had, they pass b, and so does the group
pub record Bounds (crew : Crew) : Type 0 where
  pub reach : crew.d + crew.b + crew.f ≤ crew.n
  pub above : crew.b < crew.d
  pub small : crew.c ≤ crew.n
  pub group : crew.b < crew.c

pub bounds : {crew : Crew} → Accepts crew → Bounds crew
bounds a = record {
  reach = a.quorum.reach;
  above = quorum_above_b a.quorum;
  small = group_small a;
  group = group_above_b a;
}

-- all nodes are a group of every class
pub whole_group : {crew : Crew} → Quorum crew → crew.c ≡ crew.n → Group (class_of crew) crew
whole_group {crew} a whole = go (class_of crew)
  where
    go : (class : Class) → Group class crew
    go one = whole
    go two = (omega arith, omega (arith, size_above a))
    go three = (omega arith, omega (arith, size_above a))
