-- The least crews in closed form, of every b and f: a remark for planners, and the law by which the table is shown.
use mathlib.Core.Path.{◌≡◌, refl, sym, subst}
use mathlib.Core.Bool.{Bool, true, false, cond}
use Prim.Native.Nat.{ℕ, ◌+◌, ◌-◌, ◌*◌, ◌≤◌}
use native.Mathlib.Omega.{arith}
use lib.Dec.{leb}
use borrow.Author.Tests.{leb-true, leb-false}
use Rattle.wire.specs.Outcome.{accepted}
use Rattle.crew.specs.declared.Crew.{Crew}
use Rattle.crew.specs.Parts.{most_nodes}
use Rattle.crew.specs.Acceptance.{accept_of}
use Rattle.crew.specs.Thresholds.{Class, one, two, three, class_of}
use Rattle.crew.proofs.Facts.{High, Quorum, accepts, accepted_from, whole_group}
use Rattle.least_crews.specs.declared.Least.{Least}
use Rattle.least_crews.specs.Search.{crew_with, no_crew, least_crew}
use Rattle.least_crews.specs.Entries.{AcceptedWith, IsLeast}
use Rattle.least_crews.proofs.Found.{found}

-- so many nodes each class needs
abbrev nodes_of : Class → ℕ → ℕ → ℕ
nodes_of one b f = 5 * b + 3 * f + 1
nodes_of two b f = 4 * b + 2 * f + 1
nodes_of three b f = 3 * b + 2 * f + 1

-- the class by its number
abbrev kind : ℕ → Class
kind class = class_of (crew_with class 0 0 0 0)

abbrev pub nodes : ℕ → ℕ → ℕ → ℕ
nodes class b f = nodes_of (kind class) b f

-- then all that b and f leave have to decide
abbrev pub votes : ℕ → ℕ → ℕ → ℕ
votes class b f = nodes class b f - b - f

-- both 0 where these nodes are too many for a crew
abbrev pub closed_form : ℕ → ℕ → ℕ → Least
closed_form class b f =
    let n = nodes class b f in
    cond (leb n most_nodes) (record { n = n; d = votes class b f }) no_crew

-- an accepted crew has so many nodes, and where it has no more, so many votes decide
lowest : (class : Class) (crew : Crew) → High class crew → crew.d + crew.b + crew.f ≤ crew.n
    → (nodes_of class crew.b crew.f ≤ crew.n)
    × (crew.n ≡ nodes_of class crew.b crew.f → nodes_of class crew.b crew.f - crew.b - crew.f ≤ crew.d)
lowest one crew high reach = (omega arith, λ e. omega arith)
lowest two crew high reach = (omega arith, λ e. omega arith)
lowest three crew high reach = (omega arith, λ e. omega arith)

-- and the crew that has just these meets the conditions on D
enough : (class : Class) (number b f : ℕ)
    → (let n = nodes_of class b f in let crew = crew_with number b f n (n - b - f) in
    (crew.d + crew.b + crew.f ≤ crew.n) × High class crew × (1 ≤ crew.n))
enough one number b f = (omega arith, omega arith, omega arith)
enough two number b f = (omega arith, omega arith, omega arith)
enough three number b f = (omega arith, omega arith, omega arith)

module _ (class b f : ℕ) where
  bounds : (crew : Crew) → AcceptedWith class b f crew
      → (nodes class b f ≤ crew.n) × (crew.n ≤ most_nodes) × (crew.n ≡ nodes class b f → votes class b f ≤ crew.d)
  bounds crew a =
      let facts : Quorum crew = (accepts crew a.is_accepted).quorum in
      let low = rw (a.its_class, a.its_b, a.its_f) at (lowest (class_of crew) crew facts.high facts.reach) in
      (low.0, facts.size_to, low.1)

  module _ (from : 1 ≤ class) (to : class ≤ 3) where
    form_accepted : nodes class b f ≤ most_nodes
        → accept_of (crew_with class b f (nodes class b f) (votes class b f)) ≡ accepted tt
    form_accepted small =
        let crew = crew_with class b f (nodes class b f) (votes class b f) in
        let has = enough (kind class) class b f in
        let facts : Quorum crew = record {
          class_from = from;
          class_to = to;
          size_from = has.2;
          size_to = small;
          reach = has.0;
          high = has.1;
        } in
        accepted_from crew (record { quorum = facts; group = whole_group facts refl })

    -- the law: the closed form is the least crew
    pub form_least : IsLeast class b f (closed_form class b f)
    form_least = go (leb (nodes class b f) most_nodes) refl
      where
        go : (small : Bool) → leb (nodes class b f) most_nodes ≡ small
            → IsLeast class b f (cond small (record { n = nodes class b f; d = votes class b f }) no_crew)
        go true e =
            record {
              itself = λ some. form_accepted (leb-true _ _ e);
              no_lower_n = λ crew a. (bounds crew a).0;
              no_lower_d = λ crew a same. (bounds crew a).2 same;
              none = λ no crew a. omega (arith, (enough (kind class) class b f).2);
              both = λ no. absurd (omega (arith, (enough (kind class) class b f).2));
            }
        go false e =
            record {
              itself = λ some. absurd (some refl);
              no_lower_n = λ crew a. omega arith;
              no_lower_d = λ crew a same. omega arith;
              none = λ no crew a. omega (arith, bounds crew a, leb-false (nodes class b f) most_nodes e);
              both = λ no. refl;
            }

    -- so it is what the search finds
    pub closed_form_lem : least_crew class b f ≡ closed_form class b f
    closed_form_lem = found class b f (closed_form class b f) form_least

    -- and what it finds is the least crew, also beyond the table
    pub search_least : IsLeast class b f (least_crew class b f)
    search_least = subst (IsLeast class b f) (sym closed_form_lem) form_least
