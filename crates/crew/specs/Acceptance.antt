-- When a crew is accepted: document 01, 'Crew and node' and 'What each operation turns down', and 02, C-13.
use Rattle.std.specs.Prelude.{ℕ, ◌+◌, ◌*◌, Bool, cond, ◌&&◌, leb, ltb, eqb, Result}
use Rattle.wire.specs.Outcome.{Outcome, accepted, require, after, outcome_of}
use Rattle.crew.specs.Parts.{most_nodes}
use Rattle.crew.specs.declared.Crew.{Crew}
use Rattle.crew.specs.declared.AcceptRefusal.{AcceptRefusal}
use Rattle.crew.specs.declared.AcceptRefusal.TheVariants.{Class, Size, QuorumTooHigh, QuorumTooLow, Group}

-- 01: "class is 1 to 3"
abbrev pub class_known : Crew → Bool
class_known crew = leb 1 crew.class && leb crew.class 3

-- 01: "n is 1 to 32"
abbrev pub size_known : Crew → Bool
size_known crew = leb 1 crew.n && leb crew.n most_nodes

-- 01: "D + b + f ≤ n"
abbrev pub reachable : Crew → Bool
reachable crew = leb (crew.d + crew.b + crew.f) crew.n

-- 01: "class 1: 2D > n + 3b + f; class 2: D > 3b + f; class 3: D > 2b + f"
abbrev pub high_enough : Crew → Bool
high_enough crew =
    cond (eqb crew.class 1) (ltb (crew.n + 3 * crew.b + crew.f) (2 * crew.d))
    (cond (eqb crew.class 2) (ltb (3 * crew.b + crew.f) crew.d)
    (ltb (2 * crew.b + crew.f) crew.d))

-- 01: "Accepting a crew: 1 class not 1 to 3; 2 n not 1 to 32; 3 D + b + f > n; 4 D too low for the class."
abbrev pub quorum_of : Crew → Outcome (Unit {0})
quorum_of crew =
    require (class_known crew) 1
    (require (size_known crew) 2
    (require (reachable crew) 3
    (require (high_enough crew) 4
    (accepted tt))))

-- what is not "c above n, c ≤ b in class 2, c ≤ 3b + 2f in class 3, and c other than n in class 1" (02)
abbrev pub group_known : Crew → Bool
group_known crew =
    cond (eqb crew.class 1) (eqb crew.c crew.n)
    (cond (eqb crew.class 2) (leb crew.c crew.n && ltb crew.b crew.c)
    (leb crew.c crew.n && ltb (3 * crew.b + 2 * crew.f) crew.c))

-- 02: "It refuses with 17, after 4 wherever a crew is tested"
unfoldable pub accept_of : Crew → Outcome (Unit {0})
accept_of crew = after (quorum_of crew) (require (group_known crew) 17 (accepted tt))

-- the papers' number of each refusal
abbrev pub accept_number : AcceptRefusal → ℕ
accept_number Class = 1
accept_number Size = 2
accept_number QuorumTooHigh = 3
accept_number QuorumTooLow = 4
accept_number Group = 17

-- what an answer of `accept` says in the papers' terms
abbrev pub accept_answer : Result (Unit {0}) AcceptRefusal → Outcome (Unit {0})
accept_answer answer = outcome_of accept_number answer
