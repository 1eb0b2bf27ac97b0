-- What the search finds: the crew that is the least there is. Nothing here knows what the least crews are.
use mathlib.Core.Path.{◌≡◌, refl, ap}
use mathlib.Core.Logic.{◌≢◌}
use mathlib.Core.Bool.{Bool, true, false}
use mathlib.Core.Option.{none, some}
use Prim.Native.Nat.{ℕ, zero, suc, ◌+◌, ◌≤◌, ◌<◌}
use native.Mathlib.Omega.{arith}
use Rattle.wire.specs.Outcome.{is_accepted}
use Rattle.wire.proofs.Outcomes.{accepted_is}
use Rattle.wire.proofs.Tests.{by_equality}
use Rattle.crew.specs.declared.Crew.{Crew}
use Rattle.crew.specs.Acceptance.{accept_of}
use Rattle.crew.proofs.Facts.{Quorum, accepts}
use Rattle.least_crews.specs.declared.Least.{Least}
use Rattle.least_crews.specs.Search.{first_from, byte_values, is_found, crew_with, fits, least_d, least_n, least_crew}
use Rattle.least_crews.specs.Entries.{AcceptedWith, IsLeast}

-- the first that passes is found
first_is : (test : ℕ → Bool) (k i count : ℕ) → i ≤ k → k < i + count → test k ≡ true
    → ((j : ℕ) → j < k → test j ≡ false) → first_from test i count ≡ some k
unfolding first_from
first_is test k i zero from to passes below = absurd (omega arith)
first_is test k i (suc count) from to passes below =
    by_equality i k (λ e. rw (e, passes))
    (λ e. rw (below i (omega arith)) (first_is test k (suc i) count (omega arith) (omega arith) passes below))

-- where none passes none is found
first_none : (test : ℕ → Bool) (i count : ℕ) → ((j : ℕ) → test j ≡ false) → first_from test i count ≡ none
unfolding first_from
first_none test i zero never = refl
first_none test i (suc count) never = rw (never i) (first_none test (suc i) count never)

-- a test fails where that it passes is absurd
fails : (test : Bool) → (test ≡ true → ⊥) → test ≡ false
fails true h = absurd (h refl)
fails false h = refl

module _ (class b f : ℕ) where
  -- a crew that fits is an accepted one
  accepted_with : (n d : ℕ) → fits class b f n d ≡ true → AcceptedWith class b f (crew_with class b f n d)
  accepted_with n d fit =
      record {
        its_class = refl;
        its_b = refl;
        its_f = refl;
        is_accepted = accepted_is (accept_of (crew_with class b f n d)) fit;
      }

  -- where no D lets n nodes be accepted, none is found
  no_d : (n : ℕ) → ((d : ℕ) → AcceptedWith class b f (crew_with class b f n d) → ⊥)
      → is_found (least_d class b f n) ≡ false
  no_d n never =
      ap is_found (first_none (fits class b f n) 0 byte_values
      (λ d. fails (fits class b f n d) (λ t. never d (accepted_with n d t))))

  module _ (least : Least) (is : IsLeast class b f least) where
    module _ (some-n : least.n ≢ 0) where
      abbrev crew : Crew
      crew = crew_with class b f least.n least.d

      facts : Quorum crew
      facts = (accepts crew (is.itself some-n)).quorum

      -- its D is the first for its n
      d_found : least_d class b f least.n ≡ some least.d
      d_found =
          first_is (fits class b f least.n) least.d 0 byte_values (omega arith)
          (omega (arith, facts.reach, facts.size_to)) (ap is_accepted (is.itself some-n))
          (λ d lower. fails (fits class b f least.n d)
          (λ t. omega (arith, is.no_lower_d _ (accepted_with least.n d t) refl)))

      -- and its n the first that some D lets be accepted
      n_found : least_n class b f ≡ some least.n
      unfolding least_n
      n_found =
          first_is (λ n. is_found (least_d class b f n)) least.n 0 byte_values (omega arith)
          (omega (arith, facts.size_to)) (ap is_found d_found)
          (λ n lower. no_d n (λ d a. omega (arith, is.no_lower_n _ a)))

    none_found : least.n ≡ 0 → least_n class b f ≡ none
    unfolding least_n
    none_found no-n =
        first_none (λ n. is_found (least_d class b f n)) 0 byte_values (λ n. no_d n (λ d a. is.none no-n _ a))

    -- so the search finds the least crew, and both 0 where there is none
    pub found : least_crew class b f ≡ least
    unfolding least_crew
    found =
        by_equality least.n 0 (λ no-n. rw (none_found no-n, no-n, is.both no-n))
        (λ some-n. rw (n_found some-n, d_found some-n))

    -- its D is a number of one byte
    pub d_small : least.d < byte_values
    d_small =
        by_equality least.n 0 (λ no-n. omega (arith, is.both no-n))
        (λ some-n. omega (arith, (facts some-n).reach, (facts some-n).size_to))
