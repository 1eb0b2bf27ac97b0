-- The table of least crews, and what is shown of all its entries at once: document 02, C-11.
use Rattle.std.specs.Prelude.{ℕ, ◌+◌, ◌-◌, ◌*◌, ◌≤◌, ◌≡◌, ◌≢◌, true, List, length, get_or}
use Rattle.wire.specs.Outcome.{accepted}
use Rattle.crew.specs.declared.Crew.{Crew}
use Rattle.crew.specs.Acceptance.{accept_of}
use Rattle.least_crews.specs.declared.Least.{Least}
use Rattle.least_crews.specs.Search.{crew_with, last_class, most_b, most_f, in_range}

-- an accepted crew of this class, b and f, whatever its n, D and c
pub record AcceptedWith (class b f : ℕ) (crew : Crew) : Type 0 where
  pub its_class : crew.class ≡ class
  pub its_b : crew.b ≡ b
  pub its_f : crew.f ≡ f
  pub is_accepted : accept_of crew ≡ accepted tt

-- 02: "the entry's crew is accepted, and none with a lower n, or with that n and a lower D; where it is 0, none is"
pub record IsLeast (class b f : ℕ) (least : Least) : Type 0 where
  pub itself : least.n ≢ 0 → accept_of (crew_with class b f least.n least.d) ≡ accepted tt
  pub no_lower_n : (crew : Crew) → AcceptedWith class b f crew → least.n ≤ crew.n
  pub no_lower_d : (crew : Crew) → AcceptedWith class b f crew → crew.n ≡ least.n → least.d ≤ crew.d
  pub none : least.n ≡ 0 → (crew : Crew) → AcceptedWith class b f crew → ⊥
  -- where n is 0, D is 0 too
  pub both : least.n ≡ 0 → least.d ≡ 0

-- so many numbers the table has: two an entry, n and behind it D
abbrev pub numbers : ℕ
numbers = 2 * (last_class * (most_b + 1) * (most_f + 1))

-- where an entry's n stands: entries go class by class, in a class by b, then by f
abbrev pub place_of : ℕ → ℕ → ℕ → ℕ
place_of class b f = 2 * ((most_f + 1) * ((most_b + 1) * (class - 1) + b) + f)

abbrev pub entry_in : List ℕ → ℕ → ℕ → ℕ → Least
entry_in table class b f =
    let place = place_of class b f in
    record { n = get_or table place 0; d = get_or table (place + 1) 0 }

-- 02: "Shown once over all 528 entries"
pub record Shown (table : List ℕ) : Type 0 where
  pub whole : length table ≡ numbers
  pub each : (class b f : ℕ) → in_range class b f ≡ true → IsLeast class b f (entry_in table class b f)
