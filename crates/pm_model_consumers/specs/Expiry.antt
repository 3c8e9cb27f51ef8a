-- What an expirer knows from its announcement on.
use Rattle.std.specs.Prelude.{◌≡◌, ◌⊎◌, ℕ, ◌≤◌, List, Contains, Some}
use Rattle.pm_model_consumers.specs.Claims.{Counts, HasFloorFrom, Moment, Said}

-- a floor announced its end, which is at most the newest snapshot
pub record HasAnnounced (m : Moment) (end : ℕ) : Type 0 where
  pub within : end ≤ m.newest
  pub floor : HasFloorFrom m end

-- And it has the files of these names still to read, since it listed them after the announcement: its end is at most
-- the number of each other consumer that counts.
pub record HasLeft (m : Moment) (end : ℕ) (names : List (List ℕ)) : Type 0 where
  pub announced : HasAnnounced m end
  pub counted : (name : List ℕ) (said : Said) → Counts (m.claim name) → m.file name ≡ Some said
      → (end ≤ said.next) ⊎ Contains names name
