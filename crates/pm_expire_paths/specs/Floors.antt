-- The floors that names list below a number.
use Rattle.std.specs.Prelude.{◌↔◌, ℕ, ◌<◌, nat_lt, List, Contains, Option, None, Some, if◌then◌else◌, option_and_then}
use Rattle.std.specs.List.Sorted.{IsStrictlyIncreasing}
use Rattle.pm_consumer_files.specs.Floors.{IsListedFloor}
use Rattle.pm_snapshot.specs.Names.{floor_in}

-- they are those, rising
pub record AreFloorsBelow (names : List (List ℕ)) (own : ℕ) (floors : List ℕ) : Type 0 where
  pub rising : IsStrictlyIncreasing floors
  pub exact : (n : ℕ) → Contains floors n ↔ (IsListedFloor names n × (n < own))

-- Private: the number, where it is below this one
abbrev pub if_below : ℕ → ℕ → Option ℕ
if_below own n = if nat_lt n own then Some n else None

-- Private: the number of the floor that a name is, where it is below this one
abbrev pub listed_below : ℕ → List ℕ → Option ℕ
listed_below own name = option_and_then (if_below own) (floor_in name)
