-- The floors that names list, and whether one exceeds a number.
use Rattle.std.specs.Prelude.{ℕ, ◌<◌, ◌≤◌, List, [], ◌∷◌, Contains, nat_lt, if◌then◌else◌, Option, None, Some}
use Rattle.pm_snapshot.specs.Names.{floor_in, floor_name, greatest}

-- the names list the floor of this number
abbrev pub IsListedFloor : List (List ℕ) → ℕ → Type 0
IsListedFloor names n = (n ≤ greatest) × Contains names (floor_name n)

-- it is the greatest of those that they list
pub record IsGreatestFloor (names : List (List ℕ)) (n : ℕ) : Type 0 where
  pub listed : IsListedFloor names n
  pub most : (other : ℕ) → IsListedFloor names other → other ≤ n

-- the greatest floor that the names list exceeds the number; or none does
abbrev pub Exceeds : List (List ℕ) → ℕ → Option ℕ → Type 0
Exceeds names next (Some n) = IsGreatestFloor names n × (next < n)
Exceeds names next None = (n : ℕ) → IsListedFloor names n → n ≤ next

-- Private: the floor, where it exceeds the number
abbrev pub above : ℕ → ℕ → Option ℕ
above next floor = if nat_lt next floor then Some floor else None

-- Private: the greater of a number and one that may be there
abbrev pub with_number : ℕ → Option ℕ → ℕ
with_number floor None = floor
with_number floor (Some n) = if nat_lt floor n then n else floor

-- Private: the greater of a number and that of the floor which a name is
abbrev pub with_floor : ℕ → List ℕ → ℕ
with_floor floor name = with_number floor (floor_in name)

-- Private: the greatest of a number and those of the floors in the names
abbrev pub greatest_from : List (List ℕ) → ℕ → ℕ
greatest_from [] floor = floor
greatest_from (name ∷ names) floor = greatest_from names (with_floor floor name)
