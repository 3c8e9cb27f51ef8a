-- The ids of the snapshots that names list, and the latest of them.
use Rattle.std.specs.Prelude.{◌↔◌, ℕ, ◌≤◌, List, [], ◌∷◌, Contains, max, nat_lt, if◌then◌else◌, Option, None, Some}
use Rattle.std.specs.Prelude.{option_and_then}
use Rattle.std.specs.List.Sorted.{IsStrictlyIncreasing}
use Rattle.std.specs.Option.{unwrap_or}
use Rattle.pm_snapshot.specs.Names.{greatest, id_in, snapshot_name}

-- of the snapshots that the names list, this is the id of the latest, the greatest; it is 0 where they list none
pub record IsLatest (names : List (List ℕ)) (latest : ℕ) : Type 0 where
  pub within : latest ≤ greatest
  pub listed : 1 ≤ latest → Contains names (snapshot_name latest)
  pub most : (id : ℕ) → id ≤ greatest → Contains names (snapshot_name id) → id ≤ latest

-- the ids are those of all snapshots that the names list, the origin left out, rising
pub record AreIds (names : List (List ℕ)) (ids : List ℕ) : Type 0 where
  pub rising : IsStrictlyIncreasing ids
  pub exact : (id : ℕ) → Contains ids id ↔ ((1 ≤ id) × (id ≤ greatest) × Contains names (snapshot_name id))

-- the id is the greatest of these, or 0 where there are none
pub record IsGreatestOf (ids : List ℕ) (id : ℕ) : Type 0 where
  pub one : 1 ≤ id → Contains ids id
  pub most : (other : ℕ) → Contains ids other → other ≤ id

-- Private: an id that isn't the origin's
abbrev pub after_origin : ℕ → Option ℕ
after_origin id = if nat_lt 0 id then Some id else None

-- Private: the id in the name of a snapshot, not of the origin
abbrev pub listed_id : List ℕ → Option ℕ
listed_id name = option_and_then after_origin (id_in name)

-- Private: the id in the name of a snapshot, and 0 in another name
abbrev pub id_or_none : List ℕ → ℕ
id_or_none name = unwrap_or (id_in name) 0

-- Private: the greatest of an id and those in the names
abbrev pub latest_from : List (List ℕ) → ℕ → ℕ
latest_from [] latest = latest
latest_from (name ∷ names) latest = latest_from names (max latest (id_or_none name))
