-- What the names in the folders of schemas and of snapshots say.
use Rattle.std.specs.Prelude.{ℕ, ◌≤◌, List, [], ◌∷◌, Contains, codes, nat_lt, Bool}
use Rattle.std.specs.Prelude.{false, if◌then◌else◌, Option, None, Some}
use Rattle.pm_snapshot.specs.Names.{greatest, id_in, number_after, snapshot_name}
use Rattle.pm_model_folder.specs.Paths.{schema_name}

-- the id in the name of a schema
unfoldable pub schema_id_in : List ℕ → Option ℕ
schema_id_in name = number_after (codes "schema-") name

-- of the schemas that the names list, this is the id of the newest, the greatest
pub record IsNewest (names : List (List ℕ)) (id : ℕ) : Type 0 where
  pub within : id ≤ greatest
  pub listed : Contains names (schema_name id)
  pub most : (other : ℕ) → other ≤ greatest → Contains names (schema_name other) → other ≤ id

-- they list no schema
abbrev pub HasNoSchema : List (List ℕ) → Type 0
HasNoSchema names = (id : ℕ) → id ≤ greatest → ¬ Contains names (schema_name id)

-- they list a snapshot, the origin left out
abbrev pub HasSnapshot : List (List ℕ) → Type 0
HasSnapshot names = (id : ℕ) × (1 ≤ id) × (id ≤ greatest) × Contains names (snapshot_name id)

-- ---- how they are found

-- Private: the greater of the ids, if there is one
abbrev pub greater : Option ℕ → Option ℕ → Option ℕ
greater None other = other
greater (Some id) None = Some id
greater (Some id) (Some other) = if nat_lt id other then Some other else Some id

-- Private: the greatest of an id and those of the schemas that the names list
abbrev pub newest_from : List (List ℕ) → Option ℕ → Option ℕ
newest_from [] best = best
newest_from (name ∷ names) best = newest_from names (greater best (schema_id_in name))

-- Private: an id of a snapshot, not of the origin
abbrev pub is_after_origin : Option ℕ → Bool
is_after_origin None = false
is_after_origin (Some id) = nat_lt 0 id

-- Private: a name of a snapshot, not of the origin
abbrev pub names_snapshot : List ℕ → Bool
names_snapshot name = is_after_origin (id_in name)
