-- What an expirer removes, in its order.
use Rattle.std.specs.Prelude.{◌≡◌, ℕ, ◌+◌, ◌-◌, ◌<◌, ◌≤◌, List, [], ◌∷◌, ◌++◌, map, Option, None, Some}
use Rattle.std.specs.List.{AllByRecursion, range_with_len}
use Rattle.pm_store.specs.Files.{Files}
use Rattle.pm_schema.specs.declared.schema.TableSchema.{TableSchema}
use Rattle.pm_model_folder.specs.Changes.{HavePlainNames}
use Rattle.pm_model_folder.specs.Ledger.{Past}
use Rattle.pm_model_folder.specs.Paths.{floor_path, snapshot_file, snapshot_path}
use Rattle.pm_model_history.specs.History.{IsTableOf}
use Rattle.pm_model_expiry.specs.Expiry.{HasAnnounced, HasLeft, HaveGone, HaveGoneBetween, IsDropped}

-- An expiry whose consumers were read: the table's schema; the first snapshot after the origin that was listed, and the
-- end, the first that is kept; and the floor that announced the end, which may have been higher then.
pub record Expiry : Type 0 where
  pub schema : TableSchema
  pub first : ℕ
  pub end : ℕ
  pub own : ℕ

-- the path of the origin, where the schema names one
abbrev pub origin_paths : Option (List ℕ) → List (List ℕ)
origin_paths None = []
origin_paths (Some name) = snapshot_file name ∷ []

-- the paths of so many snapshots, from an id on
abbrev pub snapshot_paths : ℕ → ℕ → List (List ℕ)
snapshot_paths id count = map snapshot_path (range_with_len id count)

-- the paths of floors
abbrev pub floor_paths : List ℕ → List (List ℕ)
floor_paths floors = map floor_path floors

-- what it removes: the origin and the snapshots below its end, rising; then files that these named and the one at the
-- end doesn't; then floors
abbrev pub removals : Expiry → List (List ℕ) → List ℕ → List (List ℕ)
removals x dropped floors =
    origin_paths x.schema.origin ++ (snapshot_paths x.first (x.end - x.first) ++ (dropped ++ floor_paths floors))

-- ---- what is left of it

-- The snapshots that are left: none below an id is there, and from that on up to the end all are left. Or the origin is
-- left, too.
pub data SnapshotsLeft (f : Files) (p : Past) (x : Expiry) (left : List (List ℕ)) : Type 0 where
  with_origin : (name : List ℕ) (count : ℕ) → x.schema.origin ≡ Some name → 1 ≤ x.first → x.first + count ≡ x.end
      → HaveGoneBetween f p x.schema x.first → left ≡ snapshot_file name ∷ snapshot_paths x.first count
      → SnapshotsLeft f p x left
  from_id : (id count : ℕ) → 1 ≤ id → id + count ≡ x.end → HaveGone f x.schema id → left ≡ snapshot_paths id count
      → SnapshotsLeft f p x left

-- What is left: those snapshots, and behind them some files that go with them and some floors below its own. Which of
-- these files and floors it says of each alone, and not that they are all.
pub record AreLeft (f : Files) (p : Past) (x : Expiry) (left : List (List ℕ)) : Type 0 where
  pub snapshots : List (List ℕ)
  pub dropped : List (List ℕ)
  pub floors : List ℕ
  pub is : left ≡ snapshots ++ (dropped ++ floor_paths floors)
  pub first : SnapshotsLeft f p x snapshots
  pub then_dropped : AllByRecursion (IsDropped p x.schema x.end) dropped
  pub then_floors : AllByRecursion (λ n. n < x.own) floors

-- What an expirer knows while it removes: its table is there, whose names lead to no file beside those of snapshots;
-- its end and its own floor are announced; it has read all consumers; and these paths are left to be removed.
pub record KnowsRemovals (x : Expiry) (paths : List (List ℕ)) (f : Files) (p : Past) : Type 0 where
  pub table : IsTableOf x.schema p.history
  pub plain : HavePlainNames x.schema
  pub announced : HasAnnounced f p x.own
  pub read : HasLeft f p x.end []
  pub within : x.first < x.end
  pub left : AreLeft f p x paths
