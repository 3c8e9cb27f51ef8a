-- What the files of a table mean, each by its path.
use Rattle.std.specs.Prelude.{◌≡◌, ℕ, zero, suc, ◌<◌, List, Some, IsSome, IsSomeAnd, Ok}
use Rattle.std.specs.FinMap as map
use Rattle.pm_store.specs.Files.{Files, name_in}
use Rattle.pm_schema.specs.Reading.{schema_of}
use Rattle.pm_schema.specs.declared.schema.TableSchema.{TableSchema}
use Rattle.pm_snapshot.specs.Consumer.{consumer_in}
use Rattle.pm_snapshot.specs.Snapshot.{snapshot_in}
use Rattle.pm_snapshot.specs.declared.consumer.Consumer.{Consumer}
use Rattle.pm_snapshot.specs.declared.snapshot.Snapshot.{Snapshot}
use Rattle.pm_model_folder.specs.Paths.{schema_path, snapshot_file, snapshot_path, consumer_path}

-- the file of the schema with the id declares this schema
abbrev pub SchemaAt : Files → ℕ → TableSchema → Type 0
SchemaAt f id s =
    (bytes : List ℕ) × (map.get f (schema_path id) ≡ Some bytes) × (schema_of (schema_path id) bytes ≡ Ok s)

-- the file of the snapshot with the id, from 1, is this snapshot's
abbrev pub SnapshotAt : Files → ℕ → Snapshot → Type 0
SnapshotAt f id s = (bytes : List ℕ) × (map.get f (snapshot_path id) ≡ Some bytes) × (snapshot_in id bytes ≡ Ok s)

-- the file of the consumer of a name is this consumer's
abbrev pub ConsumerAt : Files → List ℕ → Consumer → Type 0
ConsumerAt f name c = (bytes : List ℕ) × (map.get f (consumer_path name) ≡ Some bytes) × (consumer_in bytes ≡ Ok c)

-- A snapshot is there. Snapshot 0 is the origin, the file that the schema names: without one there is no snapshot 0.
abbrev pub HasSnapshotAt : Files → TableSchema → ℕ → Type 0
HasSnapshotAt f s zero = IsSomeAnd s.origin (λ origin. IsSome (map.get f (snapshot_file origin)))
HasSnapshotAt f s (suc id) = IsSome (map.get f (snapshot_path (suc id)))

-- the snapshot with the id is the least that is there, the origin counted as 0
pub record IsLeast (f : Files) (s : TableSchema) (id : ℕ) : Type 0 where
  pub there : HasSnapshotAt f s id
  pub none : (other : ℕ) → other < id → HasSnapshotAt f s other → ⊥

-- a file leads to the name in the folder, so that a listing has it
abbrev pub LeadsTo : Files → List ℕ → List ℕ → Type 0
LeadsTo f folder name = (path : List ℕ) × IsSome (map.get f path) × (name_in folder path ≡ Some name)
