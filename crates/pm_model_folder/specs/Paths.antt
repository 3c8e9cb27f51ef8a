-- The paths of a table's files, each below the table's folder.
use Rattle.std.specs.Prelude.{ℕ, List, ◌++◌, codes, decimal, Option, None, Some}
use Rattle.pm_snapshot.specs.Names as names
use Rattle.pm_schema.specs.Stated as schemas
use Rattle.pm_schema.specs.declared.schema.TableSchema.{TableSchema}

-- the folders of schemas, of snapshots, of floors and of consumers
abbrev pub schema_folder : List ℕ
schema_folder = codes "schema"

abbrev pub snapshot_folder : List ℕ
snapshot_folder = codes "snapshot"

abbrev pub floor_folder : List ℕ
floor_folder = codes "floor"

abbrev pub consumer_folder : List ℕ
consumer_folder = codes "consumer"

-- the name of the schema with an id
abbrev pub schema_name : ℕ → List ℕ
schema_name id = codes "schema-" ++ decimal id

-- the schema with an id
abbrev pub schema_path : ℕ → List ℕ
schema_path id = schemas.schema_path id

-- a file in the folder of snapshots
abbrev pub snapshot_file : List ℕ → List ℕ
snapshot_file name = codes "snapshot/" ++ name

-- the snapshot with an id, from 1
abbrev pub snapshot_path : ℕ → List ℕ
snapshot_path id = snapshot_file (names.snapshot_name id)

-- the name of a table's origin: the one that its schema names, or that of snapshot 0
abbrev pub named_origin : Option (List ℕ) → List ℕ
named_origin None = names.snapshot_name 0
named_origin (Some name) = name

-- the origin of the table with a schema
abbrev pub origin_path : TableSchema → List ℕ
origin_path s = snapshot_file (named_origin s.origin)

-- the consumer of a name
abbrev pub consumer_file : List ℕ → List ℕ
consumer_file name = codes "consumer-" ++ name

abbrev pub consumer_path : List ℕ → List ℕ
consumer_path name = codes "consumer/consumer-" ++ name

-- the tag of a name, and a changelog that outlived the snapshot with its id
abbrev pub tag_path : List ℕ → List ℕ
tag_path name = codes "tag/tag-" ++ name

abbrev pub changelog_path : ℕ → List ℕ
changelog_path id = codes "changelog/changelog-" ++ decimal id

-- the floor with a number: an expiry of the snapshots below it was announced
abbrev pub floor_path : ℕ → List ℕ
floor_path n = codes "floor/" ++ names.floor_name n
