-- The changelog of a snapshot, and how far its reading has come.
use Rattle.std.specs.Prelude.{◌≡◌, ℕ, List}
use Rattle.pm_schema.specs.declared.schema.TableSchema.{TableSchema}
use Rattle.pm_snapshot.specs.declared.snapshot.Snapshot.{Snapshot}
use Rattle.pm_manifest.specs.declared.entry.Entry.{Entry}
use Rattle.pm_manifest.specs.declared.entry.ManifestMeta.{ManifestMeta}
use Rattle.pm_read_log.specs.declared.log.Log.{Log}

-- what is asked of a reader of a changelog: a table, by its schema, and the id of one of its snapshots
pub record LogAskedView : Type 0 where
  pub schema : TableSchema
  pub id : ℕ

abbrev pub log_asked_of : TableSchema → ℕ → LogAskedView
log_asked_of s id = record { schema = s; id = id }

-- what was asked, the snapshot, the manifests of its changelog that were read, the one to be read next, those after it,
-- and the entries of the first
pub record LogReadingView : Type 0 where
  pub asked : LogAskedView
  pub snapshot : Snapshot
  pub done : List ManifestMeta
  pub next : ManifestMeta
  pub rest : List ManifestMeta
  pub changes : List Entry

abbrev pub log_reading_of : LogAskedView → Snapshot → List ManifestMeta → ManifestMeta → List ManifestMeta → List Entry
    → LogReadingView
log_reading_of a x done next rest changes =
    record { asked = a; snapshot = x; done = done; next = next; rest = rest; changes = changes }

-- the changelog of a table's snapshot, with these manifests and entries
pub record IsLogOf (s : TableSchema) (x : Snapshot) (metas : List ManifestMeta) (changes : List Entry) (l : Log)
    : Type 0 where
  pub schema : l.schema ≡ s
  pub snapshot : l.snapshot ≡ x
  pub manifests : l.manifests.items ≡ metas
  pub entries : l.changes.items ≡ changes
