-- The paths that a snapshot names.
use Rattle.std.specs.Prelude.{◌≡◌, ◌⊎◌, ◌++◌, ℕ, List, Contains, Some}
use Rattle.pm_store.specs.Files.{Files}
use Rattle.pm_schema.specs.declared.schema.TableSchema.{TableSchema}
use Rattle.pm_snapshot.specs.declared.snapshot.Snapshot.{Snapshot}
use Rattle.pm_manifest.specs.Live.{live_after}
use Rattle.pm_manifest.specs.declared.entry.Entry.{Entry}
use Rattle.pm_manifest.specs.declared.entry.ManifestMeta.{ManifestMeta}
use Rattle.pm_model_contents.specs.Lists.{HasChangelog, HasEntries, manifest_path, none_live}
use Rattle.pm_model_contents.specs.Runs.{IsLive, data_path}

-- What a snapshot's files are: the manifests of its lists, and the entries of these.
pub record Contents : Type 0 where
  pub base : List ManifestMeta
  pub delta : List ManifestMeta
  pub entries : List Entry
  pub changelog : List ManifestMeta
  pub changes : List Entry

-- the files that the snapshot names have these contents
pub record HasContents (f : Files) (s : TableSchema) (x : Snapshot) (c : Contents) : Type 0 where
  pub table : HasEntries f s x c.base c.delta c.entries
  pub changelog : HasChangelog f s x.changelog_list c.changelog c.changes

-- a manifest is in one of the lists
abbrev pub IsListed : Contents → ManifestMeta → Type 0
IsListed c meta = Contains (c.base ++ c.delta) meta ⊎ Contains c.changelog meta

-- The path is one that a snapshot with these contents names: of its lists, of the manifests in them, of its live data
-- files, and of its changelog files.
pub data IsNamed (s : TableSchema) (x : Snapshot) (c : Contents) : List ℕ → Type 0 where
  base_list : IsNamed s x c (manifest_path x.base_list)
  delta_list : IsNamed s x c (manifest_path x.delta_list)
  changelog_list : (name : List ℕ) → x.changelog_list ≡ Some name → IsNamed s x c (manifest_path name)
  manifest : (meta : ManifestMeta) → IsListed c meta → IsNamed s x c (manifest_path meta.name)
  data_file : (e : Entry) → IsLive (live_after none_live c.entries) e → IsNamed s x c (data_path s e.group e.file.name)
  changes_file : (e : Entry) → Contains c.changes e → IsNamed s x c (data_path s e.group e.file.name)
