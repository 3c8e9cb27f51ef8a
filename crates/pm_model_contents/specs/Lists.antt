-- The manifest lists and the manifests that a snapshot names, and the entries that these have.
use Rattle.std.specs.Prelude.{◌≡◌, ℕ, List, [], ◌∷◌, ◌++◌, codes, true, Option, Some, None, Ok}
use Rattle.std.specs.FinMap as map
use Rattle.std.specs.List.{AllByRecursion}
use Rattle.pm_store.specs.Files.{Files}
use Rattle.pm_record.specs.File.{ReadsFile}
use Rattle.pm_schema.specs.declared.schema.TableSchema.{TableSchema}
use Rattle.pm_snapshot.specs.declared.snapshot.Snapshot.{Snapshot}
use Rattle.pm_manifest.specs.Entries.{entry_in, has_entry_fields}
use Rattle.pm_manifest.specs.Listed.{has_meta_fields, meta_in}
use Rattle.pm_manifest.specs.Live.{AreInOrder, Live}
use Rattle.pm_manifest.specs.Shape.{shape_of}
use Rattle.pm_manifest.specs.declared.entry.Entry.{Entry}
use Rattle.pm_manifest.specs.declared.entry.ManifestMeta.{ManifestMeta}

-- the path of a manifest, or of a list of them
abbrev pub manifest_path : List ℕ → List ℕ
manifest_path name = codes "manifest/" ++ name

-- the file of this name is read as a list of these manifests
pub record IsList (f : Files) (name : List ℕ) (metas : List ManifestMeta) : Type 0 where
  pub bytes : List ℕ
  pub there : map.get f (manifest_path name) ≡ Some bytes
  pub read : ReadsFile has_meta_fields meta_in (manifest_path name) bytes (Ok metas)

-- the file of this name is read as a manifest of these entries, in a table of the schema
pub record IsManifest (f : Files) (s : TableSchema) (name : List ℕ) (entries : List Entry) : Type 0 where
  pub bytes : List ℕ
  pub there : map.get f (manifest_path name) ≡ Some bytes
  pub read : ReadsFile has_entry_fields (entry_in (shape_of s)) (manifest_path name) bytes (Ok entries)

-- manifests have these entries, one manifest's after those of the one before
abbrev pub HaveEntries : Files → TableSchema → List ManifestMeta → List Entry → Type 0
HaveEntries f s [] entries = entries ≡ []
HaveEntries f s (meta ∷ metas) entries = (own : List Entry) × (later : List Entry) × (entries ≡ own ++ later)
    × IsManifest f s meta.name own × HaveEntries f s metas later

-- what is live before any entry: no file
abbrev pub none_live : Live
none_live id = None

-- The base list of a snapshot and its delta list have these manifests. Their entries are these, those of the base list
-- first, and each can follow those before it.
pub record HasEntries (f : Files) (s : TableSchema) (x : Snapshot) (base delta : List ManifestMeta)
    (entries : List Entry) : Type 0 where
  pub base_list : IsList f x.base_list base
  pub delta_list : IsList f x.delta_list delta
  pub have : HaveEntries f s (base ++ delta) entries
  pub order : AreInOrder none_live entries

-- the entry adds a file at level 0
pub record IsChangelogEntry (e : Entry) : Type 0 where
  pub add : e.add ≡ true
  pub level : e.file.level ≡ 0

-- The changelog list of a snapshot has these manifests, and these the entries, each of which adds a file at level 0. A
-- snapshot without one has no changelog.
abbrev pub HasChangelog : Files → TableSchema → Option (List ℕ) → List ManifestMeta → List Entry → Type 0
HasChangelog f s None metas entries = (metas ≡ []) × (entries ≡ [])
HasChangelog f s (Some name) metas entries =
    IsList f name metas × HaveEntries f s metas entries × AllByRecursion IsChangelogEntry entries
