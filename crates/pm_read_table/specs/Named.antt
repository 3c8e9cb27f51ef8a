-- The paths that a snapshot names, as a list.
use Rattle.std.specs.Prelude.{ℕ, List, [], ◌∷◌, ◌++◌, map, Option, None, Some}
use Rattle.pm_schema.specs.declared.schema.TableSchema.{TableSchema}
use Rattle.pm_snapshot.specs.declared.snapshot.Snapshot.{Snapshot}
use Rattle.pm_manifest.specs.declared.entry.Entry.{Entry}
use Rattle.pm_manifest.specs.declared.entry.ManifestMeta.{ManifestMeta}
use Rattle.pm_model_contents.specs.Lists.{manifest_path}
use Rattle.pm_model_contents.specs.Runs.{data_path}

-- the path of a changelog list, where there is one
abbrev pub log_list_path : Option (List ℕ) → List (List ℕ)
log_list_path None = []
log_list_path (Some name) = manifest_path name ∷ []

-- of manifests, and of the files of entries
abbrev pub meta_paths : List ManifestMeta → List (List ℕ)
meta_paths metas = map (λ (meta : ManifestMeta). manifest_path meta.name) metas

abbrev pub file_paths : TableSchema → List Entry → List (List ℕ)
file_paths s entries = map (λ (e : Entry). data_path s e.group e.file.name) entries

-- what a snapshot's lists and manifests have: the manifests of its base list and of its delta list, the entries of its
-- live files, the manifests of its changelog, and the entries of these
pub record Parts : Type 0 where
  pub manifests : List ManifestMeta
  pub live : List Entry
  pub log : List ManifestMeta
  pub changes : List Entry

abbrev pub parts_of : List ManifestMeta → List Entry → List ManifestMeta → List Entry → Parts
parts_of manifests live log changes = record { manifests = manifests; live = live; log = log; changes = changes }

-- the paths of its lists, of the manifests, of the live files and of the changelog's files
abbrev pub named_paths : TableSchema → Snapshot → Parts → List (List ℕ)
named_paths s x c =
    manifest_path x.base_list ∷ manifest_path x.delta_list ∷ (log_list_path x.changelog_list
    ++ (meta_paths c.manifests ++ (file_paths s c.live ++ (meta_paths c.log ++ file_paths s c.changes))))
