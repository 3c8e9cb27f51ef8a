-- The files of a commit, in the order in which they are created.
use Rattle.std.specs.Prelude.{◌≡◌, ◌≢◌, ℕ, ◌+◌, ℤ, nat_le, List, [], ◌∷◌, ◌++◌, length, map, filter, not, Bool, true, false, Option, Some, None, Ok}
use Rattle.std.specs.BTreeMap.{BTreeMap}
use Rattle.std.specs.List.{AllByRecursion}
use Rattle.pm_values.specs.Names.{Naming, counted, name_of}
use Rattle.pm_values.specs.declared.group.Group.{Group}
use Rattle.pm_schema.specs.declared.schema.TableSchema.{TableSchema}
use Rattle.pm_snapshot.specs.Names as based
use Rattle.pm_snapshot.specs.Snapshot.{IsConsistent, snapshot_in, snapshot_text}
use Rattle.pm_record.specs.File.{IsFileOf, ReadsFile}
use Rattle.pm_manifest.specs.Entries.{IsEntry, IsWithin, entry_data, entry_in, has_entry_fields}
use Rattle.pm_manifest.specs.Listed.{has_meta_fields, meta_data, meta_in}
use Rattle.pm_manifest.specs.Shape.{shape_of}
use Rattle.pm_manifest.specs.«Type».{entry_type, meta_type}
use Rattle.pm_manifest.specs.declared.entry.Entry.{Entry}
use Rattle.pm_manifest.specs.declared.entry.ManifestMeta.{ManifestMeta}
use Rattle.pm_model_contents.specs.Lists.{manifest_path}
use Rattle.pm_model_contents.specs.Runs.{data_path}
use Rattle.pm_put.specs.declared.putting.CommitFile.{CommitFile}
use Rattle.pm_write.specs.Batch.{Groups}
use Rattle.pm_write.specs.Files.{AreNewFiles, after_names, next_of}
use Rattle.pm_write.specs.declared.files.NewFile.{NewFile}
use Rattle.pm_made.specs.Delta.{Delta, added_entry, adding, entries_of, no_delta}
use Rattle.pm_made.specs.Refusals.{next_number}
use Rattle.pm_made.specs.Snapshot.{new_snapshot}
use Rattle.pm_made.specs.declared.intent.Intent.{Intent}
use Rattle.pm_made.specs.declared.intent.Intent.TheVariants as intents
use Rattle.pm_made.specs.declared.intent.Plan.{Plan}
use Rattle.pm_made.specs.declared.newest.Author.{Author}
use Rattle.pm_made.specs.declared.newest.Made.{Made}
use Rattle.pm_made.specs.declared.newest.Newest.{Newest}
use Rattle.pm_made.specs.declared.snapshot.ListNames.{ListNames}

-- ---- files of rows

-- the file of rows, at its path
abbrev pub data_file : TableSchema → NewFile → CommitFile
data_file s x = record { path = data_path s x.group x.meta.name; bytes = x.bytes }

-- those that are data files, and those that are changelog files
abbrev pub data_of : List NewFile → List NewFile
data_of xs = filter (λ (x : NewFile). not x.changelog) xs

abbrev pub changes_of : List NewFile → List NewFile
changes_of xs = filter (λ (x : NewFile). x.changelog) xs

-- the new files of a batch, each group's rows counted from the number after those of its live files
pub record AreNumbered (s : TableSchema) (live : List Entry) (names : Naming) (batch : Groups)
    (new_files : List NewFile) : Type 0 where
  pub next : BTreeMap Group ℕ
  pub counts : (g : Group) → next_of next g ≡ next_number live g
  pub are_new : AreNewFiles s next names batch new_files

-- what new files change
abbrev pub delta_of_files : TableSchema → List NewFile → Delta
delta_of_files s xs = record {
  removed = [];
  added = map (added_entry s) (data_of xs);
  changes = map (added_entry s) (changes_of xs);
}

-- what a compaction changes
abbrev pub delta_of_plan : Plan → Delta
delta_of_plan plan = record {
  removed = plan.removed.items;
  added = map adding plan.added.items;
  changes = map adding plan.changes.items;
}

-- What a try changes, the files of rows that it creates for that, and the names that are left. An append makes its
-- files at each try; a compaction creates none, since they were created before any try.
pub data HasDelta (s : TableSchema) (newest : Newest) (names : Naming) : Intent → Delta → List CommitFile → Naming
    → Type 0 where
  appends : (batch : Groups) (xs : List NewFile) → AreNumbered s newest.live.items names batch xs
      → HasDelta s newest names (intents.Append batch) (delta_of_files s xs) (map (data_file s) xs)
      (after_names (length xs) names)
  compacts : (plan : Plan) → HasDelta s newest names (intents.Compact plan) (delta_of_plan plan) [] names
  fences : (number : ℤ) → HasDelta s newest names (intents.Fence number) no_delta [] names

-- ---- manifests and lists

-- a manifest of these entries with the next name: what lists have of it, and its file, which is read as they are where
-- a manifest can have them
pub record IsNewManifest (s : TableSchema) (names : Naming) (entries : List Entry) (m : ManifestMeta)
    (file : CommitFile) : Type 0 where
  pub named : m.name ≡ name_of (based.prefix_of based.manifest) (based.suffix_of based.manifest) names
  pub size : m.size ≡ length file.bytes
  pub added : m.added ≡ length (filter (λ (e : Entry). e.add) entries)
  pub deleted : m.deleted ≡ length (filter (λ (e : Entry). not e.add) entries)
  pub schema : m.schema_id ≡ s.id
  pub path : file.path ≡ manifest_path m.name
  pub bytes : IsFileOf entry_type 1024 (map (entry_data (shape_of s)) entries) names.session file.bytes
  pub within : AllByRecursion (IsWithin (shape_of s)) entries
  pub again : AllByRecursion (IsEntry (shape_of s)) entries → (path : List ℕ)
      → ReadsFile has_entry_fields (entry_in (shape_of s)) path file.bytes (Ok entries)

-- a list of these manifests with the next name, and its file, which is read as they are
pub record IsNewList (s : TableSchema) (names : Naming) (metas : List ManifestMeta) (name : List ℕ) (file : CommitFile)
    : Type 0 where
  pub named : name ≡ name_of (based.prefix_of based.manifest_list) (based.suffix_of based.manifest_list) names
  pub path : file.path ≡ manifest_path name
  pub bytes : IsFileOf meta_type 1024 (map (meta_data (shape_of s).partition) metas) names.session file.bytes
  pub again : (path : List ℕ) → ReadsFile has_meta_fields meta_in path file.bytes (Ok metas)

-- The manifest of these entries with the next name, its file, and the names that are left; or none where there is no
-- entry.
pub data HasManifest (s : TableSchema) (names : Naming) (entries : List Entry) : List ManifestMeta → List CommitFile
    → Naming → Type 0 where
  no_manifest : entries ≡ [] → HasManifest s names entries [] [] names
  one_manifest : (m : ManifestMeta) (file : CommitFile) → entries ≢ [] → IsNewManifest s names entries m file
      → HasManifest s names entries (m ∷ []) (file ∷ []) (counted names)

-- the newest snapshot has so many manifests that they are merged
abbrev pub merges : TableSchema → List ManifestMeta → Bool
merges s metas = nat_le s.options.merge_min (length metas)

-- Which manifests the base list names, the files that this takes, and the names that are left: those of the newest
-- snapshot; or where they are merged one of all live entries, or none where no file is live.
pub data HasBase (s : TableSchema) (newest : Newest) (names : Naming) : List ManifestMeta → List CommitFile → Naming
    → Type 0 where
  kept : merges s newest.manifests.items ≡ false → HasBase s newest names newest.manifests.items [] names
  merged : (metas : List ManifestMeta) (files : List CommitFile) (left : Naming)
      → merges s newest.manifests.items ≡ true → HasManifest s names newest.live.items metas files left
      → HasBase s newest names metas files left

-- The changelog list with the next name, where there are manifests for it, its file, and the names that are left.
pub data HasChangesList (s : TableSchema) (names : Naming) (metas : List ManifestMeta) : Option (List ℕ)
    → List CommitFile → Naming → Type 0 where
  no_list : metas ≡ [] → HasChangesList s names metas None [] names
  one_list : (name : List ℕ) (file : CommitFile) → metas ≢ [] → IsNewList s names metas name file
      → HasChangesList s names metas (Some name) (file ∷ []) (counted names)

-- The manifest of a delta's entries and that of changelog files, where there are any; then the list of the first, the
-- changelog list and the base list of these manifests, with the next names in this order: what the lists are called,
-- and the files.
pub record AreLists (s : TableSchema) (names : Naming) (entries changelog : List Entry) (base : List ManifestMeta)
    (lists : ListNames) (files : List CommitFile) : Type 0 where
  pub delta : List ManifestMeta
  pub delta_files : List CommitFile
  pub after_delta : Naming
  pub has_delta : HasManifest s names entries delta delta_files after_delta
  pub changes : List ManifestMeta
  pub changes_files : List CommitFile
  pub after_changes : Naming
  pub has_changes : HasManifest s after_delta changelog changes changes_files after_changes
  pub delta_list : CommitFile
  pub is_delta_list : IsNewList s after_changes delta lists.delta delta_list
  pub changes_list : List CommitFile
  pub after_list : Naming
  pub has_changes_list : HasChangesList s (counted after_changes) changes lists.changes changes_list after_list
  pub base_list : CommitFile
  pub is_base_list : IsNewList s after_list base lists.base base_list
  pub are : files ≡ delta_files ++ (changes_files ++ (delta_list ∷ (changes_list ++ base_list ∷ [])))

-- all manifests and lists of a commit, of a delta's entries and of changelog files
pub record AreManifests (s : TableSchema) (newest : Newest) (names : Naming) (entries changelog : List Entry)
    (lists : ListNames) (files : List CommitFile) : Type 0 where
  pub base : List ManifestMeta
  pub base_files : List CommitFile
  pub left : Naming
  pub has_base : HasBase s newest names base base_files left
  pub list_files : List CommitFile
  pub are_lists : AreLists s left entries changelog base lists list_files
  pub are : files ≡ base_files ++ list_files

-- ---- all of it

-- What is made of an intent: its files of rows, then manifests and lists, and the snapshot that names the lists.
pub record IsMadeOf (s : TableSchema) (newest : Newest) (author : Author) (intent : Intent) (names : Naming)
    (made : Made) : Type 0 where
  pub delta : Delta
  pub row_files : List CommitFile
  pub left : Naming
  pub has_delta : HasDelta s newest names intent delta row_files left
  pub lists : ListNames
  pub list_files : List CommitFile
  pub are_manifests : AreManifests s newest left (entries_of delta) delta.changes lists list_files
  pub files : made.files.items ≡ row_files ++ list_files
  pub id : made.id ≡ newest.id + 1
  pub text : made.text ≡ snapshot_text (new_snapshot s newest author intent delta lists)
  pub again : IsConsistent (new_snapshot s newest author intent delta lists)
      → snapshot_in made.id made.text ≡ Ok (new_snapshot s newest author intent delta lists)
