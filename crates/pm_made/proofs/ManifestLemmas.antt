-- Manifests and lists that are made, piece by piece.
use Rattle.std.proofs.Common.{◌≡◌, ◌≢◌, ℕ, ◌+◌, ◌-◌, Bool, true, false, cond, not, List, [], ◌∷◌, ◌++◌, length, map, filter, Option, Result, Ok, Err, IfOk, refl, sym, ap, subst, ◌∙◌, append_assoc, append-nil, arith}
use Rattle.std.specs.List.{AllByRecursion}
use Rattle.pm_values.specs.Names.{Naming, counted, name_of}
use Rattle.pm_schema.specs.declared.schema.TableSchema.{TableSchema}
use Rattle.pm_snapshot.specs.Names as based
use Rattle.pm_record.specs.File.{IsFileOf, ReadsFile}
use Rattle.pm_manifest.specs.Entries.{IsEntry, IsWithin, entry_data, entry_in, has_entry_fields}
use Rattle.pm_manifest.specs.Listed.{has_meta_fields, meta_data, meta_in}
use Rattle.pm_manifest.specs.Shape.{shape_of}
use Rattle.pm_manifest.specs.«Type».{entry_type, meta_type}
use Rattle.pm_manifest.specs.declared.entry.Entry.{Entry}
use Rattle.pm_manifest.specs.declared.entry.ManifestMeta.{ManifestMeta}
use Rattle.pm_model_contents.specs.Lists.{manifest_path}
use Rattle.pm_made.specs.Files.{AreLists, AreManifests, HasBase, HasChangesList, HasManifest, IsNewList, IsNewManifest, kept, merged, merges, no_manifest, one_manifest}
use Rattle.pm_put.specs.declared.putting.CommitFile.{CommitFile}
use Rattle.pm_made.specs.declared.newest.Newest.{Newest}
use Rattle.pm_made.specs.declared.snapshot.ListNames.{ListNames}

-- the bytes of a file are those that were written
pub new-list : (s : TableSchema) (names : Naming) (metas : List ManifestMeta) (name marker written : List ℕ) (file : CommitFile)
    → name ≡ name_of (based.prefix_of based.manifest_list) (based.suffix_of based.manifest_list) names → file.path ≡ manifest_path name
    → file.bytes ≡ written → marker ≡ names.session → IsFileOf meta_type 1024 (map (meta_data (shape_of s).partition) metas) marker written
    → ((path : List ℕ) → ReadsFile has_meta_fields meta_in path written (Ok metas)) → IsNewList s names metas name file
new-list s names metas name marker written file named path same own is again = record {
  named = named;
  path = path;
  bytes = subst (λ (bytes : List ℕ). IsFileOf meta_type 1024 (map (meta_data (shape_of s).partition) metas) names.session bytes) (sym same)
      (subst (λ (m : List ℕ). IsFileOf meta_type 1024 (map (meta_data (shape_of s).partition) metas) m written) own is);
  again = λ at. subst (λ (bytes : List ℕ). ReadsFile has_meta_fields meta_in at bytes (Ok metas)) (sym same) (again at);
}

-- entries add a file or delete one
both-kinds : (es : List Entry) → length (filter (λ (e : Entry). e.add) es) + length (filter (λ (e : Entry). not e.add) es) ≡ length es
both-kinds [] = refl
both-kinds (e ∷ es) = at (both-kinds es) e.add
  where
    at : length (filter (λ (e : Entry). e.add) es) + length (filter (λ (e : Entry). not e.add) es) ≡ length es → (t : Bool)
        → length (cond t (e ∷ filter (λ (e : Entry). e.add) es) (filter (λ (e : Entry). e.add) es))
        + length (cond (not t) (e ∷ filter (λ (e : Entry). not e.add) es) (filter (λ (e : Entry). not e.add) es)) ≡ length (e ∷ es)
    at same true = omega (arith, same)
    at same false = omega (arith, same)

pub new-manifest : (s : TableSchema) (names : Naming) (entries : List Entry) (m : ManifestMeta) (marker written : List ℕ) (file : CommitFile)
    → m.name ≡ name_of (based.prefix_of based.manifest) (based.suffix_of based.manifest) names → file.path ≡ manifest_path m.name
    → file.bytes ≡ written → m.size ≡ length written → m.added ≡ length (filter (λ (e : Entry). e.add) entries)
    → m.deleted ≡ length entries - m.added → m.schema_id ≡ s.id → marker ≡ names.session
    → IsFileOf entry_type 1024 (map (entry_data (shape_of s)) entries) marker written → AllByRecursion (IsWithin (shape_of s)) entries
    → (AllByRecursion (IsEntry (shape_of s)) entries → (path : List ℕ) → ReadsFile has_entry_fields (entry_in (shape_of s)) path written (Ok entries))
    → IsNewManifest s names entries m file
new-manifest s names entries m marker written file named path same size added deleted schema own is within again = record {
  named = named;
  size = size ∙ ap (λ (bytes : List ℕ). length bytes) (sym same);
  added = added;
  deleted = (let both = both-kinds entries in omega (arith, both, added, deleted));
  schema = schema;
  path = path;
  bytes = subst (λ (bytes : List ℕ). IsFileOf entry_type 1024 (map (entry_data (shape_of s)) entries) names.session bytes) (sym same)
      (subst (λ (k : List ℕ). IsFileOf entry_type 1024 (map (entry_data (shape_of s)) entries) k written) own is);
  within = within;
  again = λ can at. subst (λ (bytes : List ℕ). ReadsFile has_entry_fields (entry_in (shape_of s)) at bytes (Ok entries)) (sym same) (again can at);
}

-- ---- a manifest, or none

pub one-manifest : (s : TableSchema) (names left : Naming) (entries : List Entry) (metas : List ManifestMeta) (m : ManifestMeta) (file : CommitFile)
    → entries ≢ [] → IsNewManifest s names entries m file → metas ≡ m ∷ [] → left ≡ counted names
    → HasManifest s names entries metas (file ∷ []) left
one-manifest s names left entries metas m file any made is next =
    subst (λ (left : Naming). HasManifest s names entries metas (file ∷ []) left) (sym next)
    (subst (λ (metas : List ManifestMeta). HasManifest s names entries metas (file ∷ []) (counted names)) (sym is) (one_manifest m file any made))

pub no-manifest : (s : TableSchema) (names : Naming) (entries : List Entry) (metas : List ManifestMeta) → entries ≡ [] → metas ≡ []
    → HasManifest s names entries metas [] names
no-manifest s names entries metas empty is =
    subst (λ (metas : List ManifestMeta). HasManifest s names entries metas [] names) (sym is) (no_manifest empty)

-- ---- the lists

-- files that are put to others, in five parts
pub put-five : {X : Type 0} (before first second third fourth last a b d : List X) (c e : X) → first ≡ before ++ a → second ≡ first ++ b
    → third ≡ second ++ c ∷ [] → fourth ≡ third ++ d → last ≡ fourth ++ e ∷ [] → last ≡ before ++ (a ++ (b ++ (c ∷ (d ++ e ∷ []))))
put-five before first second third fourth last a b d c e p q r u v =
    v ∙ ap (λ xs. xs ++ e ∷ []) (u ∙ ap (λ xs. xs ++ d) (r ∙ ap (λ xs. xs ++ c ∷ []) (q ∙ ap (λ xs. xs ++ b) p)))
    ∙ append_assoc ((((before ++ a) ++ b) ++ c ∷ [])) d (e ∷ [])
    ∙ append_assoc ((before ++ a) ++ b) (c ∷ []) (d ++ e ∷ [])
    ∙ append_assoc (before ++ a) b (c ∷ (d ++ e ∷ []))
    ∙ append_assoc before a (b ++ (c ∷ (d ++ e ∷ [])))

pub new-lists : (s : TableSchema) (names after_delta after_changes third after_list : Naming) (entries changelog : List Entry)
    (base delta changes : List ManifestMeta) (delta_name base_name : List ℕ) (changes_name : Option (List ℕ))
    (delta_files changes_files changes_list : List CommitFile) (delta_list base_list : CommitFile)
    → HasManifest s names entries delta delta_files after_delta → HasManifest s after_delta changelog changes changes_files after_changes
    → IsNewList s after_changes delta delta_name delta_list → third ≡ counted after_changes
    → HasChangesList s third changes changes_name changes_list after_list → IsNewList s after_list base base_name base_list
    → AreLists s names entries changelog base (record { base = base_name; delta = delta_name; changes = changes_name })
    (delta_files ++ (changes_files ++ (delta_list ∷ (changes_list ++ base_list ∷ []))))
new-lists s names after_delta after_changes third after_list entries changelog base delta changes delta_name base_name changes_name
    delta_files changes_files changes_list delta_list base_list has_delta has_changes is_list next has_list is_base = record {
      delta = delta;
      delta_files = delta_files;
      after_delta = after_delta;
      has_delta = has_delta;
      changes = changes;
      changes_files = changes_files;
      after_changes = after_changes;
      has_changes = has_changes;
      delta_list = delta_list;
      is_delta_list = is_list;
      changes_list = changes_list;
      after_list = after_list;
      has_changes_list = subst (λ (n : Naming). HasChangesList s n changes changes_name changes_list after_list) next has_list;
      base_list = base_list;
      is_base_list = is_base;
      are = refl;
    }

-- what is made after a base list's files, which were put to others
after-base : (s : TableSchema) (newest : Newest) (names : Naming) (entries changelog : List Entry) (lists : ListNames) (base shown : List ManifestMeta) (left : Naming)
    (before first last : List CommitFile) → ((own : List CommitFile) × HasBase s newest names base own left × (first ≡ before ++ own))
    → shown ≡ base → ((own : List CommitFile) × AreLists s left entries changelog shown lists own × (last ≡ first ++ own))
    → (own : List CommitFile) × AreManifests s newest names entries changelog lists own × (last ≡ before ++ own)
after-base s newest names entries changelog lists base shown left before first last (base_files, has, put) same (list_files, are, put_lists) = (
  base_files ++ list_files,
  record {
    base = base;
    base_files = base_files;
    left = left;
    has_base = has;
    list_files = list_files;
    are_lists = subst (λ (metas : List ManifestMeta). AreLists s left entries changelog metas lists list_files) same are;
    are = refl;
  },
  put_lists ∙ ap (λ (xs : List CommitFile). xs ++ list_files) put ∙ append_assoc before base_files list_files,
)

pub merged-base : (s : TableSchema) (newest : Newest) (names : Naming) (entries changelog : List Entry) (lists : ListNames) (live : List Entry)
    (base shown : List ManifestMeta) (left : Naming) (before first last : List CommitFile)
    → merges s newest.manifests.items ≡ true → live ≡ newest.live.items
    → ((own : List CommitFile) × HasManifest s names live base own left × (first ≡ before ++ own))
    → shown ≡ base → ((own : List CommitFile) × AreLists s left entries changelog shown lists own × (last ≡ first ++ own))
    → (own : List CommitFile) × AreManifests s newest names entries changelog lists own × (last ≡ before ++ own)
merged-base s newest names entries changelog lists live base shown left before first last enough whole (base_files, has, put) same made =
    after-base s newest names entries changelog lists base shown left before first last
    (base_files, merged base base_files left enough (subst (λ (live : List Entry). HasManifest s names live base base_files left) whole has), put) same made

pub kept-base : (s : TableSchema) (newest : Newest) (names : Naming) (entries changelog : List Entry) (lists : ListNames) (shown : List ManifestMeta)
    (before last : List CommitFile) → merges s newest.manifests.items ≡ false → shown ≡ newest.manifests.items
    → ((own : List CommitFile) × AreLists s names entries changelog shown lists own × (last ≡ before ++ own))
    → (own : List CommitFile) × AreManifests s newest names entries changelog lists own × (last ≡ before ++ own)
kept-base s newest names entries changelog lists shown before last few same made =
    after-base s newest names entries changelog lists newest.manifests.items shown names before before last ([], kept few, sym (append-nil before)) same made

pub if-ok : {A E : Type 0} (P Q : A → Type 0) (r : Result A E) → ((x : A) → P x → Q x) → IfOk r P → IfOk r Q
if-ok P Q (Ok x) f p = f x p
if-ok P Q (Err e) f p = tt
