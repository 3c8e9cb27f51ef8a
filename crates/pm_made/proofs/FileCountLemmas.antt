-- How many files a try creates at most.
use Rattle.std.proofs.Common.{◌≡◌, ℕ, zero, suc, ◌+◌, ◌*◌, ◌≤◌, List, [], ◌∷◌, ◌++◌, length, length-append, Option, refl, ap, ◌∙◌, arith}
use Rattle.std.proofs.lemmas.List.{length-map}
use Rattle.pm_values.specs.Names.{Naming, counted}
use Rattle.pm_schema.specs.declared.schema.TableSchema.{TableSchema}
use Rattle.pm_manifest.specs.declared.entry.Entry.{Entry}
use Rattle.pm_manifest.specs.declared.entry.ManifestMeta.{ManifestMeta}
use Rattle.pm_put.specs.declared.putting.CommitFile.{CommitFile}
use Rattle.pm_write.specs.Batch.{logs_in}
use Rattle.pm_write.specs.Files.{after_names}
use Rattle.pm_made.specs.Delta.{Delta, IsDeltaOf, entries_of}
use Rattle.pm_made.specs.Files.{AreManifests, HasBase, HasChangesList, HasDelta, HasManifest, IsMadeOf, appends, compacts, data_file, fences, kept, merged, no_list, no_manifest, one_list, one_manifest}
use Rattle.pm_made.specs.Intent.{most_files, removed_of}
use Rattle.pm_made.specs.declared.intent.Intent.{Intent}
use Rattle.pm_made.specs.declared.newest.Author.{Author}
use Rattle.pm_made.specs.declared.newest.Made.{Made}
use Rattle.pm_made.specs.declared.newest.Newest.{Newest}
use Rattle.pm_made.specs.declared.snapshot.ListNames.{ListNames}
use Rattle.pm_made.proofs.DeltaFilesLemmas.{none-told}
use Rattle.pm_made.proofs.ListedLemmas.{no-metas}
use Rattle.pm_made.proofs.LogLemmas.{changelog-files, manifests_of}
use Rattle.pm_made.proofs.NumberLemmas.{files-many}

module _ (s : TableSchema) where
  few-manifest : (names : Naming) (es : List Entry) (metas : List ManifestMeta) (made : List CommitFile) (left : Naming)
      → HasManifest s names es metas made left → length made ≤ 1
  few-manifest names es _ _ _ (no_manifest none) = omega arith
  few-manifest names es _ _ _ (one_manifest m file some is) = omega arith

  no-manifest-files : (names : Naming) (es : List Entry) (metas : List ManifestMeta) (made : List CommitFile) (left : Naming)
      → HasManifest s names es metas made left → es ≡ [] → length made ≡ 0
  no-manifest-files names es _ _ _ (no_manifest none) nothing = omega arith
  no-manifest-files names es _ _ _ (one_manifest m file some is) nothing = absurd (some nothing)

  few-list : (names : Naming) (metas : List ManifestMeta) (o : Option (List ℕ)) (made : List CommitFile) (left : Naming)
      → HasChangesList s names metas o made left → length made ≤ 1
  few-list names metas _ _ _ (no_list none) = omega arith
  few-list names metas _ _ _ (one_list name file some is) = omega arith

  no-list-files : (names : Naming) (metas : List ManifestMeta) (o : Option (List ℕ)) (made : List CommitFile) (left : Naming)
      → HasChangesList s names metas o made left → metas ≡ [] → length made ≡ 0
  no-list-files names metas _ _ _ (no_list none) nothing = omega arith
  no-list-files names metas _ _ _ (one_list name file some is) nothing = absurd (some nothing)

  few-base : (newest : Newest) (names : Naming) (metas : List ManifestMeta) (made : List CommitFile) (left : Naming)
      → HasBase s newest names metas made left → length made ≤ 1
  few-base newest names _ _ _ (kept few) = omega arith
  few-base newest names _ _ _ (merged metas made left enough has) = few-manifest names newest.live.items metas made left has

-- how many are joined
long-five : {A : Type 0} (a b c d e : List A) (x y : A)
    → length (a ++ (b ++ (c ++ (x ∷ (d ++ y ∷ e))))) ≡ length a + length b + length c + length d + length e + 2
long-five a b c d e x y =
    let first = length-append a (b ++ (c ++ (x ∷ (d ++ y ∷ e)))) in
    let second = length-append b (c ++ (x ∷ (d ++ y ∷ e))) in
    let third = length-append c (x ∷ (d ++ y ∷ e)) in
    let fourth = length-append d (y ∷ e) in
    omega (arith, first, second, third, fourth)

module _ (s : TableSchema) (newest : Newest) (names : Naming) (es changelog : List Entry) (lists : ListNames) (made : List CommitFile)
    (are : AreManifests s newest names es changelog lists made) where
  long : length made ≡ length are.base_files + length are.are_lists.delta_files + length are.are_lists.changes_files + length are.are_lists.changes_list + 2
  long =
      let all = ap (λ (files : List CommitFile). length files) (are.are ∙ ap (λ (files : List CommitFile). are.base_files ++ files) are.are_lists.are) in
      let five = long-five are.base_files are.are_lists.delta_files are.are_lists.changes_files are.are_lists.changes_list [] are.are_lists.delta_list are.are_lists.base_list in
      omega (arith, all, five)

  base-few : length are.base_files ≤ 1
  base-few = few-base s newest names are.base are.base_files are.left are.has_base

  delta-few : length are.are_lists.delta_files ≤ 1
  delta-few = few-manifest s are.left es are.are_lists.delta are.are_lists.delta_files are.are_lists.after_delta are.are_lists.has_delta

  -- manifests and lists are at most six
  pub six-lists : length made ≤ 6
  six-lists =
      let changes = few-manifest s are.are_lists.after_delta changelog are.are_lists.changes are.are_lists.changes_files are.are_lists.after_changes
      are.are_lists.has_changes in
      let list = few-list s (counted are.are_lists.after_changes) are.are_lists.changes lists.changes are.are_lists.changes_list are.are_lists.after_list
      are.are_lists.has_changes_list in
      let all = long in let base = base-few in let delta = delta-few in
      omega (arith, all, base, delta, changes, list)

  -- and four where there are no changelog files
  pub four-lists : changelog ≡ [] → length made ≤ 4
  four-lists none =
      let changes = no-manifest-files s are.are_lists.after_delta changelog are.are_lists.changes are.are_lists.changes_files are.are_lists.after_changes
      are.are_lists.has_changes none in
      let list = no-list-files s (counted are.are_lists.after_changes) are.are_lists.changes lists.changes are.are_lists.changes_list are.are_lists.after_list
      are.are_lists.has_changes_list (no-metas s are.are_lists.after_delta changelog are.are_lists.changes are.are_lists.changes_files are.are_lists.after_changes
      are.are_lists.has_changes none) in
      let all = long in let base = base-few in let delta = delta-few in
      omega (arith, all, base, delta, changes, list)

  -- so are they by how many manifests of changelog files there are
  pub lists-within : (more : ℕ) → (more ≡ 0 → changelog ≡ []) → length made ≤ 4 + 2 * more
  lists-within zero none = let four = four-lists (none refl) in omega (arith, four)
  lists-within (suc more) none = let six = six-lists in omega (arith, six)

-- with its files of rows
pub few-files : (s : TableSchema) (newest : Newest) (names : Naming) (intent : Intent) (d : Delta) (row_files : List CommitFile) (left : Naming)
    → HasDelta s newest names intent d row_files left → (es changelog : List Entry) (lists : ListNames) (made : List CommitFile)
    → AreManifests s newest left es changelog lists made → changelog ≡ d.changes → length row_files + length made ≤ most_files intent
few-files s newest names _ _ _ _ (appends batch xs numbered) es changelog lists made are told =
    let n = length (logs_in batch) in
    let within = lists-within s newest (after_names (length xs) names) es changelog lists made are (manifests_of n)
    (λ none. told ∙ none-told s newest names _ _ _ _ (appends batch xs numbered) none) in
    let many = files-many s numbered.next names batch xs numbered.are_new in
    let rows = length-map xs (data_file s) in
    let logs = changelog-files n in
    omega (arith, within, many, rows, logs)
few-files s newest names _ _ _ _ (compacts plan) es changelog lists made are told =
    let six = six-lists s newest names es changelog lists made are in omega (arith, six)
few-files s newest names _ _ _ _ (fences number) es changelog lists made are told =
    let six = six-lists s newest names es changelog lists made are in omega (arith, six)

-- so are those that a try makes, whatever entries its manifests have
pub few-made : (s : TableSchema) (newest : Newest) (names : Naming) (intent : Intent) (row_files : List CommitFile) (left : Naming) (entries changes es : List Entry)
    (lists : ListNames) (all : List CommitFile)
    → ((d : Delta) × HasDelta s newest names intent d row_files left × IsDeltaOf (removed_of intent) entries changes d)
    → ((made : List CommitFile) × AreManifests s newest left es changes lists made × (all ≡ row_files ++ made)) → length all ≤ most_files intent
few-made s newest names intent row_files left entries changes es lists all (d, has, is) (made, are, joined) =
    let few = few-files s newest names intent d row_files left has es changes lists made are is.told in
    let long = ap (λ (files : List CommitFile). length files) joined ∙ length-append row_files made in
    omega (arith, few, long)

pub made-few : (s : TableSchema) (newest : Newest) (author : Author) (intent : Intent) (names : Naming) (made : Made) → IsMadeOf s newest author intent names made
    → length made.files.items ≤ most_files intent
made-few s newest author intent names made is =
    let few = few-files s newest names intent is.delta is.row_files is.left is.has_delta (entries_of is.delta) is.delta.changes is.lists is.list_files is.are_manifests
    refl in
    let long = ap (λ (files : List CommitFile). length files) is.files ∙ length-append is.row_files is.list_files in
    omega (arith, few, long)
