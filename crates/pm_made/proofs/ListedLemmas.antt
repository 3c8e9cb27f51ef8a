-- The manifests and lists of a commit: what they have once they are in place, and who named them.
use Rattle.std.proofs.Common.{◌≡◌, ℕ, zero, suc, ◌+◌, ◌*◌, List, [], ◌∷◌, ◌++◌, Option, None, Some, inl, inr, Contains, refl, sym, ap, subst, ◌∙◌, append-nil, append_assoc, arith}
use Rattle.std.specs.FinMap as finite
use Rattle.std.specs.List.{AllByRecursion}
use Rattle.pm_store.specs.Files.{Files}
use Rattle.pm_values.specs.Names.{Naming, counted}
use Rattle.pm_schema.specs.declared.schema.TableSchema.{TableSchema}
use Rattle.pm_manifest.specs.Entries.{IsEntry, IsWithin}
use Rattle.pm_manifest.specs.Shape.{shape_of}
use Rattle.pm_manifest.specs.declared.entry.Entry.{Entry}
use Rattle.pm_manifest.specs.declared.entry.ManifestMeta.{ManifestMeta}
use Rattle.pm_model_contents.specs.Lists.{HasChangelog, HaveEntries, IsChangelogEntry, IsList, IsManifest, manifest_path}
use Rattle.pm_model_folder.specs.Changes.{Actor}
use Rattle.pm_put.specs.Meaning.{IsPut}
use Rattle.pm_put.specs.declared.putting.CommitFile.{CommitFile}
use Rattle.pm_made.specs.Files.{AreLists, AreManifests, HasBase, HasChangesList, HasManifest, IsNewList, IsNewManifest, kept, merged, no_list, no_manifest, one_list, one_manifest}
use Rattle.pm_made.specs.declared.newest.Newest.{Newest}
use Rattle.pm_made.specs.declared.snapshot.ListNames.{ListNames}
use Rattle.pm_made.proofs.ListLemmas.{in-or, none-in}
use Rattle.pm_made.proofs.MadeLemmas.{IsMade, IsMaker, MayGive, give-next, give-none, made-list, made-manifest, next-maker}

-- ---- what they have

module _ (f : Files) (s : TableSchema) where
  in-manifest : (names : Naming) (es : List Entry) (m : ManifestMeta) (file : CommitFile) → IsNewManifest s names es m file
      → AllByRecursion (IsEntry (shape_of s)) es → IsPut f file → IsManifest f s m.name es
  in-manifest names es m file is can there = record {
    bytes = file.bytes;
    there = ap (finite.get f) (sym is.path) ∙ there;
    read = is.again can (manifest_path m.name);
  }

  pub in-list : (names : Naming) (metas : List ManifestMeta) (name : List ℕ) (file : CommitFile) → IsNewList s names metas name file
      → IsPut f file → IsList f name metas
  in-list names metas name file is there = record {
    bytes = file.bytes;
    there = ap (finite.get f) (sym is.path) ∙ there;
    read = is.again (manifest_path name);
  }

  pub have-entries : (names : Naming) (es : List Entry) (metas : List ManifestMeta) (made : List CommitFile) (left : Naming)
      → HasManifest s names es metas made left → AllByRecursion (IsEntry (shape_of s)) es → AllByRecursion (IsPut f) made → HaveEntries f s metas es
  have-entries names es _ _ _ (no_manifest none) can put = none
  have-entries names es _ _ _ (one_manifest m file some is) can put = (es, [], sym (append-nil es), in-manifest names es m file is can put.0, refl)

  pub have-changelog : (names : Naming) (metas : List ManifestMeta) (es : List Entry) (o : Option (List ℕ)) (made : List CommitFile) (left : Naming)
      → HasChangesList s names metas o made left → HaveEntries f s metas es → AllByRecursion IsChangelogEntry es → AllByRecursion (IsPut f) made
      → HasChangelog f s o metas es
  have-changelog names metas es _ _ _ (no_list none) have told put = (none, subst (λ (ms : List ManifestMeta). HaveEntries f s ms es) none have)
  have-changelog names metas es _ _ _ (one_list name file some is) have told put = (in-list names metas name file is put.0, have, told)

  -- the entries of two lists of manifests
  pub both-entries : (metas more : List ManifestMeta) (es others : List Entry) → HaveEntries f s metas es → HaveEntries f s more others
      → HaveEntries f s (metas ++ more) (es ++ others)
  both-entries [] more es others none have = subst (λ (xs : List Entry). HaveEntries f s more (xs ++ others)) (sym none) have
  both-entries (meta ∷ metas) more es others (own, later, split, is, have) rest = (
    own,
    later ++ others,
    ap (λ (xs : List Entry). xs ++ others) split ∙ append_assoc own later others,
    is,
    both-entries metas more later others have rest,
  )

-- without entries there is no manifest
pub no-metas : (s : TableSchema) (names : Naming) (es : List Entry) (metas : List ManifestMeta) (made : List CommitFile) (left : Naming)
    → HasManifest s names es metas made left → es ≡ [] → metas ≡ []
no-metas s names es _ _ _ (no_manifest none) nothing = refl
no-metas s names es _ _ _ (one_manifest m file some is) nothing = absurd (some nothing)

-- nor is there a list of changelog files
no-list-for : (s : TableSchema) (names : Naming) (metas : List ManifestMeta) (o : Option (List ℕ)) (made : List CommitFile) (left : Naming)
    → HasChangesList s names metas o made left → metas ≡ [] → o ≡ None
no-list-for s names metas _ _ _ (no_list none) nothing = refl
no-list-for s names metas _ _ _ (one_list name file some is) nothing = absurd (some nothing)

-- the entries of a manifest are such as are written
manifest-within : (s : TableSchema) (names : Naming) (es : List Entry) (metas : List ManifestMeta) (made : List CommitFile) (left : Naming)
    → HasManifest s names es metas made left → AllByRecursion (IsWithin (shape_of s)) es
manifest-within s names es _ _ _ (no_manifest none) = subst (AllByRecursion (IsWithin (shape_of s))) (sym none) tt
manifest-within s names es _ _ _ (one_manifest m file some is) = is.within

module _ (s : TableSchema) (newest : Newest) (names : Naming) (es changelog : List Entry) (lists : ListNames) (made : List CommitFile)
    (are : AreManifests s newest names es changelog lists made) where
  abbrev own : AreLists s are.left es changelog are.base lists are.list_files
  own = are.are_lists

  pub unlisted : changelog ≡ [] → lists.changes ≡ None
  unlisted none =
      no-list-for s (counted own.after_changes) own.changes lists.changes own.changes_list own.after_list own.has_changes_list
      (no-metas s own.after_delta changelog own.changes own.changes_files own.after_changes own.has_changes none)

  pub entries-within : AllByRecursion (IsWithin (shape_of s)) es
  entries-within = manifest-within s are.left es own.delta own.delta_files own.after_delta own.has_delta

  pub changes-within : AllByRecursion (IsWithin (shape_of s)) changelog
  changes-within = manifest-within s own.after_delta changelog own.changes own.changes_files own.after_changes own.has_changes

-- ---- who named them

some-name : (a b : List ℕ) → Some a ≡ Some b → a ≡ b
some-name a b is = cc

no-name : (name : List ℕ) → None ≡ Some name → ⊥
no-name name is = cc

module _ (me : Actor) (base : ℕ) (s : TableSchema) where
  pub manifest-named : (names : Naming) (es : List Entry) (metas : List ManifestMeta) (made : List CommitFile) (left : Naming)
      → HasManifest s names es metas made left → IsMaker me base names → (meta : ManifestMeta) → Contains metas meta
      → IsMade me base (manifest_path meta.name)
  manifest-named names es _ _ _ (no_manifest none) maker meta h = absurd (none-in meta h)
  manifest-named names es _ _ _ (one_manifest m file some is) maker meta h = elim (in-or m [] meta h) as (λ _. IsMade me base (manifest_path meta.name)) [
    | inl one ↦ subst (λ (m : ManifestMeta). IsMade me base (manifest_path m.name)) one (made-manifest me base names m.name maker is.named)
    | inr nothing ↦ absurd (none-in meta nothing)
  ]

  pub list-named : (names : Naming) (metas : List ManifestMeta) (o : Option (List ℕ)) (made : List CommitFile) (left : Naming)
      → HasChangesList s names metas o made left → IsMaker me base names → (name : List ℕ) → o ≡ Some name → IsMade me base (manifest_path name)
  list-named names metas _ _ _ (no_list none) maker name is = absurd (no-name name is)
  list-named names metas _ _ _ (one_list own file some new) maker name is =
      subst (λ (n : List ℕ). IsMade me base (manifest_path n)) (some-name own name is) (made-list me base names own maker new.named)

  pub manifest-left : (k : ℕ) (names : Naming) (es : List Entry) (metas : List ManifestMeta) (made : List CommitFile) (left : Naming)
      → HasManifest s names es metas made left → MayGive me base (suc k) names → MayGive me base k left
  manifest-left k names es _ _ _ (no_manifest none) may = give-none me base k names may
  manifest-left k names es _ _ _ (one_manifest m file some is) may = give-next me base k names may

  -- a manifest of changelog files takes a name where there are some
  pub changes-left : (more : ℕ) (names : Naming) (es : List Entry) (metas : List ManifestMeta) (made : List CommitFile) (left : Naming)
      → HasManifest s names es metas made left → (more ≡ 0 → es ≡ []) → MayGive me base (2 + 2 * more) names → MayGive me base (2 + more) left
  changes-left more names es _ _ _ (no_manifest none) told may =
      record { maker = may.maker; room = (let room = may.room in omega (arith, room)) }
  changes-left zero names es _ _ _ (one_manifest m file some is) told may = absurd (some (told refl))
  changes-left (suc more) names es _ _ _ (one_manifest m file some is) told may = record {
    maker = next-maker me base names may.maker (let room = may.room in omega (arith, room));
    room = (let room = may.room in omega (arith, room));
  }

  -- so does the list of it
  pub list-left : (more : ℕ) (names : Naming) (metas : List ManifestMeta) (o : Option (List ℕ)) (made : List CommitFile) (left : Naming)
      → HasChangesList s names metas o made left → (more ≡ 0 → metas ≡ []) → MayGive me base (1 + more) names → MayGive me base 1 left
  list-left more names metas _ _ _ (no_list none) told may =
      record { maker = may.maker; room = (let room = may.room in omega (arith, room)) }
  list-left zero names metas _ _ _ (one_list name file some is) told may = absurd (some (told refl))
  list-left (suc more) names metas _ _ _ (one_list name file some is) told may = record {
    maker = next-maker me base names may.maker (let room = may.room in omega (arith, room));
    room = (let room = may.room in omega (arith, room));
  }

  pub base-left : (k : ℕ) (newest : Newest) (names : Naming) (metas : List ManifestMeta) (made : List CommitFile) (left : Naming)
      → HasBase s newest names metas made left → MayGive me base (suc k) names → MayGive me base k left
  base-left k newest names _ _ _ (kept few) may = give-none me base k names may
  base-left k newest names _ _ _ (merged metas made left enough has) may = manifest-left k names newest.live.items metas made left has may
