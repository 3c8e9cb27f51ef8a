-- What the snapshot of a commit names: the newest before it named it, or the actor did.
use Rattle.std.proofs.Common.{◌≡◌, ◌⊎◌, inl, inr, ℕ, ℤ, pos, negsuc, suc, ◌≤◌, int_le, int_lt, true, false, not, List, ◌++◌, length, Contains, refl, subst, arith}
use Rattle.std.proofs.lemmas.Bool.Decides.{nat_tests}
use Rattle.pm_store.specs.Files.{Files}
use Rattle.pm_values.specs.Names.{Naming, counted}
use Rattle.pm_model_history.specs.History.{Entry}
use Rattle.pm_schema.specs.declared.schema.TableSchema.{TableSchema}
use Rattle.pm_snapshot.specs.declared.snapshot.Snapshot.{Snapshot}
use Rattle.pm_manifest.specs.declared.entry.Entry as files
use Rattle.pm_manifest.specs.declared.entry.ManifestMeta.{ManifestMeta}
use Rattle.pm_model_contents.specs.Lists.{manifest_path}
use Rattle.pm_model_contents.specs.Named as named
use Rattle.pm_model_contents.specs.Named.{Contents, IsNamed}
use Rattle.pm_model_contents.specs.Runs.{data_path}
use Rattle.pm_model_folder.specs.Changes.{Actor, IsNamedBy, NamesOwn}
use Rattle.pm_model_folder.specs.Commits.{Names}
use Rattle.pm_model_folder.specs.Entries.{fence_at}
use Rattle.pm_model_folder.proofs.HoldLemmas.{one-commit}
use Rattle.pm_put.specs.declared.putting.CommitFile.{CommitFile}
use Rattle.pm_made.specs.Commit.{Attempt, IsAsMade, IsReady, snapshot_of}
use Rattle.pm_made.specs.Delta.{entries_of, is_of_any, left_of}
use Rattle.pm_made.specs.Files.{AreLists, AreManifests, HasBase, IsMadeOf, kept, merged}
use Rattle.pm_made.specs.Refusals.{fence_of}
use Rattle.pm_made.proofs.AllowedLemmas.{allowed-of}
use Rattle.pm_made.proofs.DeltaFilesLemmas.{NamesFiles, names-files}
use Rattle.pm_made.proofs.ListLemmas.{filter-in, in-either}
use Rattle.pm_made.proofs.ListedLemmas.{list-named, manifest-named}
use Rattle.pm_made.proofs.MadeLemmas.{IsMade, made-list}
use Rattle.pm_made.proofs.MakerLemmas.{base_list-names, changes-names, changes_list-names, delta-names, delta_list-names, first-names, manifest-names}
use Rattle.pm_made.proofs.OldLemmas.{Old, SnapshotFacts, old-of}

-- what isn't at most a fence is above it
above-fence : (b : ℕ) (z : ℤ) → int_le (pos b) z ≡ false → int_lt z (pos b) ≡ true
above-fence b (pos m) is = grind (arith, nat_tests)
above-fence b (negsuc m) is = refl

module _ (facts : SnapshotFacts) (me : Actor) (f after : Files) (s : TableSchema) (entries : List Entry) (e : Entry)
    (t : Attempt) (ready : IsReady me f s entries e t) (stands : IsAsMade after s (suc (length entries)) t ready.made) where
  abbrev k : ℕ
  k = length entries

  abbrev b : ℕ
  b = t.author.base

  abbrev made : IsMadeOf s t.newest t.author t.intent t.names t.made
  made = ready.made

  abbrev lists : AreManifests s t.newest made.left (entries_of made.delta) made.delta.changes made.lists made.list_files
  lists = made.are_manifests

  abbrev own : AreLists s lists.left (entries_of made.delta) made.delta.changes lists.base made.lists lists.list_files
  own = lists.are_lists

  abbrev old : Old facts f s entries ready.folder t.newest ready.newest.id t.newest.snapshot
  old = old-of facts f s entries ready.folder t.newest ready.newest.id t.newest.snapshot ready.newest.found

  abbrev y : Snapshot
  y = snapshot_of s t made

  abbrev Known : List ℕ → Type 0
  Known path = ((1 ≤ k) × Names f s k path) ⊎ IsMade me b path

  rows-named : NamesFiles s t.newest t.names me b made.delta
  rows-named = names-files s t.newest t.names me b t.intent made.delta made.row_files made.left made.has_delta
      (first-names me s t ready.maker made) ready.own

  base-named : (metas : List ManifestMeta) (made_files : List CommitFile) (left : Naming) → HasBase s t.newest made.left metas made_files left
      → (meta : ManifestMeta) → Contains metas meta → Known (manifest_path meta.name)
  base-named _ _ _ (kept few) meta h = inl (old.manifest_named meta h)
  base-named _ _ _ (merged metas made_files left enough has) meta h =
      inr (manifest-named me b s made.left t.newest.live.items metas made_files left has (manifest-names me s t ready.maker made).maker meta h)

  live-named : (x : files.Entry) → Contains (left_of made.delta.removed t.newest.live.items ++ made.delta.added) x → Known (data_path s x.group x.file.name)
  live-named x h = elim (in-either (left_of made.delta.removed t.newest.live.items) made.delta.added x h) as (λ _. Known (data_path s x.group x.file.name)) [
    | inl left ↦ inl (old.data_named x ((old.live.exact x).0
        (filter-in (λ (e : files.Entry). not (is_of_any made.delta.removed e)) t.newest.live.items x left).0))
    | inr came ↦ inr (rows-named.added x came)
  ]

  named-or : (path : List ℕ) → IsNamed s y stands.contents path → Known path
  named-or _ named.base_list = inr (made-list me b own.after_list made.lists.base (base_list-names me s t ready.maker made).maker own.is_base_list.named)
  named-or _ named.delta_list = inr (made-list me b own.after_changes made.lists.delta (delta_list-names me s t ready.maker made).maker own.is_delta_list.named)
  named-or _ (named.changelog_list name is) = inr (list-named me b s (counted own.after_changes) own.changes made.lists.changes own.changes_list own.after_list
      own.has_changes_list (changes_list-names me s t ready.maker made).maker name is)
  named-or _ (named.manifest meta (inl h)) = elim (in-either stands.contents.base stands.contents.delta meta h) as (λ _. Known (manifest_path meta.name)) [
    | inl left ↦ base-named lists.base lists.base_files lists.left lists.has_base meta (subst (λ (ms : List ManifestMeta). Contains ms meta) stands.base left)
    | inr right ↦ inr (manifest-named me b s lists.left (entries_of made.delta) own.delta own.delta_files own.after_delta own.has_delta
        (delta-names me s t ready.maker made).maker meta (subst (λ (ms : List ManifestMeta). Contains ms meta) stands.delta right))
  ]
  named-or _ (named.manifest meta (inr h)) = inr (manifest-named me b s own.after_delta made.delta.changes own.changes own.changes_files own.after_changes own.has_changes
      (changes-names me s t ready.maker made).maker meta (subst (λ (ms : List ManifestMeta). Contains ms meta) stands.changelog h))
  named-or _ (named.data_file x is) = live-named x ((stands.live.exact x).1 is)
  named-or _ (named.changes_file x h) = inr (rows-named.changes x (subst (λ (es : List files.Entry). Contains es x) stands.changes h))

  pub names-or : (path : List ℕ) → Names after s (suc k) path → ((1 ≤ k) × Names f s k path) ⊎ IsMade me b path
  names-or path (x, c, other, is) =
      let both = one-commit facts.one_contents after s (suc k) x y c stands.contents other stands.commit in
      named-or path (subst (λ (x : Snapshot). IsNamed s x stands.contents path) both.0 (subst (λ (c : Contents). IsNamed s x c path) both.1 is))

  -- what it names and the one before it doesn't is the actor's
  pub names-own : NamesOwn me f after s k
  names-own path now other = elim (names-or path now) as (λ _. IsNamedBy me path) [
    | inl was ↦ absurd (other was.1)
    | inr made ↦ made.by
  ]

  pub fence-below : int_lt (fence_of t.newest.snapshot) (pos b) ≡ true
  fence-below = above-fence b (fence_of t.newest.snapshot) (allowed-of t.newest t.author t.intent ready.allowed).fence

  pub above : int_lt (fence_at entries k) (pos b) ≡ true
  above = subst (λ (z : ℤ). int_lt z (pos b) ≡ true) old.fence fence-below
