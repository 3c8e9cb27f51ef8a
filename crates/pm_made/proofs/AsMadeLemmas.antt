-- A try that is ready and published has what was made.
use Rattle.std.proofs.Common.{◌≡◌, ℕ, suc, ◌+◌, true, true≢false, List, [], ◌∷◌, ◌++◌, length, map, Option, None, Some, IsSome, inl, inr, Ok, refl, sym, ap, subst, ◌∙◌, arith}
use Rattle.std.specs.FinMap as finite
use Rattle.std.specs.List.{AllByRecursion}
use Rattle.pm_store.specs.Files.{Files, Puts}
use Rattle.pm_values.specs.Names.{Naming, counted}
use Rattle.pm_base.proofs.Laws.{AllByRecursion-append, AllByRecursion-parts}
use Rattle.pm_model_history.specs.History.{Entry}
use Rattle.pm_schema.specs.declared.schema.TableSchema.{TableSchema}
use Rattle.pm_snapshot.specs.Snapshot.{IsConsistent, snapshot_in}
use Rattle.pm_snapshot.specs.declared.snapshot.Snapshot.{Snapshot}
use Rattle.pm_manifest.specs.Entries.{IsEntry}
use Rattle.pm_manifest.specs.Live.{AreInOrder, Live, id_of, live_after, live_at}
use Rattle.pm_manifest.specs.Shape.{shape_of}
use Rattle.pm_manifest.specs.declared.entry.Entry as files
use Rattle.pm_manifest.specs.declared.entry.ManifestMeta.{ManifestMeta}
use Rattle.pm_manifest.specs.declared.file_id.FileId.{FileId}
use Rattle.pm_model_contents.specs.Lists.{HaveEntries, none_live}
use Rattle.pm_model_contents.specs.Named.{Contents, HasContents}
use Rattle.pm_model_contents.specs.Runs.{data_path}
use Rattle.pm_model_folder.specs.Changes.{Actor}
use Rattle.pm_model_folder.specs.Commits.{Names, live_in}
use Rattle.pm_model_folder.specs.Meaning.{SnapshotAt}
use Rattle.pm_model_folder.specs.Paths.{snapshot_path}
use Rattle.pm_model_folder.proofs.HoldLemmas.{Holds, entries-held}
use Rattle.pm_put.specs.Meaning.{IsPut}
use Rattle.pm_put.specs.declared.putting.CommitFile.{CommitFile}
use Rattle.pm_made.specs.Commit.{Attempt, IsAsMade, IsReady, snapshot_of}
use Rattle.pm_made.specs.Delta.{Delta, deleted, entries_of}
use Rattle.pm_made.specs.Files.{AreLists, AreManifests, HasBase, IsMadeOf, kept, merged, merges}
use Rattle.pm_made.specs.Refusals.{first_not_live}
use Rattle.pm_made.specs.declared.newest.Newest.{Newest}
use Rattle.pm_made.proofs.AllowedLemmas.{IsAllowed, allowed-of}
use Rattle.pm_made.proofs.DeltaFilesLemmas.{NamesFiles, delta-adds, names-files, removed-are}
use Rattle.pm_made.proofs.EntryLemmas.{ReadEntries, can-go, live-entry, read-entries}
use Rattle.pm_made.proofs.GoneLemmas.{Apart, delta-live, delta-order}
use Rattle.pm_made.proofs.IntentLemmas.{appends-within, fence-below, fence-least, full-within}
use Rattle.pm_made.proofs.ListLemmas.{Pairs, all-of, all-weaker, each-of, pairs-from}
use Rattle.pm_made.proofs.ListedLemmas.{both-entries, have-changelog, have-entries, in-list}
use Rattle.pm_made.proofs.LiveLemmas.{AreAdds, AreNew, ManifestFacts, adds-follow, live-adds, merged-live}
use Rattle.pm_made.proofs.MakerLemmas.{first-names}
use Rattle.pm_made.proofs.OldLemmas.{Bounds, Old, SnapshotFacts, old-of, puts-holds}

-- ---- the published try

module _ (facts : SnapshotFacts) (manifests : ManifestFacts) (read : ReadEntries) (me : Actor) (f after : Files) (s : TableSchema) (entries : List Entry) (e : Entry)
    (t : Attempt) (ready : IsReady me f s entries e t) (absent : finite.get f (snapshot_path (suc (length entries))) ≡ None)
    (puts : Puts f (snapshot_path (suc (length entries))) (Some t.made.text) after) where
  abbrev k : ℕ
  k = length entries

  abbrev newest : Newest
  newest = t.newest

  abbrev made : IsMadeOf s t.newest t.author t.intent t.names t.made
  made = ready.made

  allowed : IsAllowed t.newest t.author t.intent
  allowed = allowed-of t.newest t.author t.intent ready.allowed

  abbrev old : Old facts f s entries ready.folder t.newest ready.newest.id t.newest.snapshot
  old = old-of facts f s entries ready.folder t.newest ready.newest.id t.newest.snapshot ready.newest.found

  abbrev live0 : Live
  live0 = live_after none_live old.entries0

  holds : Holds f after
  holds = puts-holds f after (snapshot_path (suc (length entries))) (Some t.made.text) absent puts

  still : (file : CommitFile) → IsPut f file → IsPut after file
  still file there = holds file.path (subst (λ (o : Option (List ℕ)). IsSome o) (sym there) refl) ∙ there

  abbrev d : Delta
  d = made.delta

  -- ---- files in place

  abbrev lists : AreManifests s t.newest made.left (entries_of d) d.changes made.lists made.list_files
  lists = made.are_manifests

  abbrev own : AreLists s lists.left (entries_of d) d.changes lists.base made.lists lists.list_files
  own = lists.are_lists

  abbrev Put : List CommitFile → Type 0
  Put made = AllByRecursion (IsPut after) made

  list-put : Put lists.base_files × Put lists.list_files
  list-put = AllByRecursion-parts (IsPut after) lists.base_files lists.list_files (subst Put lists.are
      (AllByRecursion-parts (IsPut after) made.row_files made.list_files (subst Put made.files
      (all-weaker (IsPut f) (IsPut after) still t.made.files.items ready.there))).1)

  delta-put : Put own.delta_files × Put (own.changes_files ++ (own.delta_list ∷ (own.changes_list ++ own.base_list ∷ [])))
  delta-put = AllByRecursion-parts (IsPut after) own.delta_files (own.changes_files ++ (own.delta_list ∷ (own.changes_list ++ own.base_list ∷ [])))
      (subst Put own.are list-put.1)

  changes-put : Put own.changes_files × Put (own.delta_list ∷ (own.changes_list ++ own.base_list ∷ []))
  changes-put = AllByRecursion-parts (IsPut after) own.changes_files (own.delta_list ∷ (own.changes_list ++ own.base_list ∷ [])) delta-put.1

  last-put : Put own.changes_list × Put (own.base_list ∷ [])
  last-put = AllByRecursion-parts (IsPut after) own.changes_list (own.base_list ∷ []) changes-put.1.1

  -- ---- the base list

  -- its manifests leave what was live
  record Base (metas : List ManifestMeta) : Type 0 where
    pub entries1 : List files.Entry
    pub have : HaveEntries after s metas entries1
    pub order : AreInOrder none_live entries1
    pub live : (id : FileId) → live_after none_live entries1 id ≡ live0 id

  live-can : AllByRecursion (IsEntry (shape_of s)) newest.live.items
  live-can = all-of (IsEntry (shape_of s)) newest.live.items (λ x h.
      elim (live-entry manifests None (id_of x) old.entries0 x ((old.live.exact x).0 h)) as (λ _. IsEntry (shape_of s) x) [
        | inl none ↦ absurd (let no : None ≡ Some x = none in cc)
        | inr there ↦ each-of (IsEntry (shape_of s)) old.entries0 x (read-entries read f s newest.manifests.items old.entries0 old.have) there
      ])

  base-of : (metas : List ManifestMeta) (made_files : List CommitFile) (left : Naming) → HasBase s t.newest made.left metas made_files left
      → Put made_files → Base metas
  base-of _ _ _ (kept few) put = record {
    entries1 = old.entries0;
    have = entries-held f after holds s newest.manifests.items old.entries0 old.have;
    order = old.order;
    live = λ id. refl;
  }
  base-of _ _ _ (merged metas made_files left enough has) put = record {
    entries1 = newest.live.items;
    have = have-entries after s made.left newest.live.items metas made_files left has live-can put;
    order = adds-follow manifests none_live newest.live.items (live-adds manifests old.entries0 newest.live.items old.live) (λ x h. refl);
    live = λ id. merged-live manifests old.entries0 newest.live.items id old.live;
  }

  abbrev base : Base lists.base
  base = base-of lists.base lists.base_files lists.left lists.has_base list-put.0

  merged-have : (metas : List ManifestMeta) (made_files : List CommitFile) (left : Naming) → HasBase s t.newest made.left metas made_files left
      → Put made_files → merges s newest.manifests.items ≡ true → HaveEntries after s metas newest.live.items
  merged-have _ _ _ (kept few) put enough = absurd (true≢false (sym enough ∙ few))
  merged-have _ _ _ (merged metas made_files left many has) put enough =
      have-entries after s made.left newest.live.items metas made_files left has live-can put

  -- ---- what is live

  removed : Pairs Apart d.removed
  removed = pairs-from Apart d.removed ready.may_change.removed

  adds : AreAdds d.added
  adds = record {
    add = delta-adds s t.newest t.names t.intent d made.row_files made.left made.has_delta;
    apart = pairs-from Apart d.added ready.may_change.added;
  }

  all-live : first_not_live newest.live.items d.removed ≡ None
  all-live = ap (first_not_live newest.live.items) (removed-are s t.newest t.names t.intent d made.row_files made.left made.has_delta) ∙ allowed.live

  named : NamesFiles s t.newest t.names me t.author.base d
  named = names-files s t.newest t.names me t.author.base t.intent d made.row_files made.left made.has_delta
      (first-names me s t ready.maker made) ready.own

  -- the files that come are new
  new : AreNew live0 d.added
  new x h = at (live0 (id_of x)) refl
    where
      at : (found : Option files.Entry) → live0 (id_of x) ≡ found → live0 (id_of x) ≡ None
      at None is = is
      at (Some z) is =
          let own_id : id_of z ≡ id_of x = elim (manifests.live None (id_of x) old.entries0 z is) as (λ _. id_of z ≡ id_of x) [
            | inl none ↦ absurd (let no : None ≡ Some z = none in cc)
            | inr both ↦ both.1
          ] in
          let there = old.data_named z (ap live0 own_id ∙ is) in
          absurd (ready.unnamed k (data_path s x.group x.file.name) there.0 (omega arith)
          (subst (λ (path : List ℕ). Names f s k path) (ap (λ (i : FileId). data_path s i.group i.name) own_id) there.1) (named.added x h).by)

  abbrev contents : Contents
  contents = record {
    base = lists.base;
    delta = own.delta;
    entries = base.entries1 ++ entries_of d;
    changelog = own.changes;
    changes = d.changes;
  }

  grown : (id : FileId) → live_in contents id ≡ live_after live0 (entries_of d) id
  grown id = manifests.left None id base.entries1 (entries_of d) ∙ ap (λ (o : Option files.Entry). live_at o id (entries_of d)) (base.live id)

  -- the delta's entries follow those of the base list
  order-after : (live : Live) → ((id : FileId) → live id ≡ live0 id) → AreInOrder live (entries_of d)
  order-after live same = subst (λ (live : Live). AreInOrder live (entries_of d)) (λ i id. sym (same id) i)
      (delta-order manifests live0 live0 d.removed d.added newest.live.items old.live removed adds new all-live)

  can : AllByRecursion (IsEntry (shape_of s)) (entries_of d)
  can = AllByRecursion-append (IsEntry (shape_of s)) (map deleted d.removed) d.added (can-go s d.removed ready.may_change.can_go) ready.may_change.can_come

  -- ---- the snapshot

  abbrev y : Snapshot
  y = snapshot_of s t made

  delta-have : HaveEntries after s own.delta (entries_of d)
  delta-have = have-entries after s lists.left (entries_of d) own.delta own.delta_files own.after_delta own.has_delta can delta-put.0

  changes-have : HaveEntries after s own.changes d.changes
  changes-have = have-entries after s own.after_delta d.changes own.changes own.changes_files own.after_changes own.has_changes ready.may_change.can_tell changes-put.0

  has : HasContents after s y contents
  has = record {
    table = record {
      base_list = in-list after s own.after_list lists.base made.lists.base own.base_list own.is_base_list last-put.1.0;
      delta_list = in-list after s own.after_changes own.delta made.lists.delta own.delta_list own.is_delta_list changes-put.1.0;
      have = both-entries after s lists.base own.delta base.entries1 (entries_of d) base.have delta-have;
      order = (manifests.order none_live base.entries1 (entries_of d)).1 (base.order, order-after (live_after none_live base.entries1) base.live);
    };
    changelog = have-changelog after s (counted own.after_changes) own.changes d.changes made.lists.changes own.changes_list own.after_list
        own.has_changes_list changes-have ready.may_change.told last-put.0;
  }

  bounds : Bounds t.newest.snapshot t.newest.id
  bounds = old.bounds

  consistent_new : IsConsistent y
  consistent_new = record {
    base_below = (let base = ready.base in omega (arith, base));
    fence_least = fence-least entries t.newest.snapshot t.newest.id bounds ready.newest.id t.intent ready.may_raise old.fence;
    fence_below = fence-below entries t.newest.snapshot t.newest.id bounds ready.newest.id t.intent ready.may_raise;
    appends_within = appends-within entries t.newest.snapshot t.newest.id bounds ready.newest.id t.intent;
    full_within = full-within t.newest.snapshot t.intent bounds.full ready.full;
  }

  at_y : SnapshotAt after (suc k) y
  at_y = (
    t.made.text,
    puts.here,
    subst (λ (id : ℕ). snapshot_in id t.made.text ≡ Ok y) (made.id ∙ (let id = ready.newest.id in let same : newest.id + 1 ≡ suc k = omega (arith, id) in same))
        (made.again consistent_new),
  )

  pub as-made : IsAsMade after s (suc k) t ready.made
  as-made = record {
    contents = contents;
    commit = (at_y, has);
    base = refl;
    merged = merged-have lists.base lists.base_files lists.left lists.has_base list-put.0;
    delta = refl;
    entries = delta-have;
    changelog = refl;
    changes = refl;
    live = delta-live manifests live0 (live_in contents) d.removed d.added newest.live.items old.live removed adds new all-live grown;
  }
