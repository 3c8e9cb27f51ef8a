-- The snapshot that a committer has committed where nobody else acts, as the files have it.
use Rattle.std.proofs.Common.{◌≡◌, inl, inr, ℕ, ◌+◌, Bool, true, false, List, [], ◌∷◌, ◌++◌, length, length-append, Contains}
use Rattle.std.proofs.Common.{refl, sym, ap, ◌∙◌, subst, arith}
use Rattle.std.specs.FinMap as map
use Rattle.std.proofs.lemmas.List.Elements.{Contains-append_left, Contains-append_right}
use Rattle.pm_store.specs.Files.{Files}
use Rattle.pm_model_history.specs.History.{Entry, History, IsTableOf, append, compaction, no_table, table}
use Rattle.pm_schema.specs.declared.schema.TableSchema.{TableSchema}
use Rattle.pm_snapshot.specs.declared.snapshot.Snapshot.{Snapshot}
use Rattle.pm_manifest.specs.declared.entry.Entry as files
use Rattle.pm_manifest.specs.declared.entry.ManifestMeta.{ManifestMeta}
use Rattle.pm_model_contents.specs.Lists.{HaveEntries, IsManifest, manifest_path}
use Rattle.pm_model_contents.specs.Named as named
use Rattle.pm_model_contents.specs.Named.{Contents, IsNamed}
use Rattle.pm_model_folder.specs.Commits.{HasCommit}
use Rattle.pm_model_folder.specs.Ledger.{Past, Stands, count_of}
use Rattle.pm_model_folder.specs.Meaning.{HasSnapshotAt}
use Rattle.pm_model_folder.specs.Paths.{snapshot_path}
use Rattle.pm_model_folder.proofs.LedgerFacts.{at-table}
use Rattle.pm_model_folder.proofs.HoldLemmas.{SameContents}
use Rattle.pm_made.specs.Delta.{entries_of}
use Rattle.pm_made.specs.Files.{delta_of_plan, merges}
use Rattle.pm_made.specs.Snapshot.{new_snapshot}
use Rattle.pm_made.specs.declared.intent.Intent.TheVariants as intents
use Rattle.pm_made.specs.declared.intent.Plan.{Plan}
use Rattle.pm_made.specs.declared.newest.Author.{Author}
use Rattle.pm_made.specs.declared.newest.Newest.{Newest}
use Rattle.pm_append.specs.Commit.{AreBaseIf, HasAppended}
use Rattle.pm_append.specs.Snapshot.{append_snapshot}
use Rattle.pm_compaction.specs.Compacted.{HasCompacted}
use Rattle.pm_commit.specs.AllCalls.{BearsCommit, StoodSo}
use Rattle.pm_commit.specs.Alone.{Beginning, SeesNewest, begun_at, newest_id, with_entry}
use Rattle.pm_commit.specs.Meaning.{BearsAdded, HasCommitted}
use Rattle.pm_commit.proofs.FoundLemmas.{LiveEntries, found-stood}
use Rattle.pm_commit.proofs.NewestLemmas.{newest-at}

-- ---- files that have the same contents at the paths that a snapshot names

-- manifests have the same entries
manifest-held : (f g : Files) (s : TableSchema) (meta : ManifestMeta) (es : List files.Entry)
    → map.get g (manifest_path meta.name) ≡ map.get f (manifest_path meta.name) → IsManifest f s meta.name es → IsManifest g s meta.name es
manifest-held f g s meta es held is = record { bytes = is.bytes; there = held ∙ is.there; read = is.read }

entries-held : (f g : Files) (s : TableSchema) (metas : List ManifestMeta) (es : List files.Entry)
    → ((meta : ManifestMeta) → Contains metas meta → map.get g (manifest_path meta.name) ≡ map.get f (manifest_path meta.name))
    → HaveEntries f s metas es → HaveEntries g s metas es
entries-held f g s [] es held none = none
entries-held f g s (meta ∷ metas) es held (own, later, split, is, have) = (
  own,
  later,
  split,
  manifest-held f g s meta own (held meta (0, omega arith, refl)) is,
  entries-held f g s metas later (λ m h. held m (Contains-append_right (meta ∷ []) metas m h)) have,
)

base-held : (f g : Files) (s : TableSchema) (newest : Newest) (b : Bool) (metas : List ManifestMeta)
    → ((meta : ManifestMeta) → Contains metas meta → map.get g (manifest_path meta.name) ≡ map.get f (manifest_path meta.name))
    → AreBaseIf b f s newest metas → AreBaseIf b g s newest metas
base-held f g s newest false metas held is = is
base-held f g s newest true [] held none = none
base-held f g s newest true (meta ∷ []) held (some, is) = (some, manifest-held f g s meta newest.live.items (held meta (0, omega arith, refl)) is)
base-held f g s newest true (meta ∷ other ∷ metas) held is = absurd is

-- so the snapshot is there in both
appended-held : SameContents → (f g : Files) (s : TableSchema) (newest : Newest) (author : Author) (count : ℕ)
    → (has : HasAppended f s newest author count)
    → ((path : List ℕ) → (path ≡ snapshot_path (newest.id + 1)) → map.get g path ≡ map.get f path)
    → ((path : List ℕ) → IsNamed s (append_snapshot s newest author has.added has.contents.changes has.lists) has.contents path → map.get g path ≡ map.get f path)
    → HasAppended g s newest author count
appended-held same f g s newest author count has own held =
    let x : Snapshot = append_snapshot s newest author has.added has.contents.changes has.lists in
    let c : Contents = has.contents in
    let at : (meta : ManifestMeta) → Contains (c.base ++ c.delta) meta → map.get g (manifest_path meta.name) ≡ map.get f (manifest_path meta.name) =
    λ meta h. held (manifest_path meta.name) (named.manifest meta (inl h)) in
    record {
      added = has.added;
      lists = has.lists;
      contents = c;
      commit = (
        (has.commit.0.0, own (snapshot_path (newest.id + 1)) refl ∙ has.commit.0.1, has.commit.0.2),
        same f g s x c held has.commit.1,
      );
      base = base-held f g s newest (merges s newest.manifests.items) c.base (λ meta h. at meta (Contains-append_left c.base c.delta meta h)) has.base;
      delta = entries-held f g s c.delta has.added (λ meta h. at meta (Contains-append_right c.base c.delta meta h)) has.delta;
      adds = has.adds;
      few = has.few;
      tells = has.tells;
      quiet = has.quiet;
    }

-- of a compaction
compacted-held : SameContents → (f g : Files) (s : TableSchema) (newest : Newest) (author : Author) (plan : Plan)
    → (has : HasCompacted f s newest author plan)
    → ((path : List ℕ) → (path ≡ snapshot_path (newest.id + 1)) → map.get g path ≡ map.get f path)
    → ((path : List ℕ) → IsNamed s (new_snapshot s newest author (intents.Compact plan) (delta_of_plan plan) has.lists) has.contents path
    → map.get g path ≡ map.get f path)
    → HasCompacted g s newest author plan
compacted-held same f g s newest author plan has own held =
    let x : Snapshot = new_snapshot s newest author (intents.Compact plan) (delta_of_plan plan) has.lists in
    let c : Contents = has.contents in
    let at : (meta : ManifestMeta) → Contains (c.base ++ c.delta) meta → map.get g (manifest_path meta.name) ≡ map.get f (manifest_path meta.name) =
    λ meta h. held (manifest_path meta.name) (named.manifest meta (inl h)) in
    record {
      lists = has.lists;
      contents = c;
      commit = (
        (has.commit.0.0, own (snapshot_path (newest.id + 1)) refl ∙ has.commit.0.1, has.commit.0.2),
        same f g s x c held has.commit.1,
      );
      kept = has.kept;
      merged = λ enough. (
        entries-held f g s c.base newest.live.items (λ meta h. at meta (Contains-append_left c.base c.delta meta h)) (has.merged enough).0,
        (has.merged enough).1,
      );
      delta = entries-held f g s c.delta (entries_of (delta_of_plan plan)) (λ meta h. at meta (Contains-append_right c.base c.delta meta h)) has.delta;
      live = has.live;
      tells = has.tells;
      unlisted = has.unlisted;
    }

pub added-held : SameContents → (f g : Files) (s : TableSchema) (newest : Newest) (author : Author) (e : Entry) → BearsAdded f s newest author e
    → ((path : List ℕ) → (path ≡ snapshot_path (newest.id + 1)) → map.get g path ≡ map.get f path)
    → ((x : Snapshot) (c : Contents) (path : List ℕ) → HasCommit f s (newest.id + 1) x c → IsNamed s x c path → map.get g path ≡ map.get f path)
    → BearsAdded g s newest author e
added-held same f g s newest author (append user identifier rows) (same_user, same_identifier, has) own held = (
  same_user,
  same_identifier,
  appended-held same f g s newest author (length rows) has own
      (λ path names. held (append_snapshot s newest author has.added has.contents.changes has.lists) has.contents path has.commit names),
)
added-held same f g s newest author (compaction base groups) (plan, same_base, same_groups, has) own held = (
  plan,
  same_base,
  same_groups,
  compacted-held same f g s newest author plan has own
      (λ path names. held (new_snapshot s newest author (intents.Compact plan) (delta_of_plan plan) has.lists) has.contents path has.commit names),
)
added-held same f g s newest author other has own held = absurd has

-- ---- at the end of a commit

-- of a history with an entry more
table-before : (s : TableSchema) (e : Entry) (h : History) → IsTableOf s (with_entry e h) → IsTableOf s h
table-before s e no_table is = is
table-before s e (table t es) is = is

count-more : (s : TableSchema) (e : Entry) (h : History) → IsTableOf s h → count_of (with_entry e h) ≡ count_of h + 1
count-more s e no_table is = absurd is
count-more s e (table t es) is = length-append es (e ∷ [])

module _ (same : SameContents) (live_law : LiveEntries) (b : Beginning) (f : Files) (p : Past) (stands : Stands f p) (so : StoodSo b p)
    (now : p.history ≡ with_entry b.entry b.history) (id : ℕ) (next : id ≡ newest_id b + 1) (has : HasCommitted (begun_at b).author b.entry id p) where
  abbrev s : TableSchema
  s = has.found.schema

  abbrev newest : Newest
  newest = has.found.newest

  newest-is : newest.id ≡ newest_id b
  newest-is = let one = has.next in let two = next in omega (arith, one, two)

  was-table : IsTableOf s b.history
  was-table = table-before s b.entry b.history (subst (IsTableOf s) now has.is_table)

  -- the newest snapshot was found as it was at the beginning
  sees : SeesNewest b has.found
  sees = record {
    is_table = was-table;
    id = newest-is;
    as_is = found-stood live_law f b.files p has.found stands has.is_found (λ id known is. so id known (let last = newest-is in omega (arith, is, last)));
  }

  -- the snapshot after it is there
  here : HasSnapshotAt f s id
  here = subst (HasSnapshotAt f s) (ap count_of now ∙ count-more s b.entry b.history was-table ∙ sym next) (newest-at f p s stands has.is_table)

  pub bears-commit : BearsCommit b f
  bears-commit =
      let kept = ((at-table f p s stands has.is_table).3.kept id has.known).there here in (
        has.found,
        sees,
        added-held same (p.stood id) f s newest (begun_at b).author b.entry has.stood (λ path is. kept path (inl (is ∙ ap snapshot_path (sym has.next))))
            (λ x c path commit names. kept path
            (inr (inr (x, c, subst (λ (n : ℕ). HasCommit (p.stood id) s n x c) (sym has.next) commit, names)))),
      )
