-- What the views say that an expirer reads where nobody else acts: each names what the snapshot names.
use Rattle.std.proofs.Common.{◌≡◌, ◌↔◌, inl, inr, ℕ, ◌+◌, ◌<◌, ◌≤◌, List, [], ◌∷◌, ◌++◌, Contains, length, Option, Some, refl, sym, ap, ◌∙◌, subst, arith}
use Rattle.std.specs.FinMap as map
use Rattle.std.proofs.lemmas.Bool.{cases_lt}
use Rattle.std.proofs.lemmas.List.{append-nil}
use Rattle.pm_base.proofs.Laws.{AllByRecursion-parts}
use Rattle.pm_store.specs.Files.{Files}
use Rattle.pm_machine.specs.Trace.{Event}
use Rattle.pm_schema.specs.declared.schema.TableSchema.{TableSchema}
use Rattle.pm_snapshot.specs.declared.snapshot.Snapshot.{Snapshot}
use Rattle.pm_manifest.specs.declared.entry.Entry.{Entry}
use Rattle.pm_manifest.specs.declared.entry.ManifestMeta.{ManifestMeta}
use Rattle.pm_model_contents.specs.Lists.{HasChangelog, HasEntries, HaveEntries, IsList, manifest_path}
use Rattle.pm_model_contents.specs.Named.{Contents, IsNamed}
use Rattle.pm_model_folder.specs.Commits.{HasCommit, Names}
use Rattle.pm_model_folder.specs.Meaning.{SnapshotAt}
use Rattle.pm_model_folder.specs.Paths.{snapshot_path}
use Rattle.pm_model_folder.proofs.HoldLemmas.{OneContents, one-commit, one-snapshot}
use Rattle.pm_read_schema.proofs.StillLemmas.{AreStill, AreTold, IsTold, told_last}
use Rattle.pm_snapshots.proofs.AllCallsLemmas.{still_append}
use Rattle.pm_read_table.specs.Asked.{Asked}
use Rattle.pm_read_table.specs.Named.{named_paths, parts_of}
use Rattle.pm_read_table.specs.Reader.{IsListOf}
use Rattle.pm_read_table.specs.Trace.{Has, HasBase, HasDelta, HasView, HaveRead, of_origin, of_snapshot, read_file}
use Rattle.pm_read_table.specs.View.{live_entries}
use Rattle.pm_read_table.specs.declared.view.View.{View}
use Rattle.pm_read_table.proofs.NamedLemmas.{named_exactly}
use Rattle.pm_read_log.specs.Log.{LogAskedView, log_asked_of}
use Rattle.pm_read_log.specs.LogTrace as log
use Rattle.pm_read_log.specs.LogTrace.{HasLog, of_list, without}
use Rattle.pm_read_log.specs.declared.log.Log.{Log}
use Rattle.pm_read_whole.specs.Trace as whole
use Rattle.pm_read_whole.specs.Trace.{read_first, view_asked}
use Rattle.pm_read_whole.specs.Whole.{IsReady, paths_of}
use Rattle.pm_read_whole.specs.declared.phase.Phase as whole_phase
use Rattle.pm_read_whole.specs.declared.phase.Phase.TheVariants as wholes
use Rattle.pm_expire_paths.specs.Dropping.{Adds, AreDropped, DroppingView, IsSeen}
use Rattle.pm_announce.specs.declared.phase.Announced.{Announced}
use Rattle.pm_expire.specs.Expirer.{AreNone}
use Rattle.pm_expire.specs.Trace.{HaveViews}
use Rattle.pm_expire.proofs.ViewStillLemmas.{whole_still}

told_parts : (g : Files) (own more : List Event) → AreTold g (own ++ more) → AreTold g own × AreTold g more
told_parts g own more told = AllByRecursion-parts (IsTold g) own more told

-- ---- one view

-- the answers are of files that have the snapshots and the manifests of others
module _ (one : OneContents) (f g : Files) (s : TableSchema) (snapshots : (id : ℕ) → map.get g (snapshot_path id) ≡ map.get f (snapshot_path id))
    (manifests : (name : List ℕ) → map.get g (manifest_path name) ≡ map.get f (manifest_path name)) (id : ℕ) (least : 1 ≤ id) where
  abbrev a : LogAskedView
  a = log_asked_of s id

  abbrev asked : Asked
  asked = view_asked a

  record At (x : Snapshot) : Type 0 where
    is : x.id ≡ id
    there : SnapshotAt f id x

  has_at : (x : Snapshot) (own : List Event) → Has asked x own → AreTold g own → At x
  has_at x own (bytes, after, reads, schema, (earlier, (same, none), is)) told =
      let parts = told_last g earlier (read_file (snapshot_path x.id) (Some bytes)) (subst (AreTold g) is told) in
      let at : Some bytes ≡ map.get f (snapshot_path x.id) = parts.1 ∙ snapshots x.id in
      record { is = same; there = subst (λ (n : ℕ). SnapshotAt f n x) same (bytes, sym at, reads) }

  list_at : (name bytes : List ℕ) (metas : List ManifestMeta) → IsListOf (manifest_path name) bytes metas → Some bytes ≡ map.get g (manifest_path name)
      → IsList f name metas
  list_at name bytes metas reads told = record { bytes = bytes; there = sym (told ∙ manifests name); read = reads }

  base_at : (x : Snapshot) (base : List ManifestMeta) (own : List Event) → HasBase asked x base own → AreTold g own → At x × IsList f x.base_list base
  base_at x base own (bytes, reads, (earlier, has, is)) told =
      let parts = told_last g earlier (read_file (manifest_path x.base_list) (Some bytes)) (subst (AreTold g) is told) in
      (has_at x earlier has parts.0, list_at x.base_list bytes base reads parts.1)

  delta_at : (x : Snapshot) (base delta : List ManifestMeta) (own : List Event) → HasDelta asked x base delta own → AreTold g own
      → At x × IsList f x.base_list base × IsList f x.delta_list delta
  delta_at x base delta own (bytes, reads, (earlier, has, is)) told =
      let parts = told_last g earlier (read_file (manifest_path x.delta_list) (Some bytes)) (subst (AreTold g) is told) in
      let at = base_at x base earlier has parts.0 in
      (at.0, at.1, list_at x.delta_list bytes delta reads parts.1)

  manifests_at : (metas : List ManifestMeta) (es : List Entry) (own : List Event) → HaveRead s metas es own → AreTold g own → HaveEntries f s metas es
  manifests_at [] es own (none, is) told = none
  manifests_at (meta ∷ metas) es own (bytes, first, later, events, reads, split, is, rest) told =
      let parts : (Some bytes ≡ map.get g (manifest_path meta.name)) × AreTold g events = subst (AreTold g) is told in
      (first, later, split, record { bytes = bytes; there = sym (parts.0 ∙ manifests meta.name); read = reads }, manifests_at metas later events rest parts.1)

  -- what a view says of its snapshot
  record Viewed (v : View) : Type 0 where
    snapshot : Snapshot
    at : At snapshot
    base : List ManifestMeta
    delta : List ManifestMeta
    entries : List Entry
    has : HasEntries f s snapshot base delta entries
    manifests_are : v.manifests.items ≡ base ++ delta
    live : v.live.items ≡ live_entries entries

  view_at : (v : View) (own : List Event) → HasView asked v own → AreTold g own → Viewed v
  view_at v own (of_origin bytes view (earlier, (same, none), is)) told = absurd (omega (arith, same, least))
  view_at v own (of_snapshot x metas entries live part leaves view) told =
      let halves = told_parts g part.lists part.reads (subst (AreTold g) part.is told) in
      let lists = delta_at x part.base part.delta part.lists part.listed halves.0 in
      let whole : part.base ++ part.delta ≡ metas = part.parts ∙ append-nil metas in
      record {
        snapshot = x;
        at = lists.0;
        base = part.base;
        delta = part.delta;
        entries = entries;
        has = record {
          base_list = lists.1;
          delta_list = lists.2;
          have = subst (λ (ms : List ManifestMeta). HaveEntries f s ms entries) (sym whole) (manifests_at metas entries part.reads part.read halves.1);
          order = part.order;
        };
        manifests_are = view.manifests ∙ sym whole;
        live = view.entries;
      }

  -- and its changelog
  record Logged (l : Log) : Type 0 where
    snapshot : Snapshot
    there : SnapshotAt f id snapshot
    changelog : HasChangelog f s snapshot.changelog_list l.manifests.items l.changes.items
    schema : l.schema ≡ s
    is : l.snapshot ≡ snapshot

  log_has_at : (y : Snapshot) (own : List Event) → log.Has a y own → AreTold g own → SnapshotAt f id y
  log_has_at y own (bytes, reads, schema, is) told =
      let at : Some bytes ≡ map.get g (snapshot_path id) = (subst (AreTold g) is told).0 in
      (bytes, sym (at ∙ snapshots id), reads)

  log_found_at : (y : Snapshot) (list bytes : List ℕ) (metas : List ManifestMeta) (own : List Event) → IsListOf (manifest_path list) bytes metas
      → log.FindsList a y list (Some bytes) own → AreTold g own → SnapshotAt f id y × (y.changelog_list ≡ Some list) × IsList f list metas
  log_found_at y list bytes metas own reads (earlier, (has, named), is) told =
      let parts = told_last g earlier (read_file (manifest_path list) (Some bytes)) (subst (AreTold g) is told) in
      (log_has_at y earlier has parts.0, named, list_at list bytes metas reads parts.1)

  log_at : (l : Log) (own : List Event) → HasLog a l own → AreTold g own → Logged l
  log_at l own (without y none has view) told = record {
    snapshot = y;
    there = log_has_at y own has told;
    changelog = subst (λ (o : Option (List ℕ)). HasChangelog f s o l.manifests.items l.changes.items) (sym none) (view.manifests, view.entries);
    schema = view.schema;
    is = view.snapshot;
  }
  log_at l own (of_list y metas changes part view) told =
      let halves = told_parts g part.lists part.reads (subst (AreTold g) part.is told) in
      let found = log_found_at y part.list part.bytes metas part.lists
      (subst (λ (ms : List ManifestMeta). IsListOf (manifest_path part.list) part.bytes ms) (append-nil metas) part.listed) part.found halves.0 in
      let have = manifests_at metas changes part.reads part.read halves.1 in
      let all : HasChangelog f s (Some part.list) metas changes = (found.2, have, part.each) in
      let of_items : HasChangelog f s (Some part.list) l.manifests.items l.changes.items =
      subst (λ (ms : List ManifestMeta). HasChangelog f s (Some part.list) ms l.changes.items) (sym view.manifests)
      (subst (λ (es : List Entry). HasChangelog f s (Some part.list) metas es) (sym view.entries) all) in
      record {
        snapshot = y;
        there = found.0;
        changelog = subst (λ (o : Option (List ℕ)). HasChangelog f s o l.manifests.items l.changes.items) (sym found.1) of_items;
        schema = view.schema;
        is = view.snapshot;
      }

  named_of : (x : Snapshot) (c : Contents) (path : List ℕ) → HasCommit f s id x c
      → Contains (named_paths s x (parts_of (c.base ++ c.delta) (live_entries c.entries) c.changelog c.changes)) path ↔ Names f s id path
  named_of x c path commit =
      let exact = named_exactly s x c path in (
        (λ found. (x, c, commit, exact.0 found)),
        (λ named.
            let (y, d, other, is) = named in
            let both = one-commit one f s id y x d c other commit in
            exact.1 (subst (λ (c : Contents). IsNamed s x c path) both.1 (subst (λ (y : Snapshot). IsNamed s y d path) both.0 is))),
      )

  paths_same : (v : View) (l : Log) (x : Snapshot) (base delta : List ManifestMeta) (entries : List Entry) → l.schema ≡ s → l.snapshot ≡ x
      → v.manifests.items ≡ base ++ delta → v.live.items ≡ live_entries entries
      → named_paths s x (parts_of (base ++ delta) (live_entries entries) l.manifests.items l.changes.items) ≡ paths_of (wholes.Ready v l)
  paths_same v l x base delta entries schema snapshot manifests live =
      let ms = l.manifests.items in
      let es = l.changes.items in
      sym (ap (λ (t : TableSchema). named_paths t l.snapshot (parts_of v.manifests.items v.live.items ms es)) schema
      ∙ ap (λ (y : Snapshot). named_paths s y (parts_of v.manifests.items v.live.items ms es)) snapshot
      ∙ ap (λ (metas : List ManifestMeta). named_paths s x (parts_of metas v.live.items ms es)) manifests
      ∙ ap (λ (own : List Entry). named_paths s x (parts_of (base ++ delta) own ms es)) live)

  both_named : (v : View) (l : Log) (path : List ℕ) → Viewed v → Logged l → Contains (paths_of (wholes.Ready v l)) path ↔ Names f s id path
  both_named v l path view logged =
      let x : Snapshot = view.snapshot in
      let same : logged.snapshot ≡ x = one-snapshot f id logged.snapshot x logged.there view.at.there in
      let ms = l.manifests.items in
      let es = l.changes.items in
      let c : Contents = record { base = view.base; delta = view.delta; entries = view.entries; changelog = ms; changes = es } in
      let commit : HasCommit f s id x c = (
        view.at.there,
        record { table = view.has; changelog = subst (λ (y : Snapshot). HasChangelog f s y.changelog_list ms es) same logged.changelog },
      ) in
      subst (λ (paths : List (List ℕ)). Contains paths path ↔ Names f s id path)
      (paths_same v l x view.base view.delta view.entries logged.schema (logged.is ∙ same) view.manifests_are view.live) (named_of x c path commit)

  pub viewed : (m : whole_phase.Phase) (own : List Event) (path : List ℕ) → IsReady m → whole.Did a m own → AreTold g own
      → Contains (paths_of m) path ↔ Names f s id path
  viewed (wholes.Ready v l) own path ready follows told =
      let first = read_first a follows.bytes in
      let parts = told_parts g (first ∷ follows.rest) follows.later (subst (AreTold g) follows.is told) in
      both_named v l path (view_at v (first ∷ follows.rest) follows.viewed.0 parts.0) (log_at l (first ∷ follows.later) follows.logged (parts.0.0, parts.1))
  viewed (wholes.View r) own path ready did told = absurd ready
  viewed (wholes.Log v r) own path ready did told = absurd ready
  viewed wholes.Over own path ready did told = absurd ready

-- ---- one after another

pub views_still : (n : Announced) (id : ℕ) (d : DroppingView) (read : List whole_phase.Phase) (e : DroppingView) (own : List Event) → HaveViews n id d read e own
    → AreStill own
views_still n id d [] e own (same, none) = subst AreStill (sym none) tt
views_still n id d (m ∷ read) e own (next, first, rest, ready, did, adds, more, is) =
    subst AreStill (sym is)
    (still_append first rest (whole_still (log_asked_of n.found.schema id) m first ready did) (views_still n (id + 1) next read e rest more))

-- the views of the snapshots from the first up to below an id were added, that of the one before the id as the last
pub record AreSeen (f : Files) (s : TableSchema) (first id : ℕ) (d : DroppingView) : Type 0 where
  pub seen : (path : List ℕ) → IsSeen d path ↔ ((k : ℕ) × (first ≤ k) × (k < id) × Names f s k path)
  pub kept : (last : ℕ) → last + 1 ≡ id → first ≤ last → (path : List ℕ) → Contains d.kept path ↔ Names f s last path

module _ (f : Files) (s : TableSchema) (first : ℕ) where
  pub none_seen : (d : DroppingView) → AreNone d → AreSeen f s first first d
  none_seen d none = record {
    seen = λ path. (λ seen. absurd (unseen path seen), λ named. absurd (lacks path named));
    kept = λ last is within. absurd (omega (arith, is, within));
  }
    where
      unseen : (path : List ℕ) → IsSeen d path → ⊥
      unseen path (inl gone) = none.gone path gone
      unseen path (inr kept) = none.kept path kept

      lacks : (path : List ℕ) → ((k : ℕ) × (first ≤ k) × (k < first) × Names f s k path) → ⊥
      lacks path (k, from, to, named) = omega (arith, from, to)

  module _ (id : ℕ) (from : first ≤ id) (d e : DroppingView) (paths : List (List ℕ)) (exact : (path : List ℕ) → Contains paths path ↔ Names f s id path)
      (adds : Adds d paths e) (were : AreSeen f s first id d) where
    abbrev Seen : ℕ → List ℕ → Type 0
    Seen end path = (k : ℕ) × (first ≤ k) × (k < end) × Names f s k path

    now_seen : (path : List ℕ) → IsSeen e path → Seen (id + 1) path
    now_seen path seen = elim ((adds.seen path).0 seen) as (λ _. Seen (id + 1) path) [
      | inl before ↦ (let (k, after, below, named) = (were.seen path).0 before in (k, after, omega (arith, below), named))
      | inr among ↦ (id, from, omega arith, (exact path).0 among)
    ]

    was_seen : (path : List ℕ) (k : ℕ) → first ≤ k → k < id → Names f s k path → IsSeen e path
    was_seen path k after below named = (adds.seen path).1 (inl ((were.seen path).1 (k, after, below, named)))

    is_seen : (path : List ℕ) → Seen (id + 1) path → IsSeen e path
    is_seen path (k, after, within, named) = elim (cases_lt k id) as (λ _. IsSeen e path) [
      | inl below ↦ was_seen path k after below named
      | inr above ↦ (adds.seen path).1 (inr ((exact path).1 (subst (λ (k : ℕ). Names f s k path) (let same : k ≡ id = omega (arith, within, above) in same) named)))
    ]

    pub one_seen : AreSeen f s first (id + 1) e
    one_seen = record {
      seen = λ path. (now_seen path, is_seen path);
      kept = λ last is within path.
          let same : id ≡ last = omega (arith, is) in
          subst (λ (k : ℕ). Contains e.kept path ↔ Names f s k path) same (
            (λ among. (exact path).0 ((adds.kept path).0 among)),
            (λ named. (adds.kept path).1 ((exact path).1 named)),
          );
    }

-- what is dropped once the view of the end was added
module _ (f : Files) (s : TableSchema) (first end : ℕ) (d : DroppingView) (dropped : List (List ℕ)) (within : first ≤ end) (are : AreSeen f s first (end + 1) d)
    (is : AreDropped d dropped) (path : List ℕ) where
  abbrev Went : Type 0
  Went = (id : ℕ) × (first ≤ id) × (id < end) × Names f s id path × (Names f s end path → ⊥)

  kept_last : Contains d.kept path ↔ Names f s end path
  kept_last = are.kept end refl within path

  went_before : (id : ℕ) → first ≤ id → id < end + 1 → Names f s id path → (Names f s end path → ⊥) → Went
  went_before id after below named lacks = elim (cases_lt id end) as (λ _. Went) [
    | inl less ↦ (id, after, less, named, lacks)
    | inr above ↦ absurd (lacks (subst (λ (k : ℕ). Names f s k path) (let same : id ≡ end = omega (arith, below, above) in same) named))
  ]

  went : Contains dropped path → Went
  went among =
      let parts = (is.exact path).0 among in
      let (id, after, below, named) = (are.seen path).0 (inl parts.0) in
      went_before id after below named (λ last. parts.1 (kept_last.1 last))

  gone_of : IsSeen d path → (Names f s end path → ⊥) → Contains d.gone path
  gone_of (inl gone) lacks = gone
  gone_of (inr among) lacks = absurd (lacks (kept_last.0 among))

  goes : Went → Contains dropped path
  goes (id, after, below, named, lacks) =
      (is.exact path).1 (gone_of ((are.seen path).1 (id, after, omega (arith, below), named)) lacks, λ among. lacks (kept_last.0 among))

  pub dropped_named : Contains dropped path ↔ Went
  dropped_named = (went, goes)

-- all views up to below an end were added
module _ (one : OneContents) (f g : Files) (n : Announced) (snapshots : (id : ℕ) → map.get g (snapshot_path id) ≡ map.get f (snapshot_path id))
    (manifests : (name : List ℕ) → map.get g (manifest_path name) ≡ map.get f (manifest_path name)) (first : ℕ) (after_origin : 1 ≤ first) where
  pub views_seen : (id end : ℕ) (d : DroppingView) (read : List whole_phase.Phase) (e : DroppingView) (own : List Event) → first ≤ id → id + length read ≡ end
      → HaveViews n id d read e own → AreTold g own → AreSeen f n.found.schema first id d → AreSeen f n.found.schema first end e
  views_seen id end d [] e own within count (same, none) told were =
      let there : id ≡ end = omega (arith, count) in
      subst (λ (e : DroppingView). AreSeen f n.found.schema first end e) (sym same) (subst (λ (k : ℕ). AreSeen f n.found.schema first k d) there were)
  views_seen id end d (m ∷ read) e own within count (next, events, rest, ready, did, adds, more, is) told were =
      let parts = told_parts g events rest (subst (AreTold g) is told) in
      let exact = λ (path : List ℕ). viewed one f g n.found.schema snapshots manifests id (omega (arith, after_origin, within)) m events path ready did parts.0 in
      let now = one_seen f n.found.schema first id within d next (paths_of m) exact adds were in
      views_seen (id + 1) end next read e rest (omega (arith, within)) (omega (arith, count)) more parts.1 now
