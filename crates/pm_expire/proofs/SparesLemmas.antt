-- Nobody who reads a snapshot from an end on, or a consumer, needs what goes with the snapshots below it.
use Rattle.std.proofs.Common.{◌≡◌, ◌≢◌, inl, inr, ℕ, zero, suc, ◌<◌, ◌≤◌, List, Contains, Some, refl, sym, ap, ◌∙◌, subst, arith, codes}
use Rattle.std.specs.FinMap as map
use Rattle.std.proofs.lemmas.Bool.{cases_lt}
use Rattle.std.proofs.lemmas.List.{append_cancel_left}
use Rattle.std.proofs.lemmas.List.Elements.{Contains-append_left}
use Rattle.pm_store.specs.Files.{Files}
use Rattle.pm_remove.specs.Meaning.{HasLost}
use Rattle.pm_schema.specs.Folder.{folder_text}
use Rattle.pm_schema.specs.declared.schema.TableSchema.{TableSchema}
use Rattle.pm_snapshot.specs.Names.{greatest, snapshot_name}
use Rattle.pm_snapshot.specs.declared.snapshot.Snapshot.{Snapshot}
use Rattle.pm_model_contents.specs.Named.{Contents, IsNamed, base_list, changelog_list, changes_file, data_file, delta_list, manifest}
use Rattle.pm_model_history.specs.History.{Entry}
use Rattle.pm_model_folder.specs.Changes.{HavePlainNames, IsSnapshotPath, IsTablePath, bucket, manifests}
use Rattle.pm_model_folder.specs.Commits.{Names, Needs}
use Rattle.pm_model_folder.specs.Folder.{HasTable}
use Rattle.pm_model_folder.specs.Meaning.{HasSnapshotAt}
use Rattle.pm_model_folder.specs.Paths.{consumer_path, snapshot_file, snapshot_path}
use Rattle.pm_model_folder.proofs.BesideLemmas.{consumer-table, floor-consumer, needs-no_floor, needs-other, schema-table, snapshot-table}
use Rattle.pm_model_folder.proofs.PathLemmas.{consumer-snapshot, other-snapshot, snapshot-schema}
use Rattle.pm_expire.specs.AllCalls.{announced, AreRemovalsOf, HasGivenBack, IsFirst, IsGivenBack, SparesFrom, its_file, its_floor, its_snapshot}
use Rattle.pm_expire.proofs.AnnouncedLemmas as floors
use Rattle.pm_expire.proofs.GivenBackLemmas.{goes, named_there}

-- ---- what a snapshot names is in a folder of such files

named-table : (s : TableSchema) (x : Snapshot) (c : Contents) (path : List ℕ) → HavePlainNames s → IsNamed s x c path → IsTablePath path
named-table s x c path plain base_list = record { folder = codes "manifest"; name = x.base_list; own = manifests; is = refl }
named-table s x c path plain delta_list = record { folder = codes "manifest"; name = x.delta_list; own = manifests; is = refl }
named-table s x c path plain (changelog_list name is) = record { folder = codes "manifest"; name = name; own = manifests; is = refl }
named-table s x c path plain (manifest meta listed) = record { folder = codes "manifest"; name = meta.name; own = manifests; is = refl }
named-table s x c path plain (data_file e live) = record { folder = folder_text s e.group; name = e.file.name; own = bucket s e.group plain; is = refl }
named-table s x c path plain (changes_file e there) = record { folder = folder_text s e.group; name = e.file.name; own = bucket s e.group plain; is = refl }

names-table : (f : Files) (s : TableSchema) (id : ℕ) (path : List ℕ) → HavePlainNames s → Names f s id path → IsTablePath path
names-table f s id path plain (x, c, has, named) = named-table s x c path plain named

same-name : (name : List ℕ) (id : ℕ) → snapshot_file name ≡ snapshot_path id → name ≡ snapshot_name id
same-name name id e = append_cancel_left (codes "snapshot/") name (snapshot_name id) e

-- ---- a snapshot from the end on

module _ (f : Files) (s : TableSchema) (entries : List Entry) (table : HasTable f s entries) (plain : HavePlainNames s) (end : ℕ) where
  module _ (id : ℕ) (after : 1 ≤ id) (from : end ≤ id) (high : id ≤ greatest) (there : HasSnapshotAt f s id) where
    -- no snapshot's file below the end is needed
    snapshot-apart : (k : ℕ) (path : List ℕ) → k < end → IsSnapshotPath s k path → path ≢ snapshot_path id
    snapshot-apart zero path below (name, named, is) e =
        table.schema.origin id high (named ∙ ap (λ (n : List ℕ). Some n) (same-name name id (sym is ∙ e)))
    snapshot-apart (suc k) path below is e =
        other-snapshot (suc k) id (omega (arith, below, from, high)) high (λ (same : suc k ≡ id). omega (arith, below, from, same)) (sym is ∙ e)

    in_snapshots : (name path q : List ℕ) → q ≡ snapshot_file name → q ≢ snapshot_path id → Needs f s id path → path ≢ q
    in_snapshots name path q is other needs =
        needs-other f s id path q plain other (λ k e. snapshot-schema name k (sym is ∙ e)) (λ is_table. snapshot-table name (subst IsTablePath is is_table)) needs

    no_snapshot : (k : ℕ) (path : List ℕ) → k < end → IsSnapshotPath s k path → Needs f s id path → ⊥
    no_snapshot zero path below (name, named, is) needs =
        in_snapshots name path path is (snapshot-apart zero path below (name, named, is)) needs refl
    no_snapshot (suc k) path below is needs =
        in_snapshots (snapshot_name (suc k)) path path is (snapshot-apart (suc k) path below is) needs refl

    -- and what one below names and one from the end on too is named by that at the end
    still_named : (k : ℕ) (path : List ℕ) → 1 ≤ k → k < end → Names f s k path → Names f s id path → Names f s end path
    still_named k path some below was is = elim (cases_lt end id) as (λ _. Names f s end path) [
      | inl less ↦
          let bounds = (table.snapshots.exact k (omega (arith, below, from, high))).0 (named_there f s k path some was) in
          let top = ((table.snapshots.exact id high).0 there).1 in
          table.commits.gone k (record { after_origin = some; from = bounds.0; to = bounds.1 }) k end id path (omega arith) below less top was is
      | inr at ↦
          let same : id ≡ end = omega (arith, from, at) in
          subst (λ (n : ℕ). Names f s n path) same is
    ]

    no_file : (k : ℕ) (path : List ℕ) → 1 ≤ k → k < end → Names f s k path → (Names f s end path → ⊥) → Needs f s id path → ⊥
    no_file k path some below was none (inl own) = snapshot-table (snapshot_name id) (subst IsTablePath own (names-table f s k path plain was))
    no_file k path some below was none (inr (inl (x, at, is))) = schema-table x.schema_id (subst IsTablePath is (names-table f s k path plain was))
    no_file k path some below was none (inr (inr names)) = none (still_named k path some below was names)

    -- what it needs doesn't go
    pub stays : (path : List ℕ) → Needs f s id path → IsGivenBack s f end path → ⊥
    stays path needs (its_snapshot k below is) = no_snapshot k path below is needs
    stays path needs (its_file k some below was none) = no_file k path some below was none needs
    stays path needs (its_floor n below is) = needs-no_floor f s id path n plain needs is

    as_announced : (path : List ℕ) → Needs f s id path → map.get (announced f end) path ≡ map.get f path
    as_announced path needs = floors.others f end path (needs-no_floor f s id path end plain needs)

  -- ---- a consumer

  no_consumer : (name path : List ℕ) → path ≡ consumer_path name → IsGivenBack s f end path → ⊥
  no_consumer name path own (its_snapshot zero below (other, named, is)) = consumer-snapshot name other (sym own ∙ is)
  no_consumer name path own (its_snapshot (suc k) below is) = consumer-snapshot name (snapshot_name (suc k)) (sym own ∙ is)
  no_consumer name path own (its_file k some below was none) = consumer-table name (subst IsTablePath own (names-table f s k path plain was))
  no_consumer name path own (its_floor n below is) = floor-consumer n name (sym is ∙ own)

  consumer-announced : (name : List ℕ) → map.get (announced f end) (consumer_path name) ≡ map.get f (consumer_path name)
  consumer-announced name = floors.others f end (consumer_path name) (λ same. floor-consumer end name (sym same))

  -- ---- where nothing else changes than what goes, and the floor

  module _ (g : Files) (same : (path : List ℕ) → (IsGivenBack s f end path → ⊥) → map.get g path ≡ map.get (announced f end) path) where
    pub needs_spared : (id : ℕ) (path : List ℕ) → 1 ≤ id → id ≤ greatest → end ≤ id → HasSnapshotAt f s id → Needs f s id path → map.get g path ≡ map.get f path
    needs_spared id path after high from there needs =
        same path (stays id after from high there path needs) ∙ as_announced id after from high there path needs

    pub consumers_spared : (name : List ℕ) → map.get g (consumer_path name) ≡ map.get f (consumer_path name)
    consumers_spared name = same (consumer_path name) (no_consumer name (consumer_path name) refl) ∙ consumer-announced name

-- ---- in each image

-- of the first so many of what is to be removed nothing else goes
pub image_same : (f : Files) (s : TableSchema) (first end : ℕ) (paths : List (List ℕ)) (g : Files) → IsFirst f s first → first < end
    → AreRemovalsOf s f first end paths → HasLost (announced f end) paths g → (path : List ℕ) → (IsGivenBack s f end path → ⊥)
    → map.get g path ≡ map.get (announced f end) path
image_same f s first end paths g is_first some are has path none = has.lost.others path
    (λ c. none (goes f s first end is_first some paths are path
    (subst (λ (ps : List (List ℕ)). Contains ps path) (sym has.is) (Contains-append_left has.done has.left path c))))

-- ---- nobody finds other bytes

spared : (f : Files) (s : TableSchema) (entries : List Entry) (end : ℕ) (g : Files) → HasTable f s entries → HavePlainNames s
    → ((path : List ℕ) → (IsGivenBack s f end path → ⊥) → map.get g path ≡ map.get (announced f end) path) → SparesFrom s end f g
spared f s entries end g table plain same = record {
  needs = needs_spared f s entries table plain end g same;
  consumers = consumers_spared f s entries table plain end g same;
}

pub spares : (f : Files) (s : TableSchema) (entries : List Entry) (end : ℕ) (g : Files) → HasTable f s entries → HavePlainNames s
    → HasGivenBack s f end g → SparesFrom s end f g
spares f s entries end g table plain given = spared f s entries end g table plain given.others

pub image_spares : (f : Files) (s : TableSchema) (entries : List Entry) (first end : ℕ) (paths : List (List ℕ)) (g : Files) → HasTable f s entries
    → HavePlainNames s → IsFirst f s first → first < end → AreRemovalsOf s f first end paths → HasLost (announced f end) paths g → SparesFrom s end f g
image_spares f s entries first end paths g table plain is_first some are has =
    spared f s entries end g table plain (image_same f s first end paths g is_first some are has)
