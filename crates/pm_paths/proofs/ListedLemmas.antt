-- The snapshots that a listing of a table's folder has.
use Rattle.std.proofs.Common.{◌≡◌, ◌↔◌, ℕ, zero, suc, ◌≤◌, List, Contains, length, IsSome, arith}
use Rattle.std.specs.FinMap as map
use Rattle.pm_store.specs.Files.{Files, IsListing}
use Rattle.pm_model_history.specs.History.{Entry, History, table}
use Rattle.pm_schema.specs.declared.schema.TableSchema.{TableSchema}
use Rattle.pm_snapshot.specs.Names.{greatest, snapshot_name}
use Rattle.pm_model_folder.specs.Folder.{Folder, HasTable}
use Rattle.pm_model_folder.specs.Meaning.{HasSnapshotAt}
use Rattle.pm_model_folder.specs.Paths.{snapshot_folder, snapshot_path}
use Rattle.pm_model_folder.proofs.Facts.{listed-snapshot, newest-there, snapshot-led}
use Rattle.pm_paths.specs.Ids.{AreIds, IsGreatestOf, IsLatest}

module _ (f : Files) (s : TableSchema) (entries : List Entry) (folder : HasTable f s entries) where
  newest_listed : (n latest : ℕ) (names : List (List ℕ)) → n ≤ greatest → HasSnapshotAt f s n → IsLatest names latest → IsListing snapshot_folder names f → n ≤ latest
  newest_listed zero latest names within there is listing = omega arith
  newest_listed (suc n) latest names within there is listing =
      is.most (suc n) within ((listing.exact (snapshot_name (suc n))).1 (snapshot-led f (suc n) within there))

  latest_there : (latest : ℕ) (names : List (List ℕ)) → IsLatest names latest → IsListing snapshot_folder names f → latest ≤ length entries
  latest_there zero names is listing = omega arith
  latest_there (suc n) names is listing =
      let led = (listing.exact (snapshot_name (suc n))).0 (is.listed (omega arith)) in
      ((folder.snapshots.exact (suc n) is.within).0 (listed-snapshot f (table s entries) (suc n) folder is.within led)).1

  -- the latest that is listed is the newest
  pub latest_is : (latest : ℕ) (names : List (List ℕ)) → IsLatest names latest → IsListing snapshot_folder names f → latest ≡ length entries
  latest_is latest names is listing =
      let up = latest_there latest names is listing in
      let down = newest_listed (length entries) latest names folder.snapshots.within (newest-there f s entries folder) is listing in
      omega (arith, up, down)

-- the ids that are listed are those of the snapshots that are there
pub ids_there : (f : Files) (h : History) (names : List (List ℕ)) (ids : List ℕ) (id : ℕ) → Folder f h → AreIds names ids → IsListing snapshot_folder names f
    → Contains ids id ↔ ((1 ≤ id) × (id ≤ greatest) × IsSome (map.get f (snapshot_path id)))
ids_there f h names ids id folder are listing = (
  λ c. (let bears = (are.exact id).0 c in
      (bears.0, bears.1, listed-snapshot f h id folder bears.1 ((listing.exact (snapshot_name id)).0 bears.2))),
  λ there. (are.exact id).1 (there.0, there.1, (listing.exact (snapshot_name id)).1 (snapshot-led f id there.1 there.2)),
)

-- the latest that is listed is the greatest of the ids
pub latest_of_ids : (names : List (List ℕ)) (ids : List ℕ) (latest : ℕ) → AreIds names ids → IsLatest names latest → IsGreatestOf ids latest
latest_of_ids names ids latest are newest = record {
  one = λ least. (are.exact latest).1 (least, newest.within, newest.listed least);
  most = λ other c. (let bears = (are.exact other).0 c in newest.most other bears.1 bears.2);
}
