-- What each kind of change keeps of a folder, and of what is there.
use Rattle.std.proofs.Common.{◌≡◌, ◌⊎◌, inl, inr, ℕ, suc, ◌≤◌, List, length, IsSome, refl, subst, arith}
use Rattle.std.specs.FinMap as map
use Rattle.pm_store.specs.Files.{Files}
use Rattle.pm_model_history.specs.History.{Entry, History, IsTableOf, table}
use Rattle.pm_schema.specs.declared.schema.TableSchema.{TableSchema}
use Rattle.pm_snapshot.specs.Names.{greatest}
use Rattle.pm_model_folder.specs.Changes.{Actor, Beside, Change, HavePlainNames, IsNoOrigin, beside, committed, nothing, origin_name, own_file, schema}
use Rattle.pm_model_folder.specs.Commits.{Needs}
use Rattle.pm_model_folder.specs.Folder.{Folder}
use Rattle.pm_model_folder.specs.Meaning.{HasSnapshotAt}
use Rattle.pm_model_folder.specs.Paths.{schema_path, snapshot_file, snapshot_path}
use Rattle.pm_model_folder.proofs.ExpiryLemmas.{table-kept}
use Rattle.pm_model_folder.proofs.Facts.{kept-own, kept-same, kept-schema, rows-append, table-after, there-absent}
use Rattle.pm_model_folder.proofs.GoneLemmas.{live-stays, origin-beside}
use Rattle.pm_model_folder.proofs.HoldLemmas.{ContentsStay, Holds, OneContents, SameContents}

pub kept : OneContents → ContentsStay → SameContents → (me : Actor) (f after : Files) (h later : History) → Folder f h → Change me f h after later → Folder after later
kept one stay same me f after h later folder (nothing all) = kept-same one stay f after h all folder
kept one stay same me f after h later folder (own_file path content own other absent puts) = kept-own one stay me f after h path content own other absent puts folder
kept one stay same me f after h later folder (schema s bytes there named puts reads) = kept-schema f after s bytes folder there puts reads
kept one stay same me f after h later folder (committed s entries e bytes there within absent puts fit commit own) =
    table-after one stay f after s entries _ bytes folder within absent puts commit (rows-append s entries e folder.history fit)
kept one stay same me f after h later folder (beside s entries plain change) = table-kept one same f after s entries plain folder change

-- ---- what stays

-- a change beside the history of a table
abbrev pub IsBeside : Files → History → Files → Type 0
IsBeside f h after = (s : TableSchema) × (entries : List Entry) × (h ≡ table s entries) × HavePlainNames s × Beside f s entries after

-- each other one leaves what is there
pub stays-or-beside : (me : Actor) (f after : Files) (h later : History) → Folder f h → Change me f h after later → Holds f after ⊎ IsBeside f h after
stays-or-beside me f after h later folder (nothing same) = inl (λ q there. same q)
stays-or-beside me f after h later folder (own_file path content own no_origin absent puts) = inl (λ q there. puts.others q (there-absent f q path there absent))
stays-or-beside me f after h later folder (schema s bytes origin named puts reads) =
    inl (λ q there. puts.others q (there-absent f q (schema_path 0) there (folder.schemas 0 (omega arith))))
stays-or-beside me f after h later folder (committed s entries e bytes newest within absent puts fit commit own) =
    inl (λ q there. puts.others q (there-absent f q (snapshot_path (suc (length entries))) there absent))
stays-or-beside me f after h later folder (beside s entries plain change) = inr (s, entries, refl, plain, change)

-- what a snapshot needs stays while that is there
pub needed-stays : (me : Actor) (f after : Files) (s : TableSchema) (entries : List Entry) (later : History) (id : ℕ) (q : List ℕ) → Folder f (table s entries)
    → Change me f (table s entries) after later → 1 ≤ id → id ≤ greatest → HasSnapshotAt after s id → Needs f s id q → IsSome (map.get f q) → map.get after q ≡ map.get f q
needed-stays me f after s entries later id q folder change some within here needs there =
    elim (stays-or-beside me f after (table s entries) later folder change) as (λ _. map.get after q ≡ map.get f q) [
      | inl holds ↦ holds q there
      | inr (t, es, is, plain, change) ↦
          let same : t ≡ s = subst (λ (h : History). IsTableOf s h) is refl in
          live-stays f f s es after id q (subst HavePlainNames same plain) (subst (λ (t : TableSchema). Beside f t es after) same change) some within here (λ n. n) needs
    ]

-- so does an actor's origin that isn't the table's
pub origin-stays : (me other : Actor) (f after : Files) (h later : History) → Folder f h → Change other f h after later → IsNoOrigin h (snapshot_file (origin_name me))
    → IsSome (map.get f (snapshot_file (origin_name me))) → map.get after (snapshot_file (origin_name me)) ≡ map.get f (snapshot_file (origin_name me))
origin-stays me other f after h later folder change free there =
    elim (stays-or-beside other f after h later folder change) as (λ _. map.get after (snapshot_file (origin_name me)) ≡ map.get f (snapshot_file (origin_name me))) [
      | inl holds ↦ holds (snapshot_file (origin_name me)) there
      | inr (s, entries, is, plain, change) ↦
          origin-beside me f s entries after change (subst (λ (h : History). IsNoOrigin h (snapshot_file (origin_name me))) is free)
    ]
