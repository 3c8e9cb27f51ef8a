-- What stays where a change beside the history takes files away.
use Rattle.std.proofs.Common.{◌≡◌, ◌≢◌, ◌⊎◌, inl, inr, ℕ, zero, suc, ◌≤◌, List, Option, Some, None, IsSome, refl, sym, ap, subst, ◌∙◌, arith}
use Rattle.std.specs.FinMap as map
use Rattle.pm_store.specs.Files.{Files, Puts}
use Rattle.pm_model_history.specs.History.{Entry, table}
use Rattle.pm_schema.specs.declared.schema.TableSchema.{TableSchema}
use Rattle.pm_snapshot.specs.Names.{greatest, snapshot_name}
use Rattle.pm_model_folder.specs.Changes.{Actor, Beside, HavePlainNames, IsNoOrigin, IsSnapshotPath, IsTablePath, consumer, expired, floor, forgotten, its_origin, origin_name, removed}
use Rattle.pm_model_folder.specs.Commits.{Needs}
use Rattle.pm_model_folder.specs.Ledger.{KeepsFiles}
use Rattle.pm_model_folder.specs.Meaning.{HasSnapshotAt}
use Rattle.pm_model_folder.specs.Paths.{consumer_path, floor_path, snapshot_file, snapshot_path}
use Rattle.pm_model_folder.proofs.BesideLemmas.{floor-snapshot, needs-no_consumer, needs-no_floor, snapshot-table}
use Rattle.pm_model_folder.proofs.ExpiryLemmas.{needs-apart}
use Rattle.pm_model_folder.proofs.Facts.{same-path, some-none, there-absent}
use Rattle.pm_model_folder.proofs.HoldLemmas.{SameContents}
use Rattle.pm_model_folder.proofs.PathLemmas.{consumer-snapshot, snapshot-own}

absent-or : (o : Option (List ℕ)) → (o ≡ None) ⊎ IsSome o
absent-or None = inl refl
absent-or (Some x) = inr refl

-- where a file goes
goes-or-same : (f after : Files) (path q : List ℕ) → Puts f path None after → (map.get after q ≡ None) ⊎ (map.get after q ≡ map.get f q)
goes-or-same f after path q puts = elim (same-path q path) as (λ _. (map.get after q ≡ None) ⊎ (map.get after q ≡ map.get f q)) [
  | inl same ↦ inl (ap (map.get after) same ∙ puts.here)
  | inr other ↦ inr (puts.others q other)
]

still-absent : (f after : Files) (path q : List ℕ) → Puts f path None after → map.get f q ≡ None → map.get after q ≡ None
still-absent f after path q puts absent = elim (goes-or-same f after path q puts) as (λ _. map.get after q ≡ None) [
  | inl none ↦ none
  | inr same ↦ same ∙ absent
]

-- ---- snapshots

-- a snapshot that is absent stays so
pub gone-beside : (f : Files) (s : TableSchema) (entries : List Entry) (after : Files) (id : ℕ) → Beside f s entries after
    → map.get f (snapshot_path id) ≡ None → map.get after (snapshot_path id) ≡ None
gone-beside f s entries after id (consumer name content is_plain reads puts) absent =
    puts.others (snapshot_path id) (λ e. consumer-snapshot name (snapshot_name id) (sym e)) ∙ absent
gone-beside f s entries after id (floor k found below none puts) absent =
    puts.others (snapshot_path id) (λ e. floor-snapshot k (snapshot_name id) (sym e)) ∙ absent
gone-beside f s entries after id (forgotten k above less high there puts) absent = still-absent f after (floor_path k) (snapshot_path id) puts absent
gone-beside f s entries after id (expired least path is_least is below announced puts) absent = still-absent f after path (snapshot_path id) puts absent
gone-beside f s entries after id (removed path is_table unneeded puts) absent = still-absent f after path (snapshot_path id) puts absent

-- so one that is there was there
was-there : (f : Files) (s : TableSchema) (entries : List Entry) (after : Files) (id : ℕ) → Beside f s entries after → 1 ≤ id → HasSnapshotAt after s id → HasSnapshotAt f s id
was-there f s entries after zero change some there = absurd (omega (arith, some))
was-there f s entries after (suc k) change some there = elim (absent-or (map.get f (snapshot_path (suc k)))) as (λ _. HasSnapshotAt f s (suc k)) [
  | inl none ↦ absurd (some-none (map.get after (snapshot_path (suc k))) there (gone-beside f s entries after (suc k) change none))
  | inr here ↦ here
]

-- ---- files

-- what is there stays or goes, but for consumers' files
pub rests-or-goes : (f : Files) (s : TableSchema) (entries : List Entry) (after : Files) (q : List ℕ) → Beside f s entries after
    → ((name : List ℕ) → q ≢ consumer_path name) → IsSome (map.get f q) → (map.get after q ≡ None) ⊎ (map.get after q ≡ map.get f q)
rests-or-goes f s entries after q (consumer name content is_plain reads puts) other there = inr (puts.others q (other name))
rests-or-goes f s entries after q (floor k found below absent puts) other there = inr (puts.others q (there-absent f q (floor_path k) there absent))
rests-or-goes f s entries after q (forgotten k above less high is puts) other there = goes-or-same f after (floor_path k) q puts
rests-or-goes f s entries after q (expired least path is_least is below announced puts) other there = goes-or-same f after path q puts
rests-or-goes f s entries after q (removed path is_table unneeded puts) other there = goes-or-same f after path q puts

-- an origin that isn't the table's stays
pub origin-beside : (me : Actor) (f : Files) (s : TableSchema) (entries : List Entry) (after : Files) → Beside f s entries after
    → IsNoOrigin (table s entries) (snapshot_file (origin_name me)) → map.get after (snapshot_file (origin_name me)) ≡ map.get f (snapshot_file (origin_name me))
origin-beside me f s entries after (consumer name content is_plain reads puts) free =
    puts.others (snapshot_file (origin_name me)) (λ e. consumer-snapshot name (origin_name me) (sym e))
origin-beside me f s entries after (floor k found below absent puts) free =
    puts.others (snapshot_file (origin_name me)) (λ e. floor-snapshot k (origin_name me) (sym e))
origin-beside me f s entries after (forgotten k above less high there puts) free =
    puts.others (snapshot_file (origin_name me)) (λ e. floor-snapshot k (origin_name me) (sym e))
origin-beside me f s entries after (expired least path is_least is below announced puts) free =
    puts.others (snapshot_file (origin_name me)) (apart least is)
  where
    apart : (k : ℕ) → IsSnapshotPath s k path → snapshot_file (origin_name me) ≢ path
    apart zero (name, named, is_path) e = free name named (sym (e ∙ is_path))
    apart (suc k) is_path e = snapshot-own me (snapshot_file (origin_name me)) (suc k) (its_origin refl) (sym (e ∙ is_path))
origin-beside me f s entries after (removed path is_table unneeded puts) free =
    puts.others (snapshot_file (origin_name me)) (λ e. snapshot-table (origin_name me) (subst IsTablePath (sym e) is_table))

-- what a snapshot needs that is there stays, where it needed that before
pub live-stays : (g f : Files) (s : TableSchema) (entries : List Entry) (after : Files) (id : ℕ) (q : List ℕ) → HavePlainNames s → Beside f s entries after
    → 1 ≤ id → id ≤ greatest → HasSnapshotAt after s id → (Needs g s id q → Needs f s id q) → Needs g s id q → map.get after q ≡ map.get f q
live-stays g f s entries after id q plain (consumer name content is_plain reads puts) some within there before needs =
    puts.others q (needs-no_consumer g s id q name plain needs)
live-stays g f s entries after id q plain (floor k found below absent puts) some within there before needs =
    puts.others q (needs-no_floor g s id q k plain needs)
live-stays g f s entries after id q plain (forgotten k above less high is puts) some within there before needs =
    puts.others q (needs-no_floor g s id q k plain needs)
live-stays g f s entries after id q plain (expired least path is_least is below announced puts) some within there before needs =
    puts.others q (needs-apart g s least id path q is plain (own id some there) needs)
  where
    own : (id : ℕ) → 1 ≤ id → HasSnapshotAt after s id → snapshot_path id ≢ path
    own zero some there e = absurd (omega (arith, some))
    own (suc k) some there e = some-none (map.get after (snapshot_path (suc k))) there (ap (map.get after) e ∙ puts.here)
live-stays g f s entries after id q plain (removed path is_table unneeded puts) some within there before needs =
    puts.others q (λ e. unneeded id some within (was-there f s entries after id (removed path is_table unneeded puts) some there) (subst (Needs f s id) e (before needs)))

-- what a snapshot needed when it was committed stays or goes
needed-or-gone : (stood f : Files) (s : TableSchema) (entries : List Entry) (after : Files) (id : ℕ) (q : List ℕ) → HavePlainNames s → Beside f s entries after
    → Needs stood s id q → (map.get after q ≡ None) ⊎ (map.get after q ≡ map.get f q)
needed-or-gone stood f s entries after id q plain (consumer name content is_plain reads puts) needs = inr (puts.others q (needs-no_consumer stood s id q name plain needs))
needed-or-gone stood f s entries after id q plain (floor k found below absent puts) needs = inr (puts.others q (needs-no_floor stood s id q k plain needs))
needed-or-gone stood f s entries after id q plain (forgotten k above less high there puts) needs = goes-or-same f after (floor_path k) q puts
needed-or-gone stood f s entries after id q plain (expired least path is_least is below announced puts) needs = goes-or-same f after path q puts
needed-or-gone stood f s entries after id q plain (removed path is_table unneeded puts) needs = goes-or-same f after path q puts

-- where the snapshot is there it needs what it needed then
needs-now : SameContents → (stood f : Files) (s : TableSchema) (id : ℕ) → ((path : List ℕ) → Needs stood s id path → map.get f path ≡ map.get stood path)
    → (q : List ℕ) → Needs stood s id q → Needs f s id q
needs-now law stood f s id keeps q (inl is) = inl is
needs-now law stood f s id keeps q (inr (inl (x, (bytes, at, reads), is))) = inr (inl (x, (bytes, keeps (snapshot_path id) (inl refl) ∙ at, reads), is))
needs-now law stood f s id keeps q (inr (inr (x, c, ((bytes, at, reads), has), named))) =
    inr (inr (
      x,
      c,
      (
        (bytes, keeps (snapshot_path id) (inl refl) ∙ at, reads),
        law stood f s x c (λ path is_named. keeps path (inr (inr (x, c, ((bytes, at, reads), has), is_named)))) has,
      ),
      named,
    ))

-- so its files are kept
pub keeps-beside : SameContents → (stood f : Files) (s : TableSchema) (entries : List Entry) (after : Files) (id : ℕ) → HavePlainNames s → Beside f s entries after
    → 1 ≤ id → id ≤ greatest → KeepsFiles f s stood id → KeepsFiles after s stood id
keeps-beside law stood f s entries after id plain change some within keeps = record {
  same = λ path needs. elim (needed-or-gone stood f s entries after id path plain change needs) as (λ _. (map.get after path ≡ None) ⊎ (map.get after path ≡ map.get stood path)) [
    | inl none ↦ inl none
    | inr same ↦ elim (keeps.same path needs) as (λ _. (map.get after path ≡ None) ⊎ (map.get after path ≡ map.get stood path)) [
      | inl none ↦ inl (same ∙ none)
      | inr was ↦ inr (same ∙ was)
    ]
  ];
  there = λ here path needs.
      let before = keeps.there (was-there f s entries after id change some here) in
      live-stays stood f s entries after id path plain change some within here (needs-now law stood f s id before path) needs ∙ before path needs;
}
