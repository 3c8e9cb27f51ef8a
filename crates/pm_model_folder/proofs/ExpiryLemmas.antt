-- What is left of a table where its least snapshot goes.
use Rattle.std.proofs.Common.{◌≡◌, ◌≢◌, ◌↔◌, inl, inr, ℕ, zero, suc, ◌<◌, ◌≤◌, nat_le, List, drop, length, true, false, Option, Some, None, IsSome, IsSomeAnd, refl, sym, ap, subst, ◌∙◌, arith}
use Rattle.std.specs.FinMap as map
use Rattle.std.proofs.lemmas.Bool.Decides.{nat_tests}
use Rattle.pm_store.specs.Files.{Files, Puts}
use Rattle.pm_model_history.specs.History.{Entry}
use Rattle.pm_schema.specs.declared.schema.TableSchema.{TableSchema}
use Rattle.pm_snapshot.specs.Names.{greatest, snapshot_name}
use Rattle.pm_model_folder.specs.Changes.{Beside, HavePlainNames, IsSnapshotPath, IsTablePath, consumer, expired, floor, forgotten, removed}
use Rattle.pm_model_folder.specs.Commits.{Needs}
use Rattle.pm_model_folder.specs.Folder.{HasTable, IsAnnounced}
use Rattle.pm_model_folder.specs.Meaning.{HasSnapshotAt, IsLeast}
use Rattle.pm_model_folder.specs.Paths.{consumer_path, floor_path, schema_path, snapshot_file, snapshot_path}
use Rattle.pm_model_folder.proofs.BesideLemmas.{commits-same, consumer-kept, floor-kept, floor-snapshot, forgotten-kept, names-less, needs-other, removed-kept, snapshot-same, snapshot-table}
use Rattle.pm_model_folder.proofs.Facts.{same-or-other, some-none, still_there}
use Rattle.pm_model_folder.proofs.HoldLemmas.{OneContents, SameContents}
use Rattle.pm_model_folder.proofs.PathLemmas.{consumer-snapshot, other-snapshot, snapshot-schema}

-- ---- the least snapshot is one

less : (a b : ℕ) → b ≤ a → a ≢ b → b < a
less a b low other = elim (nat_le a b) as (λ t. nat_le a b ≡ t → b < a) [
  | true ↦ λ e. absurd (other (let high : a ≤ b = grind (arith, nat_tests) in omega (arith, low, high)))
  | false ↦ λ e. grind (arith, nat_tests)
] refl

pub least-at-most : (f : Files) (s : TableSchema) (a b : ℕ) → IsLeast f s a → HasSnapshotAt f s b → a ≤ b
least-at-most f s a b first there = elim (nat_le a b) as (λ t. nat_le a b ≡ t → a ≤ b) [
  | true ↦ λ e. grind (arith, nat_tests)
  | false ↦ λ e. absurd (first.none b (grind (arith, nat_tests)) there)
] refl

pub one-least : (f : Files) (s : TableSchema) (a b : ℕ) → IsLeast f s a → IsLeast f s b → a ≡ b
one-least f s a b first second =
    let low = least-at-most f s a b first second.there in
    let high = least-at-most f s b a second first.there in
    omega (arith, low, high)

pub table-least : (f : Files) (s : TableSchema) (entries : List Entry) → (table : HasTable f s entries) → IsLeast f s table.snapshots.least
table-least f s entries table = record {
  there = (table.snapshots.exact table.snapshots.least (omega (arith, some, within))).1 (omega arith, some);
  none = λ other below there.
      let bounds = (table.snapshots.exact other (omega (arith, below, some, within))).0 there in
      let low = bounds.0 in omega (arith, low, below);
}
  where
    some : table.snapshots.least ≤ length entries
    some = table.snapshots.some

    within : length entries ≤ greatest
    within = table.snapshots.within

-- ---- its path

-- it is in the folder of snapshots
pub path-file : (s : TableSchema) (id : ℕ) (path : List ℕ) → IsSnapshotPath s id path → (name : List ℕ) × (path ≡ snapshot_file name)
path-file s zero path (name, named, is) = (name, is)
path-file s (suc id) path is = (snapshot_name (suc id), is)

-- so it is no schema's, and that of no file which snapshots name
no-schema : (s : TableSchema) (least : ℕ) (path : List ℕ) → IsSnapshotPath s least path → (id : ℕ) → schema_path id ≢ path
no-schema s least path is id e = let file = path-file s least path is in snapshot-schema file.0 id (sym file.1 ∙ sym e)

pub no-table : (s : TableSchema) (least : ℕ) (path : List ℕ) → IsSnapshotPath s least path → IsTablePath path → ⊥
no-table s least path is is_table = let file = path-file s least path is in snapshot-table file.0 (subst IsTablePath file.1 is_table)

-- what a snapshot needs that is another is elsewhere
pub needs-apart : (f : Files) (s : TableSchema) (least id : ℕ) (path q : List ℕ) → IsSnapshotPath s least path → HavePlainNames s → snapshot_path id ≢ path
    → Needs f s id q → q ≢ path
needs-apart f s least id path q is plain other needs =
    needs-other f s id q path plain (λ e. other (sym e)) (λ k e. no-schema s least path is k (sym e)) (no-table s least path is) needs

same-name : (a b : List ℕ) → snapshot_file a ≡ snapshot_file b → a ≡ b
same-name a b e = ap (drop 9) e

module _ (f : Files) (s : TableSchema) (entries : List Entry) (table : HasTable f s entries) (least : ℕ) (path : List ℕ) (is : IsSnapshotPath s least path)
    (within : least ≤ greatest) where
  -- that of another snapshot is another
  pub id-apart : (id : ℕ) → 1 ≤ id → id ≤ greatest → id ≢ least → snapshot_path id ≢ path
  id-apart id some high other = at least is (λ e. other e) within
    where
      at : (k : ℕ) → IsSnapshotPath s k path → id ≢ k → k ≤ greatest → snapshot_path id ≢ path
      at zero (name, named, is_path) apart low e =
          table.schema.origin id high (named ∙ ap (λ (n : List ℕ). Some n) (same-name name (snapshot_name id) (sym (e ∙ is_path))))
      at (suc k) is_path apart low e = other-snapshot id (suc k) high low apart (e ∙ is_path)

  -- and that of the origin
  pub origin-apart : (name : List ℕ) → s.origin ≡ Some name → least ≢ 0 → snapshot_file name ≢ path
  origin-apart name named other = at least is other within
    where
      at : (k : ℕ) → IsSnapshotPath s k path → k ≢ 0 → k ≤ greatest → snapshot_file name ≢ path
      at zero is_path apart low e = apart refl
      at (suc k) is_path apart low e =
          table.schema.origin (suc k) low (named ∙ ap (λ (n : List ℕ). Some n) (same-name name (snapshot_name (suc k)) (e ∙ is_path)))

-- once nothing is there it isn't
pub not-there : (after : Files) (s : TableSchema) (least : ℕ) (path : List ℕ) → IsSnapshotPath s least path → map.get after path ≡ None → HasSnapshotAt after s least → ⊥
not-there after s least path is none = at least is
  where
    at : (k : ℕ) → IsSnapshotPath s k path → HasSnapshotAt after s k → ⊥
    at zero (name, named, is_path) there =
        some-none (map.get after (snapshot_file name))
        (subst (λ (o : Option (List ℕ)). IsSomeAnd o (λ origin. IsSome (map.get after (snapshot_file origin)))) named there) (ap (map.get after) (sym is_path) ∙ none)
    at (suc k) is_path there = some-none (map.get after (snapshot_path (suc k))) there (ap (map.get after) (sym is_path) ∙ none)

-- ---- the least snapshot goes

module _ (one : OneContents) (law : SameContents) (f after : Files) (s : TableSchema) (entries : List Entry) (plain : HavePlainNames s) (table : HasTable f s entries)
    (gone : ℕ) (path : List ℕ) (is_least : IsLeast f s gone) (is : IsSnapshotPath s gone path) (below : gone < length entries) (announced : IsAnnounced f (suc gone))
    (puts : Puts f path None after) where
  gone-within : gone ≤ greatest
  gone-within = let most = table.snapshots.within in omega (arith, most, below)

  least-is : gone ≡ table.snapshots.least
  least-is = one-least f s gone table.snapshots.least is_least (table-least f s entries table)

  pub exact-after : (id : ℕ) → id ≤ greatest → HasSnapshotAt after s id ↔ ((suc table.snapshots.least ≤ id) × (id ≤ length entries))
  exact-after id high = elim (same-or-other id gone) as (λ _. HasSnapshotAt after s id ↔ ((suc table.snapshots.least ≤ id) × (id ≤ length entries))) [
    | inl same ↦ (
      λ there. absurd (not-there after s gone path is puts.here (subst (HasSnapshotAt after s) same there)),
      λ bounds. absurd (let low = bounds.0 in let least = least-is in omega (arith, low, least, same)),
    )
    | inr other ↦
        let was = table.snapshots.exact id high in
        let same = snapshot-same f after s id
        (λ zero_is name named. puts.others (snapshot_file name) (origin-apart f s entries table gone path is gone-within name named (λ (zero_gone : gone ≡ 0). other (zero_is ∙ sym zero_gone))))
        (λ k next_is. puts.others (snapshot_path (suc k)) (id-apart f s entries table gone path is gone-within (suc k) (omega arith) (omega (arith, next_is, high)) (λ e. other (next_is ∙ e)))) in (
          λ there. (let bounds = was.0 (same.1 there) in (above id other bounds.0, bounds.1)),
          λ bounds. same.0 (was.1 ((let low = bounds.0 in omega (arith, low)), bounds.1)),
        )
  ]
    where
      above : (id : ℕ) → id ≢ gone → table.snapshots.least ≤ id → suc table.snapshots.least ≤ id
      above id other low = let high = less id table.snapshots.least low (λ e. other (e ∙ sym least-is)) in omega (arith, high)

  -- the one after it is the least then
  pub next-least : IsLeast after s (suc gone)
  next-least = record {
    there = (exact-after (suc gone) (let most = table.snapshots.within in omega (arith, most, below))).1
        ((let least = least-is in omega (arith, least)), omega (arith, below));
    none = λ other low there.
        let bounds = (exact-after other (let most = table.snapshots.within in omega (arith, most, below, low))).0 there in
        let over = bounds.0 in let least = least-is in omega (arith, over, low, least);
  }

  expired-kept : HasTable after s entries
  expired-kept = record {
    names = names-less f after path puts table.names;
    schema = record {
      first = (table.schema.first.0, puts.others (schema_path 0) (no-schema s gone path is 0) ∙ table.schema.first.1, table.schema.first.2);
      only = λ id other high. puts.others (schema_path id) (no-schema s gone path is id) ∙ table.schema.only id other high;
      origin = table.schema.origin;
    };
    history = table.history;
    snapshots = record {
      least = suc table.snapshots.least;
      some = (let least = least-is in omega (arith, least, below));
      within = table.snapshots.within;
      exact = exact-after;
    };
    commits = commits-same one law f after s entries table.snapshots.least (suc table.snapshots.least) (omega arith)
        (λ id from q needs. puts.others q (needs-apart f s gone id path q is plain
        (id-apart f s entries table gone path is gone-within id from.after_origin (let high = from.to in let most = table.snapshots.within in omega (arith, high, most))
        (λ (same : id ≡ gone). (let low = from.from in let least = least-is in omega (arith, low, least, same)))) needs)) table.commits;
    floor = inr (
      announced.0,
      announced.1,
      (let over = announced.2 in let least = least-is in omega (arith, over, least)),
      still_there f after (floor_path announced.0) (puts.others (floor_path announced.0) (λ e. floor-snapshot announced.0 file.0 (e ∙ file.1))) announced.3,
    );
    consumers = λ name there.
        let same = puts.others (consumer_path name) (λ e. consumer-snapshot name file.0 (e ∙ file.1)) in
        let was = table.consumers name (still_there after f (consumer_path name) (sym same) there) in
        (was.0, (was.1.0, same ∙ was.1.1, was.1.2));
  }
    where
      file : (name : List ℕ) × (path ≡ snapshot_file name)
      file = path-file s gone path is

-- ---- each kind

pub table-kept : OneContents → SameContents → (f after : Files) (s : TableSchema) (entries : List Entry) → HavePlainNames s → HasTable f s entries → Beside f s entries after
    → HasTable after s entries
table-kept one law f after s entries plain table (consumer name content is_plain reads puts) = consumer-kept one law f after s entries plain table name content is_plain reads puts
table-kept one law f after s entries plain table (floor k found below absent puts) = floor-kept one law f after s entries plain table k found below absent puts
table-kept one law f after s entries plain table (forgotten k above less high there puts) = forgotten-kept one law f after s entries plain table k above less high there puts
table-kept one law f after s entries plain table (expired least path is_least is below announced puts) =
    expired-kept one law f after s entries plain table least path is_least is below announced puts
table-kept one law f after s entries plain table (removed path is_table unneeded puts) = removed-kept one law f after s entries plain table path is_table unneeded puts
