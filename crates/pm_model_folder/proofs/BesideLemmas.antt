-- What a change beside the history leaves of a table.
use Rattle.std.proofs.Common.{◌≡◌, ◌≢◌, ◌↔◌, inl, inr, ℕ, zero, suc, ◌+◌, ◌<◌, ◌≤◌, List, ◌∷◌, ◌++◌, take, length, codes, true, Option, Some, None, IsSome, IsSomeAnd, refl, sym, ap, subst, ◌∙◌, arith}
use Rattle.std.specs.FinMap as map
use Rattle.std.specs.Ordering.{eq_by_cmp, is_eq}
use Rattle.std.specs.declared.cmp.Ordering.TheVariants.{Less, Equal, Greater}
use Rattle.std.specs.Fmt.{decimal}
use Rattle.std.proofs.lemmas.Fmt.{decimal_injective}
use Rattle.std.proofs.lemmas.List.{append_cancel_left}
use Rattle.pm_store.specs.Files.{Files, Puts, name_in}
use Rattle.pm_values.specs.GroupOrder.{group_cmp}
use Rattle.pm_values.specs.declared.group.Group.{Group}
use Rattle.pm_values.proofs.Lemmas.{group_cmp-IsAntisymmetric}
use Rattle.pm_model_history.specs.History.{Entry}
use Rattle.pm_schema.specs.Folder.{folder_text}
use Rattle.pm_schema.specs.declared.schema.TableSchema.{TableSchema}
use Rattle.pm_snapshot.specs.Names.{floor_name, greatest, snapshot_name}
use Rattle.pm_snapshot.specs.declared.consumer.Consumer.{Consumer}
use Rattle.pm_snapshot.specs.declared.snapshot.Snapshot.{Snapshot}
use Rattle.pm_model_contents.specs.Named.{Contents, IsNamed, base_list, delta_list, changelog_list, changes_file, data_file, manifest}
use Rattle.pm_model_folder.specs.Changes.{HavePlainNames, IsConsumerFile, IsPlain, IsTablePath, IsUnneeded, bucket, manifests}
use Rattle.pm_model_folder.specs.Commits.{Needs}
use Rattle.pm_model_folder.specs.Folder.{HasCommits, HasFloor, HasTable, HaveFiles, IsFrom}
use Rattle.pm_model_folder.specs.Meaning.{ConsumerAt, HasSnapshotAt}
use Rattle.pm_model_folder.specs.Paths.{consumer_file, consumer_folder, consumer_path, floor_folder, floor_path, schema_folder, schema_name, schema_path, snapshot_file, snapshot_folder, snapshot_path}
use Rattle.pm_model_folder.proofs.Facts.{same-path, some-none, still_there, there-absent}
use Rattle.pm_model_folder.proofs.HoldLemmas.{OneContents, SameContents}
use Rattle.pm_model_folder.proofs.NameLemmas.{consumer-leads, floor-leads}
use Rattle.pm_model_folder.proofs.PathLemmas.{IsOther, apart, consumer-schema, consumer-snapshot, folder-apart, other-consumers, other-floors, other-schemas, other-snapshots}
use Rattle.pm_model_folder.proofs.SameLemmas.{commit-back, committed-same, names-back, names-on}

tied-groups : (a b : Group) → eq_by_cmp group_cmp a b ≡ true → a ≡ b
tied-groups a b e =
    elim (group_cmp a b) as (λ o. group_cmp a b ≡ o → is_eq o ≡ true → a ≡ b) [
      | Less ↦ λ p q. cc
      | Equal ↦ λ p q. group_cmp-IsAntisymmetric a b p
      | Greater ↦ λ p q. cc
    ] refl e

-- ---- paths

pub floor-schema : (n id : ℕ) → floor_path n ≢ schema_path id
floor-schema n id = apart 0 (floor_path n) (schema_path id) (λ (e : 102 ≡ 115). omega (arith, e))

pub floor-snapshot : (n : ℕ) (other : List ℕ) → floor_path n ≢ snapshot_file other
floor-snapshot n other = apart 0 (floor_path n) (snapshot_file other) (λ (e : 102 ≡ 115). omega (arith, e))

pub floor-consumer : (n : ℕ) (name : List ℕ) → floor_path n ≢ consumer_path name
floor-consumer n name = apart 0 (floor_path n) (consumer_path name) (λ (e : 102 ≡ 99). omega (arith, e))

pub table-other : (path other rest : List ℕ) → IsTablePath path → IsOther other → path ≢ other ++ 47 ∷ rest
table-other path other rest is_table is e = folder-apart is_table.folder is_table.name other rest is_table.own is (sym is_table.is ∙ e)

-- what a snapshot names is one
named-table : (s : TableSchema) (x : Snapshot) (c : Contents) (path : List ℕ) → HavePlainNames s → IsNamed s x c path → IsTablePath path
named-table s x c path plain base_list = record { folder = codes "manifest"; name = x.base_list; own = manifests; is = refl }
named-table s x c path plain delta_list = record { folder = codes "manifest"; name = x.delta_list; own = manifests; is = refl }
named-table s x c path plain (changelog_list name is) = record { folder = codes "manifest"; name = name; own = manifests; is = refl }
named-table s x c path plain (manifest meta listed) = record { folder = codes "manifest"; name = meta.name; own = manifests; is = refl }
named-table s x c path plain (data_file e live) = record { folder = folder_text s e.group; name = e.file.name; own = bucket s e.group plain; is = refl }
named-table s x c path plain (changes_file e there) = record { folder = folder_text s e.group; name = e.file.name; own = bucket s e.group plain; is = refl }

-- two floors
pub floor-number : (a b : ℕ) → a ≤ greatest → b ≤ greatest → floor_path a ≡ floor_path b → a ≡ b
floor-number a b within bound e =
    decimal_injective a b (omega (arith, within)) (omega (arith, bound)) (append_cancel_left (codes "floor/floor-") (decimal a) (decimal b) e)

pub other-floor : (a b : ℕ) → a ≤ greatest → b ≤ greatest → a ≢ b → floor_path a ≢ floor_path b
other-floor a b within bound other e = other (floor-number a b within bound e)

-- a file of such a folder is no consumer's, no floor, and no snapshot
pub consumer-table : (name : List ℕ) → IsTablePath (consumer_path name) → ⊥
consumer-table name is_table = table-other (consumer_path name) (codes "consumer") (codes "consumer-" ++ name) is_table other-consumers refl

pub floor-table : (n : ℕ) → IsTablePath (floor_path n) → ⊥
floor-table n is_table = table-other (floor_path n) (codes "floor") (floor_name n) is_table other-floors refl

pub snapshot-table : (name : List ℕ) → IsTablePath (snapshot_file name) → ⊥
snapshot-table name is_table = table-other (snapshot_file name) (codes "snapshot") name is_table other-snapshots refl

pub schema-table : (id : ℕ) → IsTablePath (schema_path id) → ⊥
schema-table id is_table = table-other (schema_path id) (codes "schema") (schema_name id) is_table other-schemas refl

-- what a snapshot needs is elsewhere than a file that is no snapshot, no schema and none of these
pub needs-other : (f : Files) (s : TableSchema) (id : ℕ) (path q : List ℕ) → HavePlainNames s → q ≢ snapshot_path id → ((k : ℕ) → q ≢ schema_path k)
    → (IsTablePath q → ⊥) → Needs f s id path → path ≢ q
needs-other f s id path q plain no_snapshot no_schema no_table (inl is) e = no_snapshot (sym e ∙ is)
needs-other f s id path q plain no_snapshot no_schema no_table (inr (inl (x, there, is))) e = no_schema x.schema_id (sym e ∙ is)
needs-other f s id path q plain no_snapshot no_schema no_table (inr (inr (x, c, has, named))) e =
    no_table (subst IsTablePath e (named-table s x c path plain named))

-- so it is no consumer's file
pub needs-no_consumer : (f : Files) (s : TableSchema) (id : ℕ) (path name : List ℕ) → HavePlainNames s → Needs f s id path → path ≢ consumer_path name
needs-no_consumer f s id path name plain needs =
    needs-other f s id path (consumer_path name) plain (consumer-snapshot name (snapshot_name id)) (consumer-schema name) (consumer-table name) needs

-- and no floor
pub needs-no_floor : (f : Files) (s : TableSchema) (id : ℕ) (path : List ℕ) (n : ℕ) → HavePlainNames s → Needs f s id path → path ≢ floor_path n
needs-no_floor f s id path n plain needs =
    needs-other f s id path (floor_path n) plain (floor-snapshot n (snapshot_name id)) (floor-schema n) (floor-table n) needs

-- ---- names

-- only the files themselves lead to names where one path has another content that leads to no other name
names-puts : (f after : Files) (path : List ℕ) (content : Option (List ℕ)) → Puts f path content after → HaveFiles f
    → ((name : List ℕ) → name_in schema_folder path ≢ Some name) → ((name : List ℕ) → name_in snapshot_folder path ≢ Some name)
    → ((n : ℕ) → name_in floor_folder path ≡ Some (floor_name n) → path ≡ floor_path n)
    → ((name : List ℕ) → name_in consumer_folder path ≡ Some (consumer_file name) → path ≡ consumer_path name) → HaveFiles after
names-puts f after path content puts names no_schema no_snapshot own_floor own_consumer = record {
  schemas = λ id q within there leads. elim (same-path q path) as (λ _. q ≡ schema_path id) [
    | inl same ↦ absurd (no_schema (schema_name id) (ap (name_in schema_folder) (sym same) ∙ leads))
    | inr other ↦ names.schemas id q within (still_there after f q (sym (puts.others q other)) there) leads
  ];
  snapshots = λ id q within there leads. elim (same-path q path) as (λ _. q ≡ snapshot_path id) [
    | inl same ↦ absurd (no_snapshot (snapshot_name id) (ap (name_in snapshot_folder) (sym same) ∙ leads))
    | inr other ↦ names.snapshots id q within (still_there after f q (sym (puts.others q other)) there) leads
  ];
  floors = λ n q within there leads. elim (same-path q path) as (λ _. q ≡ floor_path n) [
    | inl same ↦ same ∙ own_floor n (ap (name_in floor_folder) (sym same) ∙ leads)
    | inr other ↦ names.floors n q within (still_there after f q (sym (puts.others q other)) there) leads
  ];
  consumers = λ name q there leads. elim (same-path q path) as (λ _. q ≡ consumer_path name) [
    | inl same ↦ same ∙ own_consumer name (ap (name_in consumer_folder) (sym same) ∙ leads)
    | inr other ↦ names.consumers name q (still_there after f q (sym (puts.others q other)) there) leads
  ];
}

-- so they do where a file goes
pub names-less : (f after : Files) (path : List ℕ) → Puts f path None after → HaveFiles f → HaveFiles after
names-less f after path puts names = record {
  schemas = λ id q within there leads. names.schemas id q within (was q there) leads;
  snapshots = λ id q within there leads. names.snapshots id q within (was q there) leads;
  floors = λ n q within there leads. names.floors n q within (was q there) leads;
  consumers = λ name q there leads. names.consumers name q (was q there) leads;
}
  where
    was : (q : List ℕ) → IsSome (map.get after q) → IsSome (map.get f q)
    was q there = elim (same-path q path) as (λ _. IsSome (map.get f q)) [
      | inl same ↦ absurd (some-none (map.get after q) there (ap (map.get after) same ∙ puts.here))
      | inr other ↦ still_there after f q (sym (puts.others q other)) there
    ]

leads-none : {P : Type 0} (name : List ℕ) → None ≡ Some name → P
leads-none name e = cc

one-name : (a b : List ℕ) → Some a ≡ Some b → a ≡ b
one-name a b e = cc

-- ---- commits

module _ (one : OneContents) (law : SameContents) (f after : Files) (s : TableSchema) (entries : List Entry) where
  pub commits-same : (least least2 : ℕ) → least ≤ least2
      → ((id : ℕ) → IsFrom least2 (length entries) id → (path : List ℕ) → Needs f s id path → map.get after path ≡ map.get f path)
      → HasCommits f s entries least → HasCommits after s entries least2
  commits-same least least2 low same commits = record {
    committed = λ id from. committed-same one law tied-groups f after s (take id entries) id (same id from) (commits.committed id (was id from));
    begins = λ is some y d has. commits.begins (omega (arith, is, low)) some y d
        (commit-back one law tied-groups f after s (take 1 entries) 1 y d (same 1 (first-from is some)) (commits.committed 1 (was 1 (first-from is some))) has);
    next = λ id from below x y c d has next. commits.next id (was id from) below x y c d
        (commit-back one law tied-groups f after s (take id entries) id x c (same id from) (commits.committed id (was id from)) has)
        (commit-back one law tied-groups f after s (take (id + 1) entries) (id + 1) y d (same (id + 1) (next-from id from below)) (commits.committed (id + 1) (was (id + 1) (next-from id from below))) next);
    gone = λ first from early middle late path a b c d here there.
        let e = early-from first early middle late from a b c d in
        let l = late-from first early middle late from a b c d in
        names-on one law tied-groups f after s (take middle entries) middle path (same middle (middle-from first early middle late from a b c d))
        (commits.committed middle (was middle (middle-from first early middle late from a b c d)))
        (commits.gone first (was first from) early middle late path a b c d
        (names-back one law tied-groups f after s (take early entries) early path (same early e) (commits.committed early (was early e)) here)
        (names-back one law tied-groups f after s (take late entries) late path (same late l) (commits.committed late (was late l)) there));
  }
    where
      was : (id : ℕ) → IsFrom least2 (length entries) id → IsFrom least (length entries) id
      was id from = record { after_origin = from.after_origin; from = (let high = from.from in omega (arith, low, high)); to = from.to }

      first-from : least2 ≡ 0 → 1 ≤ length entries → IsFrom least2 (length entries) 1
      first-from is some = record { after_origin = omega arith; from = omega (arith, is); to = some }

      next-from : (id : ℕ) → IsFrom least2 (length entries) id → id < length entries → IsFrom least2 (length entries) (id + 1)
      next-from id from below = record { after_origin = omega arith; from = (let low = from.from in omega (arith, low)); to = omega (arith, below) }

      early-from : (first early middle late : ℕ) → IsFrom least2 (length entries) first → first ≤ early → early < middle → middle < late → late ≤ length entries
          → IsFrom least2 (length entries) early
      early-from first early middle late from a b c d = record {
        after_origin = (let low = from.after_origin in omega (arith, low, a));
        from = (let low = from.from in omega (arith, low, a));
        to = omega (arith, b, c, d);
      }

      middle-from : (first early middle late : ℕ) → IsFrom least2 (length entries) first → first ≤ early → early < middle → middle < late → late ≤ length entries
          → IsFrom least2 (length entries) middle
      middle-from first early middle late from a b c d = record {
        after_origin = omega (arith, b);
        from = (let low = from.from in omega (arith, low, a, b));
        to = omega (arith, c, d);
      }

      late-from : (first early middle late : ℕ) → IsFrom least2 (length entries) first → first ≤ early → early < middle → middle < late → late ≤ length entries
          → IsFrom least2 (length entries) late
      late-from first early middle late from a b c d = record {
        after_origin = omega (arith, c);
        from = (let low = from.from in omega (arith, low, a, b, c));
        to = d;
      }

-- ---- snapshots

pub snapshot-same : (f after : Files) (s : TableSchema) (id : ℕ) → (id ≡ 0 → (name : List ℕ) → s.origin ≡ Some name → map.get after (snapshot_file name) ≡ map.get f (snapshot_file name))
    → ((k : ℕ) → id ≡ suc k → map.get after (snapshot_path (suc k)) ≡ map.get f (snapshot_path (suc k))) → HasSnapshotAt f s id ↔ HasSnapshotAt after s id
snapshot-same f after s zero origin later = at s.origin (origin refl)
  where
    at : (o : Option (List ℕ)) → ((name : List ℕ) → o ≡ Some name → map.get after (snapshot_file name) ≡ map.get f (snapshot_file name))
        → IsSomeAnd o (λ origin. IsSome (map.get f (snapshot_file origin))) ↔ IsSomeAnd o (λ origin. IsSome (map.get after (snapshot_file origin)))
    at None same = (λ x. x, λ x. x)
    at (Some name) same = (still_there f after (snapshot_file name) (same name refl), still_there after f (snapshot_file name) (sym (same name refl)))
snapshot-same f after s (suc id) origin later =
    (still_there f after (snapshot_path (suc id)) (later id refl), still_there after f (snapshot_path (suc id)) (sym (later id refl)))

module _ (one : OneContents) (law : SameContents) (f after : Files) (s : TableSchema) (entries : List Entry) (plain : HavePlainNames s) (table : HasTable f s entries) where
  abbrev n : ℕ
  n = length entries

  abbrev least : ℕ
  least = table.snapshots.least

  live-there : (id : ℕ) → IsFrom least n id → HasSnapshotAt f s id
  live-there id from = (table.snapshots.exact id (let high = from.to in let most = table.snapshots.within in omega (arith, high, most))).1 (from.from, from.to)

  -- where neither a snapshot nor a schema changes, nor what is needed
  module _ (path : List ℕ) (content : Option (List ℕ)) (puts : Puts f path content after) (no_schema : (id : ℕ) → path ≢ schema_path id)
      (no_snapshot : (name : List ℕ) → path ≢ snapshot_file name) (needed : (id : ℕ) → IsFrom least n id → (q : List ℕ) → Needs f s id q → q ≢ path)
      (names : HaveFiles after) (floor_is : HasFloor after least)
      (consumers_are : (name : List ℕ) → consumer_path name ≡ path → IsConsumerFile content) where
    table-beside : HasTable after s entries
    table-beside = record {
      names = names;
      schema = record {
        first = (table.schema.first.0, puts.others (schema_path 0) (λ e. no_schema 0 (sym e)) ∙ table.schema.first.1, table.schema.first.2);
        only = λ id other within. puts.others (schema_path id) (λ e. no_schema id (sym e)) ∙ table.schema.only id other within;
        origin = table.schema.origin;
      };
      history = table.history;
      snapshots = record {
        least = least;
        some = table.snapshots.some;
        within = table.snapshots.within;
        exact = λ id within.
            let was = table.snapshots.exact id within in
            let is = snapshot-same f after s id (λ zero_is name is. puts.others (snapshot_file name) (λ e. no_snapshot name (sym e)))
            (λ k is. puts.others (snapshot_path (suc k)) (λ e. no_snapshot (snapshot_name (suc k)) (sym e))) in
            (λ there. was.0 (is.1 there), λ bounds. is.0 (was.1 bounds));
      };
      commits = commits-same one law f after s entries least least (omega arith) (λ id from q needs. puts.others q (needed id from q needs)) table.commits;
      floor = floor_is;
      consumers = λ name there. elim (same-path (consumer_path name) path) as (λ _. (c : Consumer) × ConsumerAt after name c) [
        | inl same ↦ read name content (ap (map.get after) same ∙ puts.here) there (consumers_are name same)
        | inr other ↦
            let is = puts.others (consumer_path name) other in
            let was = table.consumers name (still_there after f (consumer_path name) (sym is) there) in
            (was.0, (was.1.0, is ∙ was.1.1, was.1.2))
      ];
    }
      where
        read : (name : List ℕ) (o : Option (List ℕ)) → map.get after (consumer_path name) ≡ o → IsSome (map.get after (consumer_path name)) → IsConsumerFile o
            → (c : Consumer) × ConsumerAt after name c
        read name None is there reads = absurd (some-none (map.get after (consumer_path name)) there is)
        read name (Some bytes) is there (c, reads) = (c, (bytes, is, reads))

  floor-held : (path : List ℕ) (content : Option (List ℕ)) → Puts f path content after → ((n : ℕ) → floor_path n ≢ path) → HasFloor f least → HasFloor after least
  floor-held path content puts other (inl low) = inl low
  floor-held path content puts other (inr (k, within, above, there)) = inr (k, within, above, still_there f after (floor_path k) (puts.others (floor_path k) (other k)) there)

  -- ---- the kinds

  pub consumer-kept : (name : List ℕ) (content : Option (List ℕ)) → IsPlain name → IsConsumerFile content → Puts f (consumer_path name) content after → HasTable after s entries
  consumer-kept name content is_plain reads puts =
      table-beside (consumer_path name) content puts (consumer-schema name) (consumer-snapshot name)
      (λ id from q needs. needs-no_consumer f s id q name plain needs)
      (names-puts f after (consumer_path name) content puts table.names (λ other e. leads-none other e) (λ other e. leads-none other e)
      (λ n e. leads-none (floor_name n) e)
      (λ other e. ap (λ (q : List ℕ). codes "consumer/" ++ q) (one-name (consumer_file name) (consumer_file other) (sym (consumer-leads name is_plain) ∙ e))))
      (floor-held (consumer_path name) content puts (λ k. floor-consumer k name) table.floor)
      (λ other same. reads)

  pub floor-kept : (k : ℕ) (found : List ℕ) → k ≤ length entries → map.get f (floor_path k) ≡ None → Puts f (floor_path k) (Some found) after → HasTable after s entries
  floor-kept k found below absent puts =
      table-beside (floor_path k) (Some found) puts (floor-schema k) (floor-snapshot k)
      (λ id from q needs. needs-no_floor f s id q k plain needs)
      (names-puts f after (floor_path k) (Some found) puts table.names (λ other e. leads-none other e) (λ other e. leads-none other e)
      (λ n e. ap (λ (q : List ℕ). codes "floor/" ++ q) (one-name (floor_name k) (floor_name n) (sym (floor-leads k high) ∙ e)))
      (λ other e. leads-none (consumer_file other) e))
      (floors table.floor)
      (λ other same. absurd (floor-consumer k other (sym same)))
    where
      high : k ≤ greatest
      high = let most = table.snapshots.within in omega (arith, below, most)

      floors : HasFloor f least → HasFloor after least
      floors (inl low) = inl low
      floors (inr (j, bound, above, there)) =
          inr (j, bound, above, still_there f after (floor_path j) (puts.others (floor_path j) (there-absent f (floor_path j) (floor_path k) there absent)) there)

  -- a floor goes that is below another
  pub forgotten-kept : (k above : ℕ) → k < above → above ≤ greatest → IsSome (map.get f (floor_path above)) → Puts f (floor_path k) None after → HasTable after s entries
  forgotten-kept k above less high there puts =
      table-beside (floor_path k) None puts (floor-schema k) (floor-snapshot k)
      (λ id from q needs. needs-no_floor f s id q k plain needs)
      (names-less f after (floor_path k) puts table.names)
      (floors table.floor)
      (λ other same. absurd (floor-consumer k other (sym same)))
    where
      still : IsSome (map.get after (floor_path above))
      still = still_there f after (floor_path above) (puts.others (floor_path above) (λ same. other-floor above k high (omega (arith, less, high)) (λ e. omega (arith, e, less)) same)) there

      floors : HasFloor f least → HasFloor after least
      floors (inl low) = inl low
      floors (inr (j, bound, over, is)) = elim (same-path (floor_path j) (floor_path k)) as (λ _. HasFloor after least) [
        | inl same ↦ inr (above, high, (let one = floor-number j k bound (omega (arith, less, high)) same in omega (arith, over, one, less)), still)
        | inr other ↦ inr (j, bound, over, still_there f after (floor_path j) (puts.others (floor_path j) other) is)
      ]

  -- a file goes that no snapshot needs which is there
  pub removed-kept : (path : List ℕ) → IsTablePath path → IsUnneeded f s path → Puts f path None after → HasTable after s entries
  removed-kept path is_table unneeded puts =
      table-beside path None puts
      (λ id e. schema-table id (subst IsTablePath e is_table))
      (λ name e. snapshot-table name (subst IsTablePath e is_table))
      (λ id from q needs e. unneeded id from.after_origin (let high = from.to in let most = table.snapshots.within in omega (arith, high, most)) (live-there id from) (subst (Needs f s id) e needs))
      (names-less f after path puts table.names)
      (floor-held path None puts (λ k e. floor-table k (subst IsTablePath (sym e) is_table)) table.floor)
      (λ other same. absurd (consumer-table other (subst IsTablePath (sym same) is_table)))
