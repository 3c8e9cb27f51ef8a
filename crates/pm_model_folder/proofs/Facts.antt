-- What the kinds of change leave of a folder, and what its listings say.
use Rattle.std.proofs.Common.{◌≡◌, ◌≢◌, ◌↔◌, ◌⊎◌, inl, inr, ℕ, ◌+◌, ◌<◌, ◌≤◌, ◌==◌, nat_le, zero, suc, ℤ, pos, int_lt, List, [], ◌∷◌, ◌++◌, take, drop, get_or, slice_get, length, length-append, Bool, true, false, Contains, Option, Some, None, IsSome, IsSomeAnd, refl, sym, ap, subst, ◌∙◌, arith}
use Rattle.std.specs.FinMap as map
use Rattle.std.specs.List.{AllByRecursion, flat_map}
use Rattle.std.proofs.lemmas.Bool.Decides.{nat_tests}
use Rattle.std.proofs.lemmas.Grind.{flat_map-append}
use Rattle.std.proofs.lemmas.List.{append-nil, take_all, take-append-le}
use Rattle.pm_base.proofs.Laws.{AllByRecursion-append}
use Rattle.pm_store.specs.Files.{Files, Puts, IsListing, name_in}
use Rattle.pm_model_history.specs.History.{Entry, History, append, compaction, fence, entry_rows, no_table, table, GoesOn}
use Rattle.pm_model_following.specs.Following.{HaveBases}
use Rattle.pm_schema.specs.declared.schema.TableSchema.{TableSchema}
use Rattle.pm_snapshot.specs.Names.{floor_name, greatest, snapshot_name}
use Rattle.pm_snapshot.specs.declared.snapshot.Snapshot.{Snapshot}
use Rattle.pm_model_folder.specs.Changes.{Actor, IsNoOrigin, IsOwn, Change, beside, nothing, own_file, schema, committed}
use Rattle.pm_model_folder.specs.Commits.{BeginsOn, FollowsOn, IsCommit, IsCommitted, Names, NeverReturn}
use Rattle.pm_model_folder.specs.Folder.{AreEntriesOf, Folder, HasCommits, HasFloor, HaveFiles, HasNoTable, HasTable, IsEntryAfter, IsFrom, IsRowOf, NamesGroups}
use Rattle.pm_model_folder.specs.Meaning.{SchemaAt, SnapshotAt, HasSnapshotAt, LeadsTo}
use Rattle.pm_model_folder.specs.Paths.{consumer_file, consumer_folder, floor_folder, schema_folder, schema_name, schema_path, snapshot_folder, snapshot_file, snapshot_path, consumer_path, tag_path, changelog_path, floor_path}
use Rattle.pm_model_folder.proofs.HoldLemmas.{Holds, ContentsStay, OneContents, commit-was, committed-held, names-held, names-were}
use Rattle.pm_model_folder.proofs.NameLemmas.{schema-leads, snapshot-leads, schema-none, snapshot-none, none-some, first-other, other-led, own-no_consumer, own-no_floor, own-no_schema, own-no_snapshot, schema-no_consumer, schema-no_floor, snapshot-no_consumer, snapshot-no_floor}
use Rattle.pm_model_folder.proofs.PathLemmas.{origin-other, other-snapshot, snapshot-schema, consumer-schema, consumer-snapshot, other-schema, snapshot-own, schema-own, consumer-own, tag-own, changelog-own}

-- ---- what is at a path

-- a content isn't none
pub some-none : (found : Option (List ℕ)) → IsSome found → found ≢ None
some-none None is e = cc
some-none (Some bytes) is e = cc

-- what was there is another path than one that was absent
pub there-absent : (f : Files) (q path : List ℕ) → IsSome (map.get f q) → map.get f path ≡ None → q ≢ path
there-absent f q path there absent e = some-none (map.get f q) there (ap (map.get f) e ∙ absent)

-- what both files have at a path
pub still_there : (f after : Files) (q : List ℕ) → map.get after q ≡ map.get f q → IsSome (map.get f q) → IsSome (map.get after q)
still_there f after q same there = subst (λ (found : Option (List ℕ)). IsSome found) (sym same) there

-- what was there stays there, where a file appears at a path that was absent
pub stays_there : (f after : Files) (path : List ℕ) (content : Option (List ℕ)) → map.get f path ≡ None → Puts f path content after
    → (q : List ℕ) → IsSome (map.get f q) → IsSome (map.get after q)
stays_there f after path content absent puts q there = still_there f after q (puts.others q (there-absent f q path there absent)) there

some-and : (o : Option (List ℕ)) (P Q : List ℕ → Type 0) → ((x : List ℕ) → P x → Q x) → IsSomeAnd o P → IsSomeAnd o Q
some-and None P Q weaker is = is
some-and (Some x) P Q weaker is = weaker x is

-- so do the snapshots, the origin among them
pub snapshot_stays : (f after : Files) (s : TableSchema) (id : ℕ) → ((q : List ℕ) → IsSome (map.get f q) → IsSome (map.get after q))
    → HasSnapshotAt f s id → HasSnapshotAt after s id
snapshot_stays f after s zero stay there = some-and s.origin _ _ (λ origin. stay (snapshot_file origin)) there
snapshot_stays f after s (suc id) stay there = stay (snapshot_path (suc id)) there

-- ---- files that are the same at all paths of a table

pub record AreSame (f after : Files) : Type 0 where
  pub schemas : (id : ℕ) → map.get after (schema_path id) ≡ map.get f (schema_path id)
  pub snapshots : (id : ℕ) → map.get after (snapshot_path id) ≡ map.get f (snapshot_path id)
  pub consumers : (name : List ℕ) → map.get after (consumer_path name) ≡ map.get f (consumer_path name)
  pub tags : (name : List ℕ) → map.get after (tag_path name) ≡ map.get f (tag_path name)
  pub changelogs : (id : ℕ) → map.get after (changelog_path id) ≡ map.get f (changelog_path id)

same-no_table : (f after : Files) → AreSame f after → HaveFiles after → HasNoTable f → HasNoTable after
same-no_table f after same names folder = record {
  names = names;
  schemas = λ id within. same.schemas id ∙ folder.schemas id within;
  snapshots = λ id within. same.snapshots id ∙ folder.snapshots id within;
  consumers = λ name. same.consumers name ∙ folder.consumers name;
  tags = λ name. same.tags name ∙ folder.tags name;
  changelogs = λ id within. same.changelogs id ∙ folder.changelogs id within;
}

-- the snapshots, the origin among them
same-snapshot : (f after : Files) (s : TableSchema) → AreSame f after → HasSnapshotAt f s 0 ↔ HasSnapshotAt after s 0
    → (id : ℕ) → HasSnapshotAt f s id ↔ HasSnapshotAt after s id
same-snapshot f after s same origin zero = origin
same-snapshot f after s same origin (suc id) = (
  λ there. still_there f after (snapshot_path (suc id)) (same.snapshots (suc id)) there,
  λ there. still_there after f (snapshot_path (suc id)) (sym (same.snapshots (suc id))) there,
)

-- a floor stays
floor-held : (f after : Files) (least : ℕ) → Holds f after → HasFloor f least → HasFloor after least
floor-held f after least holds (inl low) = inl low
floor-held f after least holds (inr (n, within, above, there)) =
    inr (n, within, above, still_there f after (floor_path n) (holds (floor_path n) there) there)

module _ (one : OneContents) (stay : ContentsStay) (f after : Files) (holds : Holds f after) (s : TableSchema) where
  -- what is there of the commits stays
  commits-held : (entries : List Entry) (least : ℕ) → HasCommits f s entries least → HasCommits after s entries least
  commits-held entries least commits = record {
    committed = λ id from. committed-held f after holds s stay (take id entries) id (commits.committed id from);
    next = λ id from below x y c d has next. commits.next id from below x y c d
        (commit-was one stay f after holds s (take id entries) id x c (commits.committed id from) has)
        (commit-was one stay f after holds s (take (id + 1) entries) (id + 1) y d (commits.committed (id + 1) (next-from entries least id from below)) next);
    begins = λ is some y d has. commits.begins is some y d
        (commit-was one stay f after holds s (take 1 entries) 1 y d (commits.committed 1 (first-from is some)) has);
    gone = λ first from early middle late path a b c d here there.
        let was_early = names-were one stay f after holds s (take early entries) early path (commits.committed early (early-from entries least first early middle late from a b c d)) here in
        let was_late = names-were one stay f after holds s (take late entries) late path (commits.committed late (late-from entries least first early middle late from a b c d)) there in
        names-held f after holds s stay middle path (commits.gone first from early middle late path a b c d was_early was_late);
  }
    where
      first-from : least ≡ 0 → 1 ≤ length entries → IsFrom least (length entries) 1
      first-from is some = record { after_origin = omega arith; from = omega (arith, is); to = some }

      next-from : (entries : List Entry) (least id : ℕ) → IsFrom least (length entries) id → id < length entries → IsFrom least (length entries) (id + 1)
      next-from entries least id from below = record { after_origin = omega arith; from = (let low = from.from in omega (arith, low)); to = omega (arith, below) }

      early-from : (entries : List Entry) (least first early middle late : ℕ) → IsFrom least (length entries) first → first ≤ early → early < middle
          → middle < late → late ≤ length entries → IsFrom least (length entries) early
      early-from entries least first early middle late from a b c d = record {
        after_origin = (let low = from.after_origin in omega (arith, low, a));
        from = (let low = from.from in omega (arith, low, a));
        to = omega (arith, b, c, d);
      }

      late-from : (entries : List Entry) (least first early middle late : ℕ) → IsFrom least (length entries) first → first ≤ early → early < middle
          → middle < late → late ≤ length entries → IsFrom least (length entries) late
      late-from entries least first early middle late from a b c d = record {
        after_origin = omega (arith, c);
        from = (let low = from.from in omega (arith, low, a, b, c));
        to = d;
      }

  same-table : (entries : List Entry) → AreSame f after → HasSnapshotAt f s 0 ↔ HasSnapshotAt after s 0
      → HaveFiles after → HasTable f s entries → HasTable after s entries
  same-table entries same origin names folder =
      let first = folder.schema.first in
      let snapshots = folder.snapshots in record {
        names = names;
        schema = record {
          first = (first.0, same.schemas 0 ∙ first.1, first.2);
          only = λ id other within. same.schemas id ∙ folder.schema.only id other within;
          origin = folder.schema.origin;
        };
        history = folder.history;
        snapshots = record {
          least = snapshots.least;
          some = snapshots.some;
          within = snapshots.within;
          exact = λ id within.
              let was = snapshots.exact id within in
              let is = same-snapshot f after s same origin id in
              (λ there. was.0 (is.1 there), λ bounds. is.0 (was.1 bounds));
        };
        commits = commits-held entries snapshots.least folder.commits;
        floor = floor-held f after snapshots.least holds folder.floor;
        consumers = λ name there.
            let was = folder.consumers name (still_there after f (consumer_path name) (sym (same.consumers name)) there) in
            (was.0, (was.1.0, same.consumers name ∙ was.1.1, was.1.2));
      }

-- the origin of a table without entries is there
pub origin-there : (f : Files) (s : TableSchema) → HasTable f s [] → HasSnapshotAt f s 0
origin-there f s folder =
    (folder.snapshots.exact 0 (omega arith)).1 ((let some = folder.snapshots.some in omega (arith, some)), omega arith)

-- ---- names that files lead to

-- a file that leads to a name did so before, unless it is the one that appeared
led_before : (f after : Files) (folder name path : List ℕ) (content : Option (List ℕ)) → Puts f path content after
    → name_in folder path ≢ Some name → LeadsTo after folder name → LeadsTo f folder name
led_before f after folder name path content puts other (q, there, leads) =
    (q, still_there after f q (sym (puts.others q (λ e. other (ap (name_in folder) (sym e) ∙ leads)))) there, leads)

-- the file that leads to the name of a schema or of a snapshot is the one of its path
schema-file : (f : Files) → HaveFiles f → (id : ℕ) → id ≤ greatest → LeadsTo f schema_folder (schema_name id) → IsSome (map.get f (schema_path id))
schema-file f names id within led = subst (λ q. IsSome (map.get f q)) (names.schemas id led.0 within led.1 led.2) led.1

snapshot-file : (f : Files) → HaveFiles f → (id : ℕ) → id ≤ greatest → LeadsTo f snapshot_folder (snapshot_name id) → IsSome (map.get f (snapshot_path id))
snapshot-file f names id within led = subst (λ q. IsSome (map.get f q)) (names.snapshots id led.0 within led.1 led.2) led.1

-- a path that leads elsewhere than the one that appeared was there before
there_before : (f after : Files) (folder name path : List ℕ) (content : Option (List ℕ)) → Puts f path content after
    → name_in folder path ≢ Some name → (q : List ℕ) → IsSome (map.get after q) → name_in folder q ≡ Some name → IsSome (map.get f q)
there_before f after folder name path content puts other q there leads =
    still_there after f q (sym (puts.others q (λ e. other (ap (name_in folder) (sym e) ∙ leads)))) there

pub same-or-other : (a b : ℕ) → (a ≡ b) ⊎ (a ≢ b)
same-or-other a b = at (a == b) refl
  where
    at : (t : Bool) → (a == b) ≡ t → (a ≡ b) ⊎ (a ≢ b)
    at true is = inl (grind (arith, nat_tests))
    at false is = inr (λ e. grind (arith, nat_tests))

pub same-path : (a b : List ℕ) → (a ≡ b) ⊎ (a ≢ b)
same-path [] [] = inl refl
same-path [] (y ∷ b) = inr (λ e. cc)
same-path (x ∷ a) [] = inr (λ e. cc)
same-path (x ∷ a) (y ∷ b) = elim (same-or-other x y) as (λ _. (x ∷ a ≡ y ∷ b) ⊎ (x ∷ a ≢ y ∷ b)) [
  | inr other ↦ inr (λ e. other (ap (λ (l : List ℕ). get_or l 0 0) e))
  | inl first ↦ elim (same-path a b) as (λ _. (x ∷ a ≡ y ∷ b) ⊎ (x ∷ a ≢ y ∷ b)) [
    | inl rest ↦ inl (λ i. first i ∷ rest i)
    | inr other ↦ inr (λ e. other (ap (drop 1) e))
  ]
]

names-same : (f after : Files) → ((path : List ℕ) → map.get after path ≡ map.get f path) → HaveFiles f → HaveFiles after
names-same f after same names = record {
  schemas = λ id q within there leads. names.schemas id q within (still_there after f q (sym (same q)) there) leads;
  snapshots = λ id q within there leads. names.snapshots id q within (still_there after f q (sym (same q)) there) leads;
  floors = λ n q within there leads. names.floors n q within (still_there after f q (sym (same q)) there) leads;
  consumers = λ name q there leads. names.consumers name q (still_there after f q (sym (same q)) there) leads;
}

names-own : (me : Actor) (f after : Files) (path content : List ℕ) → IsOwn me path → Puts f path (Some content) after → HaveFiles f
    → HaveFiles after
names-own me f after path content own puts names = record {
  schemas = λ id q within there leads. names.schemas id q within
      (there_before f after schema_folder (schema_name id) path (Some content) puts (own-no_schema me path id own) q there leads) leads;
  snapshots = λ id q within there leads. names.snapshots id q within
      (there_before f after snapshot_folder (snapshot_name id) path (Some content) puts (own-no_snapshot me path id own) q there leads) leads;
  floors = λ n q within there leads. names.floors n q within
      (there_before f after floor_folder (floor_name n) path (Some content) puts (own-no_floor me path n own) q there leads) leads;
  consumers = λ name q there leads. names.consumers name q
      (there_before f after consumer_folder (consumer_file name) path (Some content) puts (own-no_consumer me path name own) q there leads) leads;
}

-- ---- no path has another content

all-same : (f after : Files) → ((path : List ℕ) → map.get after path ≡ map.get f path) → AreSame f after
all-same f after same = record {
  schemas = λ id. same (schema_path id);
  snapshots = λ id. same (snapshot_path id);
  consumers = λ name. same (consumer_path name);
  tags = λ name. same (tag_path name);
  changelogs = λ id. same (changelog_path id);
}

same-holds : (f after : Files) → ((path : List ℕ) → map.get after path ≡ map.get f path) → Holds f after
same-holds f after same path there = same path

pub kept-same : OneContents → ContentsStay → (f after : Files) (h : History) → ((path : List ℕ) → map.get after path ≡ map.get f path) → Folder f h → Folder after h
kept-same one stay f after no_table same folder = same-no_table f after (all-same f after same) (names-same f after same folder.names) folder
kept-same one stay f after (table s entries) same folder = same-table one stay f after (same-holds f after same) s entries (all-same f after same) (
  λ there. snapshot_stays f after s 0 (λ q. still_there f after q (same q)) there,
  λ there. snapshot_stays after f s 0 (λ q. still_there after f q (sym (same q))) there,
) (names-same f after same folder.names) folder

-- ---- a file of an actor's own appears

own-same : (me : Actor) (f after : Files) (path content : List ℕ) → IsOwn me path → Puts f path (Some content) after → AreSame f after
own-same me f after path content own puts = record {
  schemas = λ id. puts.others (schema_path id) (schema-own me path id own);
  snapshots = λ id. puts.others (snapshot_path id) (snapshot-own me path id own);
  consumers = λ name. puts.others (consumer_path name) (consumer-own me path name own);
  tags = λ name. puts.others (tag_path name) (tag-own me path name own);
  changelogs = λ id. puts.others (changelog_path id) (changelog-own me path id own);
}

-- where a file appears at a path that was absent, all that was there stays
puts-holds : (f after : Files) (path : List ℕ) (content : Option (List ℕ)) → map.get f path ≡ None → Puts f path content after → Holds f after
puts-holds f after path content absent puts q there = puts.others q (there-absent f q path there absent)

-- the origin that a schema names is there as it was, where its file stays
origin-iff : (f after : Files) (o : Option (List ℕ)) → ((name : List ℕ) → o ≡ Some name → map.get after (snapshot_file name) ≡ map.get f (snapshot_file name))
    → IsSomeAnd o (λ name. IsSome (map.get f (snapshot_file name))) ↔ IsSomeAnd o (λ name. IsSome (map.get after (snapshot_file name)))
origin-iff f after None same = (λ no. no, λ no. no)
origin-iff f after (Some name) same = (
  λ there. still_there f after (snapshot_file name) (same name refl) there,
  λ there. still_there after f (snapshot_file name) (sym (same name refl)) there,
)

pub kept-own : OneContents → ContentsStay → (me : Actor) (f after : Files) (h : History) (path content : List ℕ) → IsOwn me path → IsNoOrigin h path
    → map.get f path ≡ None → Puts f path (Some content) after → Folder f h → Folder after h
kept-own one stay me f after no_table path content own other absent puts folder =
    same-no_table f after (own-same me f after path content own puts) (names-own me f after path content own puts folder.names) folder
kept-own one stay me f after (table s entries) path content own other absent puts folder =
    same-table one stay f after (puts-holds f after path (Some content) absent puts) s entries (own-same me f after path content own puts)
    (origin-iff f after s.origin (λ name is. puts.others (snapshot_file name) (other name is)))
    (names-own me f after path content own puts folder.names) folder

-- no entry is one of none
no-entry : {P : Type 0} (n : ℕ) (e : Entry) → slice_get [] n ≡ Some e → P
no-entry zero e is = cc
no-entry (suc n) e is = cc

-- ---- the schema of a new table appears

-- a table that has just been made has its origin as its only snapshot
new-exact : (f after : Files) (s : TableSchema) (bytes : List ℕ) → HasNoTable f → HasSnapshotAt f s 0
    → Puts f (schema_path 0) (Some bytes) after → (id : ℕ) → id ≤ greatest
    → HasSnapshotAt after s id ↔ ((0 ≤ id) × (id ≤ 0))
new-exact f after s bytes folder there puts zero within = (
  λ here. (omega arith, omega arith),
  λ bounds. snapshot_stays f after s 0 (stays_there f after (schema_path 0) (Some bytes) (folder.schemas 0 (omega arith)) puts) there,
)
new-exact f after s bytes folder there puts (suc id) within = (
  λ here. absurd (some-none (map.get after (snapshot_path (suc id))) here (puts.others (snapshot_path (suc id)) (snapshot-schema _ 0) ∙ folder.snapshots (suc id) within)),
  λ bounds. absurd (let above = bounds.1 in omega (arith, above)),
)

-- and its schema's file is the only one that leads to the name of a schema
new-schema : (f after : Files) (bytes : List ℕ) → HasNoTable f → Puts f (schema_path 0) (Some bytes) after → (id : ℕ) (q : List ℕ) → id ≤ greatest
    → IsSome (map.get after q) → name_in schema_folder q ≡ Some (schema_name id) → q ≡ schema_path id
new-schema f after bytes folder puts zero q within there leads = elim (same-path q (schema_path 0)) as (λ _. q ≡ schema_path 0) [
  | inl same ↦ same
  | inr other ↦ folder.names.schemas 0 q within (still_there after f q (sym (puts.others q other)) there) leads
]
new-schema f after bytes folder puts (suc id) q within there leads =
    folder.names.schemas (suc id) q within
    (there_before f after schema_folder (schema_name (suc id)) (schema_path 0) (Some bytes) puts (first-other (suc id) within (λ e. omega (arith, e))) q there leads) leads

new-names : (f after : Files) (bytes : List ℕ) → HasNoTable f → Puts f (schema_path 0) (Some bytes) after → HaveFiles after
new-names f after bytes folder puts = record {
  schemas = new-schema f after bytes folder puts;
  snapshots = λ id q within there leads. folder.names.snapshots id q within
      (there_before f after snapshot_folder (snapshot_name id) (schema_path 0) (Some bytes) puts
      (λ e. none-some (snapshot_name id) (sym (schema-none 0) ∙ e)) q there leads) leads;
  floors = λ n q within there leads. folder.names.floors n q within
      (there_before f after floor_folder (floor_name n) (schema_path 0) (Some bytes) puts
      (λ e. none-some (floor_name n) (sym (schema-no_floor 0) ∙ e)) q there leads) leads;
  consumers = λ name q there leads. folder.names.consumers name q
      (there_before f after consumer_folder (consumer_file name) (schema_path 0) (Some bytes) puts
      (λ e. none-some (consumer_file name) (sym (schema-no_consumer 0) ∙ e)) q there leads) leads;
}

-- its origin has the name of no snapshot, since no snapshot was there
new-origin : (f : Files) (o : Option (List ℕ)) → HasNoTable f → IsSomeAnd o (λ name. IsSome (map.get f (snapshot_file name)))
    → (id : ℕ) → id ≤ greatest → o ≢ Some (snapshot_name id)
new-origin f None folder there id within e = absurd there
new-origin f (Some name) folder there id within e =
    let same : name ≡ snapshot_name id = cc in
    some-none (map.get f (snapshot_file name)) there (ap (λ (name : List ℕ). map.get f (snapshot_file name)) same ∙ folder.snapshots id within)

-- no snapshot after the origin is there
none-from : (P : ℕ → Type 0) (id : ℕ) → IsFrom 0 0 id → P id
none-from P id from = absurd (let low = from.after_origin in let high = from.to in omega (arith, low, high))

pub kept-schema : (f after : Files) (s : TableSchema) (bytes : List ℕ) → HasNoTable f → HasSnapshotAt f s 0
    → Puts f (schema_path 0) (Some bytes) after → SchemaAt after 0 s → HasTable after s []
kept-schema f after s bytes folder there puts reads = record {
  names = new-names f after bytes folder puts;
  schema = record {
    first = reads;
    only = λ id other within. puts.others (schema_path id) (other-schema id within other) ∙ folder.schemas id within;
    origin = new-origin f s.origin folder there;
  };
  history = record { rows = tt; bases = tt; groups = tt; fences = λ n x is. no-entry n _ is };
  snapshots = record {
    least = 0;
    some = omega arith;
    within = omega arith;
    exact = new-exact f after s bytes folder there puts;
  };
  commits = record {
    committed = λ id from. none-from (λ id. IsCommitted after s (take id []) id) id from;
    next = λ id from below. none-from (λ id. FollowsOn after s id) id from;
    begins = λ is some. absurd (let none : 1 ≤ 0 = some in omega (arith, none));
    gone = λ first from. none-from (λ first. NeverReturn after s first 0) first from;
  };
  floor = inl (omega arith);
  consumers = λ name here. absurd (some-none (map.get after (consumer_path name)) here (puts.others (consumer_path name) (consumer-schema name 0) ∙ folder.consumers name));
}

-- ---- rows are appended

pub split-last : (n id : ℕ) → id ≤ suc n → (id ≤ n) ⊎ (id ≡ suc n)
split-last n id within = at (nat_le id n) refl
  where
    at : (t : Bool) → nat_le id n ≡ t → (id ≤ n) ⊎ (id ≡ suc n)
    at true is = inl (grind (arith, nat_tests))
    at false is = inr (grind (arith, nat_tests))

entry-same : (a b : Entry) → Some a ≡ Some b → a ≡ b
entry-same a b e = cc

-- each fence is below its own number, where the first entry's is one more than this
abbrev HaveFences : ℕ → List Entry → Type 0
HaveFences k entries = (n : ℕ) (x : ℤ) → slice_get entries n ≡ Some (fence x) → int_lt x (pos (suc (k + n))) ≡ true

-- the entry's fence, if it is one, is at most a number
abbrev FenceUpTo : ℕ → Entry → Type 0
FenceUpTo k e = (x : ℤ) → e ≡ fence x → int_lt x (pos (suc k)) ≡ true

at-number : (a b : ℕ) (x : ℤ) → a ≡ b → int_lt x (pos (suc a)) ≡ true → int_lt x (pos (suc b)) ≡ true
at-number a b x same below = subst (λ (n : ℕ). int_lt x (pos (suc n)) ≡ true) same below

fences-append : (k : ℕ) (entries : List Entry) (e : Entry) → FenceUpTo (k + length entries) e → HaveFences k entries → HaveFences k (entries ++ e ∷ [])
fences-append k [] e last have zero x is = last x (entry-same e (fence x) is)
fences-append k [] e last have (suc n) x is = no-entry n (fence x) is
fences-append k (y ∷ entries) e last have zero x is = have zero x is
fences-append k (y ∷ entries) e last have (suc n) x is =
    at-number (suc k + n) (k + suc n) x (omega arith)
    (fences-append (suc k) entries e
    (λ z same. at-number (k + suc (length entries)) (suc k + length entries) z (omega arith) (last z same))
    (λ m z at. at-number (k + suc m) (suc k + m) z (omega arith) (have (suc m) z at)) n x is)

-- a compaction's base is below a number
abbrev BaseBelow : ℕ → Entry → Type 0
BaseBelow k (append user identifier rows) = Unit {0}
BaseBelow k (compaction base groups) = base < k
BaseBelow k (fence number) = Unit {0}

one-base : (k : ℕ) (e : Entry) → BaseBelow k e → HaveBases k (e ∷ [])
one-base k (append user identifier rows) below = tt
one-base k (compaction base groups) below = (below, tt)
one-base k (fence number) below = tt

later : (k : ℕ) (entries : List Entry) (e : Entry) → BaseBelow (k + suc (length entries)) e → BaseBelow ((k + 1) + length entries) e
later k entries e below = subst (λ n. BaseBelow n e) (let same : k + suc (length entries) ≡ (k + 1) + length entries = omega arith in same) below

bases-append : (k : ℕ) (entries : List Entry) (e : Entry) → BaseBelow (k + length entries) e → HaveBases k entries → HaveBases k (entries ++ e ∷ [])
bases-append k [] e below have = one-base k e (subst (λ n. BaseBelow n e) (let none : k + 0 ≡ k = omega arith in none) below)
bases-append k (append user identifier rows ∷ entries) e below have = bases-append (k + 1) entries e (later k entries e below) have
bases-append k (fence number ∷ entries) e below have = bases-append (k + 1) entries e (later k entries e below) have
bases-append k (compaction base groups ∷ entries) e below have = (have.0, bases-append (k + 1) entries e (later k entries e below) have.1)

module _ (one : OneContents) (stay : ContentsStay) (f after : Files) (s : TableSchema) (entries : List Entry) (e : Entry) (bytes : List ℕ)
    (folder : HasTable f s entries) (within : suc (length entries) ≤ greatest) (absent : map.get f (snapshot_path (suc (length entries))) ≡ None)
    (puts : Puts f (snapshot_path (suc (length entries))) (Some bytes) after) where
  abbrev last : ℕ
  last = suc (length entries)

  longer : length (entries ++ e ∷ []) ≡ last
  longer = length-append entries (e ∷ []) ∙ (let more : length entries + 1 ≡ suc (length entries) = omega arith in more)

  holds : Holds f after
  holds = puts-holds f after (snapshot_path last) (Some bytes) absent puts

  -- the origin is no snapshot
  origin-same : HasSnapshotAt f s 0 ↔ HasSnapshotAt after s 0
  origin-same = origin-iff f after s.origin
      (λ name is. puts.others (snapshot_file name) (origin-other name last (λ same. folder.schema.origin last within (is ∙ ap (λ (n : List ℕ). Some n) same))))

  here : IsSome (map.get after (snapshot_path last))
  here = subst (λ (o : Option (List ℕ)). IsSome o) (sym puts.here) refl

  exact-after : (id : ℕ) → id ≤ greatest → HasSnapshotAt after s id ↔ ((folder.snapshots.least ≤ id) × (id ≤ last))
  exact-after zero bound =
      let was = folder.snapshots.exact 0 bound in (
        λ there. (let bounds = was.0 (origin-same.1 there) in (bounds.0, omega arith)),
        λ bounds. origin-same.0 (was.1 (bounds.0, omega arith)),
      )
  exact-after (suc id) bound = elim (same-or-other (suc id) last) as (λ _. HasSnapshotAt after s (suc id) ↔ ((folder.snapshots.least ≤ suc id) × (suc id ≤ last))) [
    | inl same ↦ (
      λ there. (let some = folder.snapshots.some in omega (arith, some, same), omega (arith, same)),
      λ bounds. subst (λ id. IsSome (map.get after (snapshot_path id))) (sym same) here,
    )
    | inr other ↦ (let was = folder.snapshots.exact (suc id) bound in
        let apart = puts.others (snapshot_path (suc id)) (other-snapshot (suc id) last bound within other) in (
          λ there. (let bounds = was.0 (still_there after f (snapshot_path (suc id)) (sym apart) there) in (bounds.0, (let high = bounds.1 in omega (arith, high)))),
          λ bounds. still_there f after (snapshot_path (suc id)) apart (was.1 (bounds.0, below id bounds.1 other)),
        ))
  ]
    where
      below : (id : ℕ) → suc id ≤ last → suc id ≢ last → suc id ≤ length entries
      below id high other = elim (split-last (length entries) (suc id) high) [
        | inl low ↦ low
        | inr is ↦ absurd (other is)
      ]

  names-after : HaveFiles after
  names-after = record {
    schemas = λ id q bound there leads. folder.names.schemas id q bound
        (there_before f after schema_folder (schema_name id) (snapshot_path last) (Some bytes) puts
        (λ e. none-some (schema_name id) (sym (snapshot-none (snapshot_name last)) ∙ e)) q there leads) leads;
    snapshots = λ id q bound there leads. elim (same-or-other id last) as (λ _. q ≡ snapshot_path id) [
      | inl same ↦ elim (same-path q (snapshot_path last)) as (λ _. q ≡ snapshot_path id) [
        | inl is ↦ is ∙ ap snapshot_path (sym same)
        | inr apart ↦ folder.names.snapshots id q bound (still_there after f q (sym (puts.others q apart)) there) leads
      ]
      | inr other ↦ folder.names.snapshots id q bound
          (there_before f after snapshot_folder (snapshot_name id) (snapshot_path last) (Some bytes) puts
          (other-led last id within bound (λ same. other (sym same))) q there leads) leads
    ];
    floors = λ n q bound there leads. folder.names.floors n q bound
        (there_before f after floor_folder (floor_name n) (snapshot_path last) (Some bytes) puts
        (λ e. none-some (floor_name n) (sym (snapshot-no_floor (snapshot_name last)) ∙ e)) q there leads) leads;
    consumers = λ name q there leads. folder.names.consumers name q
        (there_before f after consumer_folder (consumer_file name) (snapshot_path last) (Some bytes) puts
        (λ e. none-some (consumer_file name) (sym (snapshot-no_consumer (snapshot_name last)) ∙ e)) q there leads) leads;
  }

  was-from : (id : ℕ) → IsFrom folder.snapshots.least (length (entries ++ e ∷ [])) id → id ≤ length entries → IsFrom folder.snapshots.least (length entries) id
  was-from id from low = record { after_origin = from.after_origin; from = from.from; to = low }

  -- the entries up to a snapshot that was there are as they were
  first-same : (id : ℕ) → id ≤ length entries → take id (entries ++ e ∷ []) ≡ take id entries
  first-same id low = take-append-le id entries (e ∷ []) low

  module _ (append : IsCommit f after s entries e) where
    committed-after : (id : ℕ) → IsFrom folder.snapshots.least (length (entries ++ e ∷ [])) id → IsCommitted after s (take id (entries ++ e ∷ [])) id
    committed-after id from = elim (split-last (length entries) id (let to = from.to in omega (arith, to, longer))) as (λ _. IsCommitted after s (take id (entries ++ e ∷ [])) id) [
      | inl low ↦ subst (λ (es : List Entry). IsCommitted after s es id) (sym (first-same id low))
          (committed-held f after holds s stay (take id entries) id (folder.commits.committed id (was-from id from low)))
      | inr is ↦ subst (λ (id : ℕ). IsCommitted after s (take id (entries ++ e ∷ [])) id) (sym is)
          (subst (λ (es : List Entry). IsCommitted after s es last) (sym (whole last)) append.committed)
    ]
      where
        whole : (id : ℕ) → take last (entries ++ e ∷ []) ≡ entries ++ e ∷ []
        whole id = ap (λ n. take n (entries ++ e ∷ [])) (sym longer) ∙ take_all (length (entries ++ e ∷ [])) (entries ++ e ∷ []) (omega arith)

    next-after : (id : ℕ) → IsFrom folder.snapshots.least (length (entries ++ e ∷ [])) id → id < length (entries ++ e ∷ []) → FollowsOn after s id
    next-after id from below = elim (same-or-other id (length entries)) as (λ _. FollowsOn after s id) [
      | inl is ↦ subst (λ id. FollowsOn after s id) (sym is) (append.next (let low = from.after_origin in omega (arith, low, is)))
      | inr other ↦ (commits-held one stay f after holds s entries folder.snapshots.least folder.commits).next id
          (was-from id from (let low = below-last id below other in omega (arith, low))) (below-last id below other)
    ]
      where
        below-last : (id : ℕ) → id < length (entries ++ e ∷ []) → id ≢ length entries → id < length entries
        below-last id below other = elim (split-last (length entries) (suc id) (omega (arith, below, longer))) as (λ _. id < length entries) [
          | inl low ↦ omega (arith, low)
          | inr is ↦ absurd (other (omega (arith, is)))
        ]

    begins-after : folder.snapshots.least ≡ 0 → 1 ≤ length (entries ++ e ∷ []) → BeginsOn after s
    begins-after is some = elim (same-or-other (length entries) 0) as (λ _. BeginsOn after s) [
      | inl none ↦ append.begins none
      | inr other ↦ (commits-held one stay f after holds s entries folder.snapshots.least folder.commits).begins is (above (length entries) other)
    ]
      where
        above : (n : ℕ) → n ≢ 0 → 1 ≤ n
        above zero other = absurd (other refl)
        above (suc n) other = omega arith

    gone-after : (first : ℕ) → IsFrom folder.snapshots.least (length (entries ++ e ∷ [])) first → NeverReturn after s first (length (entries ++ e ∷ []))
    gone-after first from early middle late path a b c d here there =
        let old = commits-held one stay f after holds s entries folder.snapshots.least folder.commits in
        elim (split-last (length entries) late (omega (arith, d, longer))) as (λ _. Names after s middle path) [
          | inl low ↦ old.gone first (was-from first from (omega (arith, a, b, c, low))) early middle late path a b c low here there
          | inr is ↦ append.gone early middle path (let low = from.after_origin in omega (arith, low, a))
              (folder-has early (let low = from.from in omega (arith, low, a)) (omega (arith, b, c, is))) b (omega (arith, c, is)) here
              (subst (λ late. Names after s late path) is there)
        ]
      where
        folder-has : (early : ℕ) → folder.snapshots.least ≤ early → early ≤ length entries → HasSnapshotAt f s early
        folder-has early low high = (folder.snapshots.exact early (let most = within in omega (arith, high, most))).1 (low, high)

    commits-after : HasCommits after s (entries ++ e ∷ []) folder.snapshots.least
    commits-after = record { committed = committed-after; begins = begins-after; next = next-after; gone = gone-after }

    pub table-after : AreEntriesOf s (entries ++ e ∷ []) → HasTable after s (entries ++ e ∷ [])
    table-after are =
        let first = folder.schema.first in record {
          names = names-after;
          schema = record {
            first = (first.0, puts.others (schema_path 0) (λ e. snapshot-schema _ 0 (sym e)) ∙ first.1, first.2);
            only = λ id other bound. puts.others (schema_path id) (λ e. snapshot-schema _ id (sym e)) ∙ folder.schema.only id other bound;
            origin = folder.schema.origin;
          };
          history = are;
          snapshots = record {
            least = folder.snapshots.least;
            some = (let some = folder.snapshots.some in omega (arith, some, longer));
            within = omega (arith, within, longer);
            exact = λ id bound.
                let is = exact-after id bound in (
                  λ there. (let bounds = is.0 there in (bounds.0, (let high = bounds.1 in omega (arith, high, longer)))),
                  λ bounds. is.1 (bounds.0, (let high = bounds.1 in omega (arith, high, longer))),
                );
          };
          commits = commits-after;
          floor = floor-held f after folder.snapshots.least holds folder.floor;
          consumers = λ name there.
              let same = puts.others (consumer_path name) (consumer-snapshot name (snapshot_name last)) in
              let was = folder.consumers name (still_there after f (consumer_path name) (sym same) there) in
              (was.0, (was.1.0, same ∙ was.1.1, was.1.2));
        }

-- ---- entries that come

entry-below : (s : TableSchema) (entries : List Entry) (e : Entry) → IsEntryAfter s entries e → BaseBelow (1 + length entries) e
entry-below s entries (append user identifier rows) is = tt
entry-below s entries (compaction base groups) is = let low = is.1 in omega (arith, low)
entry-below s entries (fence number) is = tt

entry-rows : (s : TableSchema) (entries : List Entry) (e : Entry) → IsEntryAfter s entries e → AllByRecursion (IsRowOf s) (entry_rows e)
entry-rows s entries (append user identifier rows) is = is
entry-rows s entries (compaction base groups) is = tt
entry-rows s entries (fence number) is = tt

entry-groups : (s : TableSchema) (entries : List Entry) (e : Entry) → IsEntryAfter s entries e → NamesGroups e
entry-groups s entries (append user identifier rows) is = tt
entry-groups s entries (compaction base groups) (some, within, named, above, rise) = (named, rise)
entry-groups s entries (fence number) is = tt

fence-same : (a b : ℤ) → fence a ≡ fence b → a ≡ b
fence-same a b e = cc

entry-fence : (s : TableSchema) (entries : List Entry) (e : Entry) → IsEntryAfter s entries e → FenceUpTo (length entries) e
entry-fence s entries (append user identifier rows) is x same = cc
entry-fence s entries (compaction base groups) is x same = cc
entry-fence s entries (fence number) is x same =
    subst (λ (z : ℤ). int_lt z (pos (suc (length entries))) ≡ true) (fence-same number x same) is.1

fences-more : (s : TableSchema) (entries : List Entry) (e : Entry) → AreEntriesOf s entries → IsEntryAfter s entries e → HaveFences 0 (entries ++ e ∷ [])
fences-more s entries e are is =
    fences-append 0 entries e (λ x same. at-number (length entries) (0 + length entries) x (omega arith) (entry-fence s entries e is x same))
    (λ n x at. at-number n (0 + n) x (omega arith) (are.fences n x at))

pub rows-append : (s : TableSchema) (entries : List Entry) (e : Entry) → AreEntriesOf s entries → IsEntryAfter s entries e → AreEntriesOf s (entries ++ e ∷ [])
rows-append s entries e are is = record {
  rows = subst (AllByRecursion (IsRowOf s)) (sym (flat_map-append entry_rows entries (e ∷ [])))
      (AllByRecursion-append (IsRowOf s) (flat_map entry_rows entries) (entry_rows e ++ []) are.rows
      (subst (AllByRecursion (IsRowOf s)) (sym (append-nil (entry_rows e))) (entry-rows s entries e is)));
  bases = bases-append 1 entries e (entry-below s entries e is) are.bases;
  groups = AllByRecursion-append NamesGroups entries (e ∷ []) are.groups (entry-groups s entries e is, tt);
  fences = λ n x at. at-number (0 + n) n x (omega arith) (fences-more s entries e are is n x at);
}

goes-itself : (h : History) → GoesOn h h
goes-itself no_table = tt
goes-itself (table s entries) = (refl, [], sym (append-nil entries))

pub goes_on : (me : Actor) (f after : Files) (h later : History) → Change me f h after later → GoesOn h later
goes_on me f after h later (nothing same) = goes-itself h
goes_on me f after h later (own_file path content own other absent puts) = goes-itself h
goes_on me f after h later (schema s bytes there named puts reads) = tt
goes_on me f after h later (committed s entries e bytes there within absent puts fit commit own) = (refl, _, refl)
goes_on me f after h later (beside s entries plain change) = goes-itself (table s entries)

-- ---- what listings say

-- the file of a schema leads to its name, and that of a snapshot does
pub schema-led : (f : Files) (id : ℕ) → id ≤ greatest → IsSome (map.get f (schema_path id)) → LeadsTo f schema_folder (schema_name id)
schema-led f id within there = (schema_path id, there, schema-leads id within)

pub snapshot-led : (f : Files) (id : ℕ) → id ≤ greatest → IsSome (map.get f (snapshot_path id)) → LeadsTo f snapshot_folder (snapshot_name id)
snapshot-led f id within there = (snapshot_path id, there, snapshot-leads id within)

-- where there is no table, no file leads to the name of a schema
pub no-schema : (f : Files) (id : ℕ) → Folder f no_table → id ≤ greatest → ¬ LeadsTo f schema_folder (schema_name id)
no-schema f id folder within led = some-none (map.get f (schema_path id)) (schema-file f folder.names id within led) (folder.schemas id within)

-- where there is one, the schema that a file leads to is the table's, and its id is 0
pub only-schema : (f : Files) (s : TableSchema) (entries : List Entry) (id : ℕ) → Folder f (table s entries) → id ≤ greatest
    → LeadsTo f schema_folder (schema_name id) → (id ≡ 0) × SchemaAt f id s
only-schema f s entries zero folder within led = (refl, folder.schema.first)
only-schema f s entries (suc id) folder within led =
    absurd (some-none (map.get f (schema_path (suc id))) (schema-file f folder.names (suc id) within led)
    (folder.schema.only (suc id) (λ e. omega (arith, e)) within))

-- and its file leads to it
pub first-schema : (f : Files) (s : TableSchema) (entries : List Entry) → Folder f (table s entries)
    → LeadsTo f schema_folder (schema_name 0)
first-schema f s entries folder = schema-led f 0 (omega arith) (subst (λ (found : Option (List ℕ)). IsSome found) (sym folder.schema.first.1) refl)

-- the snapshot that a file leads to is there
pub listed-snapshot : (f : Files) (h : History) (id : ℕ) → Folder f h → id ≤ greatest → LeadsTo f snapshot_folder (snapshot_name id)
    → IsSome (map.get f (snapshot_path id))
listed-snapshot f no_table id folder within led = snapshot-file f folder.names id within led
listed-snapshot f (table s entries) id folder within led = snapshot-file f folder.names id within led

-- and is that of its entry, where it isn't the origin
pub snapshot-bounds : (f : Files) (s : TableSchema) (entries : List Entry) (id : ℕ) → HasTable f s entries → 1 ≤ id → id ≤ greatest
    → IsSome (map.get f (snapshot_path id)) → (least : ℕ) × IsFrom least (length entries) id × HasCommits f s entries least
snapshot-bounds f s entries zero folder least within there = absurd (omega (arith, least))
snapshot-bounds f s entries (suc id) folder least within there =
    let bounds = (folder.snapshots.exact (suc id) within).0 there in
    (folder.snapshots.least, record { after_origin = least; from = bounds.0; to = bounds.1 }, folder.commits)

pub snapshot-committed : (f : Files) (s : TableSchema) (entries : List Entry) (id : ℕ) → HasTable f s entries → 1 ≤ id → id ≤ greatest
    → IsSome (map.get f (snapshot_path id)) → IsCommitted f s (take id entries) id
snapshot-committed f s entries id folder least within there =
    let bounds = snapshot-bounds f s entries id folder least within there in bounds.2.committed id bounds.1

pub read-snapshot : (f : Files) (h : History) (id : ℕ) → Folder f h → 1 ≤ id → id ≤ greatest
    → LeadsTo f snapshot_folder (snapshot_name id) → (snapshot : Snapshot) × SnapshotAt f id snapshot
read-snapshot f no_table id folder least within led =
    absurd (some-none (map.get f (snapshot_path id)) (snapshot-file f folder.names id within led) (folder.snapshots id within))
read-snapshot f (table s entries) id folder least within led =
    let is = snapshot-committed f s entries id folder least within (snapshot-file f folder.names id within led) in (is.snapshot, is.there)

-- the newest snapshot of a table with entries is there
pub newest-there : (f : Files) (s : TableSchema) (entries : List Entry) → HasTable f s entries → HasSnapshotAt f s (length entries)
newest-there f s entries folder =
    (folder.snapshots.exact (length entries) folder.snapshots.within).1 (folder.snapshots.some, omega arith)

-- where the schema names no origin, a snapshot after it is there
from-newest : (f : Files) (s : TableSchema) (newest : ℕ) → HasSnapshotAt f s newest → newest ≤ greatest → s.origin ≡ None
    → (id : ℕ) × (1 ≤ id) × (id ≤ greatest) × IsSome (map.get f (snapshot_path id))
from-newest f s zero there within none =
    absurd (subst (λ (o : Option (List ℕ)). IsSomeAnd o (λ origin. IsSome (map.get f (snapshot_file origin)))) none there)
from-newest f s (suc k) there within none = (suc k, omega arith, within, there)

pub unnamed-origin : (f : Files) (s : TableSchema) (entries : List Entry) → HasTable f s entries → s.origin ≡ None
    → (id : ℕ) × (1 ≤ id) × (id ≤ greatest) × IsSome (map.get f (snapshot_path id))
unnamed-origin f s entries folder none = from-newest f s (length entries) (newest-there f s entries folder) folder.snapshots.within none

-- a table without entries has the origin that its schema names
named : (o : Option (List ℕ)) (P : List ℕ → Type 0) → IsSomeAnd o P → (x : List ℕ) × (o ≡ Some x) × P x
named None P is = absurd is
named (Some x) P is = (x, refl, is)

pub named-origin : (f : Files) (s : TableSchema) → Folder f (table s [])
    → (origin : List ℕ) × (s.origin ≡ Some origin) × IsSome (map.get f (snapshot_file origin))
named-origin f s folder = named s.origin _ (origin-there f s folder)

-- and no file leads to a snapshot
pub no-snapshot : (f : Files) (s : TableSchema) (id : ℕ) → Folder f (table s []) → 1 ≤ id → id ≤ greatest
    → ¬ LeadsTo f snapshot_folder (snapshot_name id)
no-snapshot f s zero folder least within led = omega (arith, least)
no-snapshot f s (suc id) folder least within led =
    let bounds = (folder.snapshots.exact (suc id) within).0 (snapshot-file f folder.names (suc id) within led) in
    let newest = bounds.1 in
    omega (arith, newest)

-- a listing has no schema exactly where there is no table
pub listed-none : (f : Files) (h : History) (names : List (List ℕ)) → Folder f h → IsListing schema_folder names f
    → ((id : ℕ) → id ≤ greatest → ¬ Contains names (schema_name id)) ↔ (h ≡ no_table)
listed-none f no_table names folder listing =
    (λ none. refl, λ is id within has. no-schema f id folder within ((listing.exact (schema_name id)).0 has))
listed-none f (table s entries) names folder listing = (
  λ none. absurd (none 0 (omega arith) ((listing.exact (schema_name 0)).1 (first-schema f s entries folder))),
  λ is. cc,
)

-- and the schema of id 0 alone where there is one
pub listed-first : (f : Files) (s : TableSchema) (entries : List Entry) (names : List (List ℕ)) → Folder f (table s entries)
    → IsListing schema_folder names f → (id : ℕ) → id ≤ greatest → Contains names (schema_name id) ↔ (id ≡ 0)
listed-first f s entries names folder listing id within = (
  λ has. (only-schema f s entries id folder within ((listing.exact (schema_name id)).0 has)).0,
  λ is. subst (λ (id : ℕ). Contains names (schema_name id)) (sym is) ((listing.exact (schema_name 0)).1 (first-schema f s entries folder)),
)
