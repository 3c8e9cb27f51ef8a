-- What readers, compactions and consumers rely on while others act: which bytes each snapshot's files had when it was
-- committed, which runs each group had, and what is known of each consumer beside its file.
use Rattle.std.specs.Prelude.{◌≡◌, ◌≢◌, ◌⊎◌, ℕ, suc, ◌+◌, ◌-◌, ◌<◌, ◌≤◌, List, [], ◌∷◌, ◌++◌, length, take}
use Rattle.std.specs.Prelude.{Contains, true, false, Some, None, IsSome}
use Rattle.std.specs.FinMap as map
use Rattle.pm_store.specs.Files.{Files}
use Rattle.pm_values.specs.declared.group.Group.{Group}
use Rattle.pm_model_consumers.specs.Changes.{HasLost, IsUnsettled}
use Rattle.pm_model_consumers.specs.Claims.{Claim, Counts, Said, free, known_at, moved_past, new_at, settled}
use Rattle.pm_model_consumers.specs.Claims.{waits, with_claim}
use Rattle.pm_model_history.specs.History.{Entry, History, IsTableOf, no_table, table}
use Rattle.pm_schema.specs.declared.schema.TableSchema.{TableSchema}
use Rattle.pm_snapshot.specs.Names.{greatest}
use Rattle.pm_snapshot.specs.declared.snapshot.Snapshot.{Snapshot}
use Rattle.pm_model_folder.specs.Changes.{Actor, Change, IsNamedBy, IsTablePath}
use Rattle.pm_model_folder.specs.Commits.{IsCommitted, Names, Needs}
use Rattle.pm_model_folder.specs.Consumers.{KnowsConsumers, follower_of, frame_in, said_at}
use Rattle.pm_model_folder.specs.Folder.{Folder, HaveSettled}
use Rattle.pm_model_folder.specs.Meaning.{HasSnapshotAt, IsLeast, SnapshotAt}
use Rattle.pm_model_folder.specs.Paths.{consumer_path, floor_path}
use Rattle.pm_model_folder.specs.Runs.{AreInFiles}
use Rattle.pm_runs.specs.Succession.{Follows, IsSuccession, KnownRun}

-- A history, and from some snapshot on the files of the folder as they stood when each was committed. Nothing is known
-- of the snapshots before it, which were gone already when the folder was found. From the one on that was the newest
-- then, or from the origin where there was no table, it has the runs of each group, newest first. And of each name it
-- has what is known of that consumer.
pub record Past : Type 0 where
  pub history : History
  pub first : ℕ
  pub stood : ℕ → Files
  pub since : ℕ
  pub runs : ℕ → Group → List KnownRun
  pub claims : List ℕ → Claim

-- how many entries a history has
abbrev pub count_of : History → ℕ
count_of no_table = 0
count_of (table s entries) = length entries

-- the snapshot is one of which something is known
pub record IsKnown (p : Past) (id : ℕ) : Type 0 where
  pub after_origin : 1 ≤ id
  pub from : p.first ≤ id
  pub to : id ≤ count_of p.history

-- A file that a known snapshot needs, whether or not that is gone, is absent or has the bytes that it had. Where the
-- snapshot is there, so is the file.
pub record KeepsFiles (f : Files) (s : TableSchema) (stood : Files) (id : ℕ) : Type 0 where
  pub same : (path : List ℕ) → Needs stood s id path → (map.get f path ≡ None) ⊎ (map.get f path ≡ map.get stood path)
  pub there : HasSnapshotAt f s id → (path : List ℕ) → Needs stood s id path → map.get f path ≡ map.get stood path

-- What is known of the groups' runs: at each snapshot they are those that its files had as they stood; they stand for
-- the group's rows, and at each next one they follow those before.
pub record KnowsRuns (s : TableSchema) (entries : List Entry) (p : Past) : Type 0 where
  pub since : p.since ≤ length entries
  pub from : (id : ℕ) → 1 ≤ id → p.since ≤ id → p.first ≤ id
  pub stood : (id : ℕ) (g : Group) → p.since ≤ id → id ≤ length entries → AreInFiles (p.stood id) s id g (p.runs id g)
  pub succession : (g : Group) → IsSuccession s g entries p.since (λ n. p.runs n g)

-- the count of appends that a snapshot bore never fell, from the one on that was the newest when the folder was found
abbrev pub KnowsAppends : List Entry → Past → Type 0
KnowsAppends entries p = (early late : ℕ) (x y : Snapshot) → p.since ≤ early → 1 ≤ early → early ≤ late
    → late ≤ length entries → SnapshotAt (p.stood early) early x → SnapshotAt (p.stood late) late y
    → x.appends ≤ y.appends

-- What is known of a table's snapshots: all that are there are known, each was that of its entry, its files are kept,
-- a path that one names and a later one too is named by those between, the groups' runs are known, counts of appends
-- never fell, and no snapshot has gone that a consumer which counts needs.
pub record KnowsTable (f : Files) (s : TableSchema) (entries : List Entry) (p : Past) : Type 0 where
  pub start : p.first ≤ length entries + 1
  pub reaches : (id : ℕ) → 1 ≤ id → id ≤ length entries → HasSnapshotAt f s id → p.first ≤ id
  pub committed : (id : ℕ) → IsKnown p id → IsCommitted (p.stood id) s (take id entries) id
  pub kept : (id : ℕ) → IsKnown p id → KeepsFiles f s (p.stood id) id
  pub gone : (early middle late : ℕ) (path : List ℕ) → IsKnown p early → early < middle → middle < late
      → IsKnown p late → Names (p.stood early) s early path → Names (p.stood late) s late path
      → Names (p.stood middle) s middle path
  pub runs : KnowsRuns s entries p
  pub appends : KnowsAppends entries p
  pub consumers : KnowsConsumers f s entries p.claims

-- where there is no table nothing is known of snapshots and of consumers, and no group has a run
pub record KnowsNone (p : Past) : Type 0 where
  pub first : p.first ≤ 1
  pub since : p.since ≡ 0
  pub runs : (g : Group) → p.runs 0 g ≡ []
  pub claims : (name : List ℕ) → p.claims name ≡ free

abbrev pub KnowsPast : Files → History → Past → Type 0
KnowsPast f no_table p = KnowsNone p
KnowsPast f (table s entries) p = KnowsTable f s entries p

-- the files stand for the history, and are kept as the past has them
pub record Stands (f : Files) (p : Past) : Type 0 where
  pub folder : Folder f p.history
  pub past : KnowsPast f p.history p

-- ---- changes

-- the path is none that a known snapshot needs
abbrev pub IsUnnamed : Past → TableSchema → List ℕ → Type 0
IsUnnamed p s path = (id : ℕ) → IsKnown p id → Needs (p.stood id) s id path → ⊥

-- the path is one that the snapshot before this one names, or none that a known snapshot needs
abbrev pub IsOldOrUnnamed : Past → TableSchema → ℕ → List ℕ → Type 0
IsOldOrUnnamed p s id path =
    (IsKnown p (id - 1) × Names (p.stood (id - 1)) s (id - 1) path) ⊎ IsUnnamed p s path

-- the runs that a group has at the snapshot of an entry which comes after these are those that the files have then, and
-- they follow by the entry those at the snapshot before
pub record RunsFollow (after : Files) (s : TableSchema) (entries : List Entry) (e : Entry) (g : Group) (p q : Past)
    : Type 0 where
  pub are : AreInFiles after s (suc (length entries)) g (q.runs (suc (length entries)) g)
  pub follow : Follows s g p.since (λ n. p.runs n g) (length entries) e (q.runs (suc (length entries)) g)

-- the file of each consumer but one stays
abbrev pub OthersStay : Files → List ℕ → Files → Type 0
OthersStay f name after = (other : List ℕ) → other ≢ name
    → map.get after (consumer_path other) ≡ map.get f (consumer_path other)

-- What an actor's step makes of what is known of consumers, where the files stand for this history afterwards.
pub data MovesConsumers (me : Actor) (f after : Files) (h : History) (claims : List ℕ → Claim)
    : (List ℕ → Claim) → Type 0 where
  -- nothing, where each consumer's file stays
  untouched : ((name : List ℕ) → map.get after (consumer_path name) ≡ map.get f (consumer_path name))
      → MovesConsumers me f after h claims claims
  -- a file goes: nothing is known of the name then
  goes : (name : List ℕ) → map.get after (consumer_path name) ≡ None → OthersStay f name after
      → MovesConsumers me f after h claims (with_claim name free claims)
  -- a file that isn't settled becomes new, at most one above the newest snapshot: who put it there waits
  registers : (name : List ℕ) (next : ℕ) → 1 ≤ next → next ≤ suc (count_of h) → IsUnsettled (said_at f name)
      → said_at after name ≡ Some (new_at next) → OthersStay f name after
      → MovesConsumers me f after h claims (with_claim name (waits (follower_of me) false) claims)
  -- who waits lists the floors, none of which exceeds the file's number: the consumer counts then
  lists : (name : List ℕ) (next : ℕ) → ((path : List ℕ) → map.get after path ≡ map.get f path)
      → claims name ≡ waits (follower_of me) false → said_at f name ≡ Some (new_at next)
      → ((n : ℕ) → n ≤ greatest → IsSome (map.get f (floor_path n)) → n ≤ next)
      → MovesConsumers me f after h claims (with_claim name (waits (follower_of me) true) claims)
  -- and settles it then
  settles : (name : List ℕ) (next : ℕ) → claims name ≡ waits (follower_of me) true
      → said_at f name ≡ Some (new_at next) → said_at after name ≡ Some (known_at next) → OthersStay f name after
      → MovesConsumers me f after h claims (with_claim name (settled next []) claims)
  -- who doesn't wait any more settles what another put there: nothing is known of the name then
  usurps : (name : List ℕ) (next : ℕ) → HasLost (follower_of me) (claims name)
      → said_at f name ≡ Some (new_at next) → said_at after name ≡ Some (known_at next) → OthersStay f name after
      → MovesConsumers me f after h claims (with_claim name free claims)
  -- a consumer that isn't new goes on by one snapshot, whose frame was printed
  moves : (name : List ℕ) (next : ℕ) (text : List ℕ) → said_at f name ≡ Some (known_at next) → next ≤ count_of h
      → text ≡ frame_in h next → said_at after name ≡ Some (known_at (suc next)) → OthersStay f name after
      → MovesConsumers me f after h claims (with_claim name (moved_past text (claims name)) claims)

-- What a step leaves of consumers, where it is none of these: each one's file, and what is known of it.
pub record LeavesConsumers (f : Files) (p : Past) (after : Files) (q : Past) : Type 0 where
  pub files : (name : List ℕ) → map.get after (consumer_path name) ≡ map.get f (consumer_path name)
  pub claims : (name : List ℕ) → q.claims name ≡ p.claims name

-- The file of each consumer is as other files have it, and each that is settled there is known to be.
pub record HasConsumersOf (h : History) (was f : Files) (p : Past) : Type 0 where
  pub files : (name : List ℕ) → map.get f (consumer_path name) ≡ map.get was (consumer_path name)
  pub known : (names : List (List ℕ)) (name : List ℕ) → HaveSettled was h names → Contains names name
      → (from : ℕ) × (p.claims name ≡ settled from [])

-- a known snapshot names the path
abbrev pub WasNamed : Past → TableSchema → List ℕ → Type 0
WasNamed p s path = (id : ℕ) × IsKnown p id × Names (p.stood id) s id path

-- the number of each consumer that counts is above that of a snapshot
abbrev pub AreAbove : Files → (List ℕ → Claim) → ℕ → Type 0
AreAbove f claims id = (name : List ℕ) (said : Said) → Counts (claims name) → said_at f name ≡ Some said
    → id < said.next

-- What an actor's step does to the files and to what they stand for, with what is known: a change of some kind. A file
-- appears only at a path that no known snapshot needs. What is known stays. Of a new snapshot the files are known as
-- they are then; what it names and the one before it didn't is needed by no other; and each group's runs go on with its
-- entry. What is known of consumers moves on with their files. Of the files that snapshots name only such go as a known
-- one named, and no snapshot goes that a consumer needs which counts.
pub record Advances (me : Actor) (f : Files) (p : Past) (after : Files) (q : Past) : Type 0 where
  pub change : Change me f p.history after q.history
  pub fresh : (s : TableSchema) (path : List ℕ) → IsTableOf s p.history → map.get f path ≡ None
      → IsSome (map.get after path) → IsUnnamed p s path
  pub first : q.first ≡ p.first
  pub same : (id : ℕ) → IsKnown p id → q.stood id ≡ p.stood id
  pub stood : (id : ℕ) → IsKnown q id → (IsKnown p id → ⊥) → q.stood id ≡ after
  pub new : (s : TableSchema) (id : ℕ) (path : List ℕ) → IsTableOf s q.history → IsKnown q id → (IsKnown p id → ⊥)
      → Names after s id path → IsOldOrUnnamed p s id path
  pub since : q.since ≡ p.since
  pub runs : (id : ℕ) (g : Group) → id ≤ count_of p.history → q.runs id g ≡ p.runs id g
  pub follows : (s : TableSchema) (entries : List Entry) (e : Entry) (g : Group) → p.history ≡ table s entries
      → q.history ≡ table s (entries ++ e ∷ []) → RunsFollow after s entries e g p q
  pub consumers : MovesConsumers me f after q.history p.claims q.claims
  pub gone : (s : TableSchema) (path : List ℕ) → IsTableOf s p.history → IsTablePath path → IsSome (map.get f path)
      → map.get after path ≡ None → WasNamed p s path
  pub spared : (s : TableSchema) (least : ℕ) → IsTableOf s p.history → IsLeast f s least
      → (HasSnapshotAt after s least → ⊥) → AreAbove f p.claims least

-- ---- an actor's names

-- no known snapshot names a file that the actor named
abbrev pub HasNamedNone : Actor → Past → Type 0
HasNamedNone me p = (s : TableSchema) (id : ℕ) (path : List ℕ) → IsTableOf s p.history → IsKnown p id
    → Names (p.stood id) s id path → IsNamedBy me path → ⊥
