-- What a committer knows of the table, and what its steps mean for the files.
use Rattle.std.specs.Prelude.{◌≡◌, ◌≢◌, ◌⊎◌, ℕ, suc, ◌≤◌, List, [], ◌∷◌, ◌++◌, ◌+◌, length, codes}
use Rattle.std.specs.Prelude.{Option, None, Some, IfSome, IsSome}
use Rattle.std.specs.FinMap as map
use Rattle.std.specs.List.{AllByRecursion}
use Rattle.pm_values.specs.declared.refusal.Refusal.{Refusal}
use Rattle.pm_values.specs.declared.refusal.Refusal.TheVariants as refusals
use Rattle.pm_store.specs.Files.{Files, IsListing}
use Rattle.pm_store.specs.Store.{StoreView}
use Rattle.pm_machine.specs.Moves.{Moves}
use Rattle.pm_put.specs.Meaning.{Appears, AreSame, IsAt, IsPut}
use Rattle.pm_put.specs.declared.phase.Phase as put_phase
use Rattle.pm_model_history.specs.History.{Entry, History, IsTableOf, append, compaction, table}
use Rattle.pm_schema.specs.declared.schema.TableSchema.{TableSchema}
use Rattle.pm_snapshot.specs.Names.{MayName}
use Rattle.pm_snapshot.specs.declared.snapshot.Snapshot.{Snapshot}
use Rattle.pm_model_folder.specs.Changes.{Actor, IsOwn}
use Rattle.pm_model_folder.specs.Entries.{IsFenced}
use Rattle.pm_model_folder.specs.Ledger.{Advances, HasNamedNone, IsKnown, Past, Stands, count_of}
use Rattle.pm_model_folder.specs.Meaning.{SnapshotAt}
use Rattle.pm_model_folder.specs.Paths.{snapshot_path}
use Rattle.pm_read_schema.specs.Beside.{IsExpired}
use Rattle.pm_read_table.specs.Meaning as reader
use Rattle.pm_read_table.specs.Meaning.{IsViewIn}
use Rattle.pm_read_table.specs.declared.asked.Wanted.TheVariants as wants
use Rattle.pm_read_table.specs.declared.phase.Phase as view_phase
use Rattle.pm_read_table.specs.declared.phase.Phase.TheVariants as readers
use Rattle.pm_read_table.specs.declared.view.View.{View}
use Rattle.pm_made.specs.Commit.{Attempt, MakesNames}
use Rattle.pm_made.specs.Files.{IsMadeOf}
use Rattle.pm_made.specs.Intent.{Means}
use Rattle.pm_made.specs.Refusals.{refusal_of}
use Rattle.pm_made.specs.declared.newest.Author.{Author}
use Rattle.pm_made.specs.declared.newest.Newest.{Newest}
use Rattle.pm_made.specs.declared.intent.Intent.{Intent}
use Rattle.pm_made.specs.declared.intent.Intent.TheVariants as intents
use Rattle.pm_made.specs.declared.intent.Plan.{Plan}
use Rattle.pm_append.specs.Commit.{HasAppended}
use Rattle.pm_compaction.specs.Compacted.{HasCompacted}
use Rattle.pm_compaction.specs.Plan.{KnowsPlan}
use Rattle.pm_put.specs.declared.putting.CommitFile.{CommitFile}
use Rattle.pm_commit.specs.Committer.{IsCommitter, Reads, found_in, put_of}
use Rattle.pm_commit.specs.Marks.{FindsUsed}
use Rattle.pm_commit.specs.Own.{IsNoAppend, OwnView, actor_of, tries}
use Rattle.pm_commit.specs.Search.{seen_of}
use Rattle.pm_commit.specs.declared.search.Seen.TheVariants as seen
use Rattle.pm_commit.specs.declared.found.Found.{Found}
use Rattle.pm_commit.specs.declared.phase.Phase.{Phase}
use Rattle.pm_commit.specs.declared.phase.Phase.TheVariants as phases

-- ---- what it may change

-- the commit of a phase in which calls are left
abbrev pub own_in : Phase → Option OwnView
own_in (phases.Names own s) = Some own
own_in (phases.View own m) = Some own
own_in (phases.Search own q) = Some own
own_in (phases.Put own s id m) = Some own
own_in (phases.Committed author id) = None
own_in (phases.Already author) = None
own_in phases.Over = None

-- the history stays, or the entry is added to it
abbrev pub Appends : Entry → History → History → Type 0
Appends e h later = (later ≡ h)
    ⊎ ((s : TableSchema) × (es : List Entry) × (h ≡ table s es) × (later ≡ table s (es ++ e ∷ [])))

-- no file changes but that some appear: the actor's own, and the one at this path
abbrev pub AddsOwn : Actor → List ℕ → Files → Files → Type 0
AddsOwn me last f after = (path : List ℕ) → (map.get after path ≡ map.get f path)
    ⊎ ((map.get f path ≡ None) × (IsOwn me path ⊎ (path ≡ last)))

-- the path of the snapshot after the newest
abbrev pub path_after : History → List ℕ
path_after h = snapshot_path (suc (count_of h))

-- What a commit with this entry may change: one of its actor's kinds of change, and of these only that its entry is
-- added. Files of its actor appear, and the next snapshot; none goes or becomes another, and of consumers is known what
-- was.
pub record MakesOwn (own : OwnView) (e : Entry) (f : Files) (p : Past) (after : Files) (later : Past) : Type 0 where
  pub advances : Advances (actor_of own) f p after later
  pub appends : Appends e p.history later.history
  pub adds : AddsOwn (actor_of own) (path_after p.history) f after
  pub consumers : (name : List ℕ) → later.claims name ≡ p.claims name

abbrev pub MakesIn : Option OwnView → Entry → Files → Past → Files → Past → Type 0
MakesIn None e f p after later = ⊥
MakesIn (Some own) e f p after later = MakesOwn own e f p after later

abbrev pub MakesEntry : Entry → Phase → Files → Past → Files → Past → Type 0
MakesEntry e m f p after later = MakesIn (own_in m) e f p after later

-- ---- what it knows

-- The entry is the commit's. The actor's names may stand in paths, and no known snapshot names a file that it named;
-- and its base is a snapshot's that was committed.
pub record KnowsOwn (own : OwnView) (e : Entry) (s : TableSchema) (p : Past) : Type 0 where
  pub is_table : IsTableOf s p.history
  pub means : Means s own.author own.intent e
  pub may : MayName own.names
  pub unnamed : HasNamedNone (actor_of own) p
  pub from : own.author.base ≤ count_of p.history

-- at snapshot 0 the table has an origin, which its schema names
abbrev pub HasOriginAt : TableSchema → ℕ → Type 0
HasOriginAt s id = id ≡ 0 → IsSome s.origin

-- the table was found as a view has it which is one of the table at a snapshot as it stood, with its live entries
pub record IsFoundIn (p : Past) (found : Found) : Type 0 where
  pub view : View
  pub is : found ≡ found_in view
  pub wanted : view.wanted ≡ wants.Entries
  pub stood : IsViewIn p view
  pub origin : HasOriginAt view.schema view.id

-- a reader that reads the origin reads one that the schema names
abbrev pub HasOrigin : view_phase.Phase → Type 0
HasOrigin (readers.Origin q) = IsSome q.asked.schema.origin
HasOrigin (readers.Ready v) = HasOriginAt v.schema v.id
HasOrigin m = Unit {0}

-- files that a commit created are there, but where its base is fenced
abbrev pub AreThere : OwnView → Files → Past → List CommitFile → Type 0
AreThere own f p done = IsFenced own.author.base p.history ⊎ AllByRecursion (IsPut f) done

-- Of a try, what was made of what it found: its putter is one of that, and the files that it created are there.
pub record KnowsTry (own : OwnView) (e : Entry) (s : TableSchema) (id : ℕ) (m : put_phase.Phase) (f : Files) (p : Past)
    : Type 0 where
  pub attempt : Attempt
  pub same_intent : attempt.intent ≡ own.intent
  pub same_author : attempt.author ≡ own.author
  pub found : IsFoundIn p (record { schema = s; newest = attempt.newest })
  pub names : MakesNames (actor_of own) attempt
  pub made : IsMadeOf s attempt.newest attempt.author attempt.intent attempt.names attempt.made
  pub allowed : refusal_of attempt.newest attempt.author attempt.intent ≡ None
  pub is : id ≡ attempt.made.id
  pub put : IsAt (put_of s attempt.made) (AreThere own f p) m

-- the history has the entry with this id
abbrev pub HasEntry : Entry → ℕ → Past → Type 0
HasEntry e id p = (s : TableSchema) × (before after : List Entry)
    × (p.history ≡ table s (before ++ e ∷ after)) × (id ≡ length before + 1)

-- The snapshot after the newest is there, and to its last field but the names of its lists it is the one that adds the
-- entry for the author. Of a compaction it is that of some plan which names the entry's groups.
abbrev pub BearsAdded : Files → TableSchema → Newest → Author → Entry → Type 0
BearsAdded f s newest author (append user identifier rows) =
    (user ≡ author.user) × (identifier ≡ author.identifier) × HasAppended f s newest author (length rows)
BearsAdded f s newest author (compaction base groups) = (plan : Plan) × (base ≡ author.base)
    × (groups ≡ plan.groups.items) × HasCompacted f s newest author plan
BearsAdded f s newest author other = ⊥

-- The snapshot with this id is the commit's: the history has its entry, and, as the snapshot stood, it was to its last
-- field but the names of its lists the one that adds the entry for its author to the snapshot before it, which a try
-- had found.
pub record HasCommitted (author : Author) (e : Entry) (id : ℕ) (p : Past) : Type 0 where
  pub entry : HasEntry e id p
  pub known : IsKnown p id
  pub found : Found
  pub is_found : IsFoundIn p found
  pub is_table : IsTableOf found.schema p.history
  pub next : id ≡ found.newest.id + 1
  pub stood : BearsAdded (p.stood id) found.schema found.newest author e

-- a snapshot that was committed bore, as it stood, the author's user and an identifier that isn't smaller
pub record HasEarlier (author : Author) (p : Past) : Type 0 where
  pub id : ℕ
  pub known : IsKnown p id
  pub snapshot : Snapshot
  pub stood : SnapshotAt (p.stood id) id snapshot
  pub reached : seen_of author snapshot ≡ seen.Reached

-- ---- the files of rows that it was given

-- What was planned of a commit with this base by an actor, and these are the files of rows that were created for it: an
-- append makes its own at each try.
abbrev pub PlannedIn : Intent → Actor → ℕ → List CommitFile → Past → Type 0
PlannedIn (intents.Append batch) me base given p = given ≡ []
PlannedIn (intents.Compact plan) me base given p = (s : TableSchema) × KnowsPlan me s base plan given p
PlannedIn (intents.Fence number) me base given p = ⊥

abbrev pub IsPlanned : OwnView → List CommitFile → Past → Type 0
IsPlanned own given p = PlannedIn own.intent (actor_of own) own.author.base given p

-- of these files it was given, and those done are there, but where its base is fenced; and all are
abbrev pub WasGiven : List CommitFile → List CommitFile → Phase → Files → Past → Type 0
WasGiven given done m f p = IfSome (own_in m) (λ own. IsPlanned own given p × AreThere own f p done)

abbrev pub HasGiven : Phase → Files → Past → Type 0
HasGiven m f p = (given : List CommitFile) × WasGiven given given m f p

-- what it knows in each phase
abbrev pub KnowsIn : Entry → Phase → Files → Past → Type 0
KnowsIn e (phases.Names own s) f p = KnowsOwn own e s p
KnowsIn e (phases.View own m) f p =
    (s : TableSchema) × Reads m s × KnowsOwn own e s p × reader.Knows m f p × HasOrigin m
KnowsIn e (phases.Search own q) f p = KnowsOwn own e q.found.schema p × IsFoundIn p q.found
KnowsIn e (phases.Put own s id m) f p = KnowsOwn own e s p × KnowsTry own e s id m f p
KnowsIn e (phases.Committed author id) f p = HasCommitted author e id p
KnowsIn e (phases.Already author) f p = HasEarlier author p
KnowsIn e phases.Over f p = Unit {0}

-- What it knows, whatever others do, where this is its entry: and that the files of rows that it was given are there.
abbrev pub Knows : Entry → Phase → Files → Past → Type 0
Knows e m f p = IsCommitter m × KnowsIn e m f p × HasGiven m f p

-- what it knows while those that it is given are yet to be created: of these those done are there
abbrev pub KnowsBut : Entry → List CommitFile → List CommitFile → Phase → Files → Past → Type 0
KnowsBut e given done m f p = IsCommitter m × KnowsIn e m f p × WasGiven given done m f p

-- ---- the creates of the files that it is given

-- what such a create may change: nothing, or the file appears, whole or in part
abbrev pub MakesFile : CommitFile → Files → Files → Type 0
MakesFile file f after = AreSame f after ⊎ ((content : List ℕ) × Appears file.path content f after)

-- the actor isn't the one that commits
abbrev pub IsOtherThan : Actor → Phase → Type 0
IsOtherThan other m = IfSome (own_in m) (λ own. actor_of own ≢ other)

-- Whichever its entry is: a step makes one of these changes, or none, and what the committer knows holds after it.
abbrev pub CommitterMoved : Phase → Phase → StoreView → StoreView → Type 0
CommitterMoved old new before after =
    (e : Entry) → Moves Stands (MakesEntry e old) (Knows e old) (Knows e new) before after

-- ---- its refusals

-- a listed name has the actor's mark, or the file is there
abbrev pub IsMet : OwnView → Files → List ℕ → Type 0
IsMet own f path =
    ((names : List (List ℕ)) × IsListing (codes "manifest") names f × FindsUsed own.names names (Some path))
    ⊎ ((bytes : List ℕ) × (map.get f path ≡ Some bytes))

-- a snapshot as it stood is a reason against the commit, whose base is its id in the first try, and stays that later
abbrev pub IsDenied : OwnView → Past → Refusal → Type 0
IsDenied own p refusal = (found : Found) × (base : ℕ) × IsFoundIn p found
    × (((own.lost ≡ []) × (base ≡ found.newest.id)) ⊎ (base ≡ own.author.base))
    × (refusal_of found.newest (record own.author { base = base }) own.intent ≡ Some refusal)

-- The refusals that answers show where the files stand, whatever others do. No file is damaged, and none was taken that
-- an append needs.
abbrev pub MayRefuseOwn : OwnView → Files → Past → Refusal → Type 0
MayRefuseOwn own f p refusals.Memory = Unit {0}
MayRefuseOwn own f p (refusals.Expired id) = IsExpired f p id
MayRefuseOwn own f p (refusals.SessionUsed path) = IsMet own f path
MayRefuseOwn own f p (refusals.Fenced base fence) = IsDenied own p (refusals.Fenced base fence)
MayRefuseOwn own f p (refusals.CompactTaken file) =
    IsNoAppend own.intent × IsDenied own p (refusals.CompactTaken file)
MayRefuseOwn own f p (refusals.Limit which number) = IsDenied own p (refusals.Limit which number)
MayRefuseOwn own f p (refusals.Contended ids) = (id : ℕ) × (ids ≡ own.lost ++ id ∷ []) × (length ids ≡ tries)
MayRefuseOwn own f p other = ⊥

abbrev pub MayRefuse : Phase → Files → Past → Refusal → Type 0
MayRefuse m f p refusal = IfSome (own_in m) (λ own. MayRefuseOwn own f p refusal)
