-- The own calls of a committer, and what they show.
use Rattle.std.specs.Prelude.{◌≡◌, ◌⊎◌, ℕ, ◌+◌, ◌<◌, List, [], ◌∷◌, ◌++◌, length, true, false, None, Some, Ok, Err}
use Rattle.std.specs.Prelude.{Result, IfErr}
use Rattle.pm_values.specs.declared.refusal.Refusal.{Refusal}
use Rattle.pm_values.specs.declared.refusal.Refusal.TheVariants as refusals
use Rattle.pm_store.specs.declared.answer.Answer.{Answer}
use Rattle.pm_store.specs.declared.answer.Answer.TheVariants as answers
use Rattle.pm_store.specs.Store.{StoreView}
use Rattle.pm_machine.specs.Trace.{Acts, Event, IsFailed, MayEnd, answered}
use Rattle.pm_put.specs.Trace as put
use Rattle.pm_put.specs.declared.phase.Phase as put_phase
use Rattle.pm_put.specs.declared.phase.Phase.TheVariants as puts
use Rattle.pm_schema.specs.declared.schema.TableSchema.{TableSchema}
use Rattle.pm_snapshot.specs.Snapshot.{snapshot_in}
use Rattle.pm_snapshot.specs.declared.fault.SnapFault.TheVariants as faults
use Rattle.pm_snapshot.specs.declared.snapshot.Snapshot.{Snapshot}
use Rattle.pm_model_folder.specs.Paths.{snapshot_path}
use Rattle.pm_read_schema.specs.Trace.{Names}
use Rattle.pm_read_table.specs.Trace as reader
use Rattle.pm_read_table.specs.Trace.{read_file}
use Rattle.pm_read_table.specs.declared.view.View.{View}
use Rattle.pm_made.specs.Files.{IsMadeOf}
use Rattle.pm_made.specs.Refusals.{refusal_of}
use Rattle.pm_made.specs.declared.newest.Author.{Author}
use Rattle.pm_made.specs.declared.newest.Made.{Made}
use Rattle.pm_commit.specs.Committer.{found_in, manifests_call, newest_in, newest_of, next_call, put_of}
use Rattle.pm_commit.specs.Marks.{FindsUsed}
use Rattle.pm_commit.specs.Own.{IsNoAppend, OwnView, begun, tries, with_lost, with_named}
use Rattle.pm_commit.specs.Search.{older_ids, seen_in, seen_of}
use Rattle.pm_commit.specs.declared.search.Seen.{Seen}
use Rattle.pm_commit.specs.declared.search.Seen.TheVariants as seen
use Rattle.pm_commit.specs.declared.committer.CommitStep.{CommitStep}
use Rattle.pm_commit.specs.declared.phase.Phase.{Phase}
use Rattle.pm_commit.specs.declared.phase.Phase.TheVariants as phases

-- ---- its events

abbrev pub listed_manifests : Names → Event
listed_manifests names = answered manifests_call (answers.Listed names)

-- ---- a search

-- snapshots were read in this order, and each was another user's
abbrev pub HavePassed : Author → List ℕ → List Event → Type 0
HavePassed a [] own = own ≡ []
HavePassed a (id ∷ ids) own = (bytes : List ℕ) × (x : Snapshot) × (later : List Event) × (snapshot_in id bytes ≡ Ok x)
    × (seen_of a x ≡ seen.Other) × (own ≡ read_file (snapshot_path id) (Some bytes) ∷ later) × HavePassed a ids later

-- An earlier commit was looked for: the newest snapshot is another user's, and so is each that was read below it,
-- falling; these are left.
pub record Searched (o : OwnView) (v : View) (left : List ℕ) (own : List Event) : Type 0 where
  pub asked : o.check ≡ true
  pub newest : seen_in o.author v.snapshot ≡ seen.Other
  pub passed : List ℕ
  pub parts : older_ids v.listed.items ≡ passed ++ left
  pub read : HavePassed o.author passed own

-- what the snapshot says that the search came to last: the newest one, or an older one
pub data Meets (o : OwnView) (v : View) (said : Seen) (own : List Event) : Type 0 where
  at_newest : o.check ≡ true → seen_in o.author v.snapshot ≡ said → own ≡ [] → Meets o v said own
  at_older : (id : ℕ) (left bytes : List ℕ) (x : Snapshot) (earlier : List Event) → Searched o v (id ∷ left) earlier
      → snapshot_in id bytes ≡ Ok x → seen_of o.author x ≡ said
      → own ≡ earlier ++ read_file (snapshot_path id) (Some bytes) ∷ [] → Meets o v said own

-- Nothing keeps the try from its commit: no earlier one was looked for; or the user's last one has a smaller
-- identifier; or none was found, be it that all snapshots were read, or that one was absent.
pub data MayCommit (o : OwnView) (v : View) (own : List Event) : Type 0 where
  not_asked : o.check ≡ false → own ≡ [] → MayCommit o v own
  is_below : Meets o v seen.Below own → MayCommit o v own
  is_none : Searched o v [] own → MayCommit o v own
  is_absent : (id : ℕ) (left : List ℕ) (earlier : List Event) → Searched o v (id ∷ left) earlier
      → own ≡ earlier ++ read_file (snapshot_path id) None ∷ [] → MayCommit o v own

-- ---- a try

-- the newest view was read
abbrev pub Views : TableSchema → View → List Event → Type 0
Views s v own = reader.HasView (newest_of s) v own × reader.HasSought (newest_of s) v own

-- and then these searches were made, by a commit whose base is that of its first try
abbrev pub HasSearch : TableSchema → OwnView → View → (OwnView → View → List Event → Type 0) → List Event → Type 0
HasSearch s o v Ended own = (views searches : List Event) × Views s v views × Ended (begun v.id o) v searches
    × (own ≡ views ++ searches)

-- A try up to now: the view and the search, what was made of them, and the calls of its putter, which are these.
pub record HasTry (s : TableSchema) (o : OwnView) (v : View) (made : Made) (Puts : List Event → Type 0)
    (own : List Event) : Type 0 where
  pub searches : List Event
  pub puts : List Event
  pub searched : HasSearch s o v MayCommit searches
  pub is_made : IsMadeOf s (newest_in v) (begun v.id o).author (begun v.id o).intent (begun v.id o).names made
  pub allowed : refusal_of (newest_in v) (begun v.id o).author (begun v.id o).intent ≡ None
  pub put_so : Puts puts
  pub is : own ≡ searches ++ puts

-- ---- all tries

-- the commit once a try has named its files, and once that was lost
abbrev pub named_by : OwnView → View → Made → OwnView
named_by o v made = with_named ((begun v.id o).names.count + length made.files.items) (begun v.id o)

abbrev pub lost_by : OwnView → View → Made → OwnView
lost_by o v made = with_lost made.id (named_by o v made)

-- a try whose putter came so far
abbrev pub HasPut : TableSchema → OwnView → View → Made → put_phase.Phase → List Event → Type 0
HasPut s o v made m own = HasTry s o v made (put.Did (put_of s made) m) own

-- a try was made, and its publish lost
abbrev pub LosesTry : TableSchema → OwnView → View → Made → List Event → Type 0
LosesTry s o v made own = HasPut s o v made puts.Lost own

-- a commit begins: the manifests were listed and had no name of the actor's
abbrev pub HasListed : OwnView → OwnView → List Event → Type 0
HasListed first o own = (o ≡ first) × (names : Names) × FindsUsed first.names names.items None
    × (own ≡ listed_manifests names ∷ [])

-- A commit began so, and then each try was lost, and a try is left: this is the commit after them.
pub data HaveLost (s : TableSchema) (Begins : OwnView → List Event → Type 0) : OwnView → List Event → Type 0 where
  has_begun : (o : OwnView) (own : List Event) → Begins o own → HaveLost s Begins o own
  has_lost : (o : OwnView) (v : View) (made : Made) (earlier later : List Event) → length o.lost + 1 < tries
      → HaveLost s Begins o earlier → LosesTry s o v made later
      → HaveLost s Begins (lost_by o v made) (earlier ++ later)

-- and then came these calls of one more try
abbrev pub AfterBegun : TableSchema → (OwnView → List Event → Type 0) → (OwnView → List Event → Type 0) → List Event
    → Type 0
AfterBegun s Begins Tried own = (o : OwnView) × (earlier later : List Event) × HaveLost s Begins o earlier
    × Tried o later × (own ≡ earlier ++ later)

abbrev pub AfterLost : TableSchema → OwnView → (OwnView → List Event → Type 0) → List Event → Type 0
AfterLost s first Tried own = AfterBegun s (HasListed first) Tried own

-- ---- what they show

-- the snapshot was published, with all files of its try
abbrev pub Commits : TableSchema → Author → ℕ → OwnView → List Event → Type 0
Commits s author id o own = (v : View) × (made : Made) × (author ≡ (begun v.id o).author) × (id ≡ made.id)
    × HasPut s o v made puts.Published own

-- the user had committed this before: its last commit that was found has no smaller identifier
abbrev pub FindsDone : TableSchema → Author → OwnView → List Event → Type 0
FindsDone s author o own = (v : View) × (author ≡ (begun v.id o).author)
    × HasSearch s o v (λ o v. Meets o v seen.Reached) own

-- a create met a file of the try
abbrev pub MeetsFile : TableSchema → List ℕ → OwnView → List Event → Type 0
MeetsFile s path o own = (v : View) × (made : Made) × HasTry s o v made (put.MeetsFile (put_of s made) path) own

-- a name that was listed has the actor's mark
abbrev pub ListsUsed : OwnView → List ℕ → List Event → Type 0
ListsUsed first path own =
    (names : Names) × FindsUsed first.names names.items (Some path) × (own ≡ listed_manifests names ∷ [])

-- there is a reason against the commit in what a try found
abbrev pub FindsReason : TableSchema → Refusal → OwnView → List Event → Type 0
FindsReason s refusal o own = (v : View)
    × (refusal_of (newest_in v) (begun v.id o).author (begun v.id o).intent ≡ Some refusal)
    × HasSearch s o v MayCommit own

-- the file of an older snapshot has no snapshot's bytes
abbrev pub Misreads : TableSchema → List ℕ → ℕ → OwnView → List Event → Type 0
Misreads s path place o own = (v : View) × (id : ℕ) × (left bytes : List ℕ) × (earlier : List Event)
    × HasSearch s o v (λ o v. Searched o v (id ∷ left)) earlier × (snapshot_in id bytes ≡ Err faults.Bad)
    × (path ≡ snapshot_path id) × (place ≡ 0) × (own ≡ earlier ++ read_file path (Some bytes) ∷ [])

-- the last try was lost, and these ids were with it
abbrev pub LosesLast : TableSchema → List ℕ → OwnView → List Event → Type 0
LosesLast s ids o own = (v : View) × (made : Made) × LosesTry s o v made own × (length o.lost + 1 ≡ tries)
    × (ids ≡ o.lost ++ made.id ∷ [])

-- the calls of the try, begun as this, in each of its phases
abbrev pub DidInTry : TableSchema → Phase → OwnView → List Event → Type 0
DidInTry s (phases.Names o t) p own = ⊥
DidInTry s (phases.View o m) p own = (o ≡ p) × reader.Did (newest_of s) m own
DidInTry s (phases.Search o q) p own = (v : View) × (o ≡ begun v.id p) × (q.found ≡ found_in v)
    × HasSearch s p v (λ p v. Searched p v (q.id ∷ q.left)) own
DidInTry s (phases.Put o t id m) p own = (v : View) × (made : Made) × (o ≡ named_by p v made) × (t ≡ s)
    × (id ≡ made.id) × HasPut s p v made m own
DidInTry s (phases.Committed author id) p own = Commits s author id p own
DidInTry s (phases.Already author) p own = FindsDone s author p own
DidInTry s phases.Over p own = ⊥

-- its calls so far, before its end
abbrev pub DidSoFar : TableSchema → OwnView → Phase → List Event → Type 0
DidSoFar s first (phases.Names o t) own = (o ≡ first) × (t ≡ s) × (own ≡ [])
DidSoFar s first m own = AfterLost s first (DidInTry s m) own

-- what follows the answer may take memory: not where it tells of a create, nor of a publish
abbrev pub MayTakeMemory : Answer → Type 0
MayTakeMemory (answers.Made made) = ⊥
MayTakeMemory (answers.Published answer) = ⊥
MayTakeMemory answer = Unit {0}

-- Which calls show a refusal, but those of a view's reader, of a commit that began so as this, came to its phases by
-- these calls and found a path in use at its beginning by those.
abbrev pub ShowsBegun : TableSchema → OwnView → (OwnView → List Event → Type 0) → (Phase → List Event → Type 0)
    → (List ℕ → List Event → Type 0) → Refusal → List Event → Type 0
ShowsBegun s first Begins Came Uses refusals.Memory own = MayEnd next_call Came (λ m. MayTakeMemory) own
ShowsBegun s first Begins Came Uses (refusals.StoreFault path) own = IsFailed next_call Came path own
ShowsBegun s first Begins Came Uses (refusals.SessionUsed path) own =
    Uses path own ⊎ AfterBegun s Begins (MeetsFile s path) own
ShowsBegun s first Begins Came Uses (refusals.Contended ids) own = AfterBegun s Begins (LosesLast s ids) own
ShowsBegun s first Begins Came Uses (refusals.Damaged path place) own = AfterBegun s Begins (Misreads s path place) own
ShowsBegun s first Begins Came Uses (refusals.Fenced base fence) own =
    AfterBegun s Begins (FindsReason s (refusals.Fenced base fence)) own
ShowsBegun s first Begins Came Uses (refusals.CompactTaken file) own =
    IsNoAppend first.intent × AfterBegun s Begins (FindsReason s (refusals.CompactTaken file)) own
ShowsBegun s first Begins Came Uses (refusals.Limit which number) own =
    AfterBegun s Begins (FindsReason s (refusals.Limit which number)) own
ShowsBegun s first Begins Came Uses other own = ⊥

abbrev pub ShowsOwn : TableSchema → OwnView → Refusal → List Event → Type 0
ShowsOwn s first refusal own =
    ShowsBegun s first (HasListed first) (DidSoFar s first) (ListsUsed first) refusal own

-- Which calls show a refusal: the reader of a try's view does, or one of these.
abbrev pub Shows : TableSchema → OwnView → Refusal → List Event → Type 0
Shows s first refusal own =
    AfterLost s first (λ o later. reader.Shows (newest_of s) refusal later) own ⊎ ShowsOwn s first refusal own

-- its calls so far, by its phase, where it began as this: at its end they show a refusal
abbrev pub Did : TableSchema → OwnView → Phase → List Event → Type 0
Did s first phases.Over own = (refusal : Refusal) × Shows s first refusal own
Did s first m own = DidSoFar s first m own

-- Whatever it began as, its next call is the next event of its calls so far, or none was made; and a refusal is shown
-- by the calls up to it.
abbrev pub CommitterActed : Phase → Phase → StoreView → StoreView → Result CommitStep Refusal → Type 0
CommitterActed old new before after result = (s : TableSchema) (first : OwnView)
    → Acts (Did s first old) (λ own. Did s first new own × IfErr result (λ refusal. Shows s first refusal own))
    before after

-- ---- a commit whose first try was made before the first of these calls

-- the commit once its first try has named its files
abbrev pub named_first : OwnView → Made → OwnView
named_first first made = with_named (first.names.count + length made.files.items) first

-- the first try was lost
abbrev pub LosesFirst : TableSchema → OwnView → Made → OwnView → List Event → Type 0
LosesFirst s first made o own =
    (o ≡ with_lost made.id (named_first first made)) × put.Did (put_of s made) puts.Lost own

-- the calls of the first try
abbrev pub DidFirst : TableSchema → OwnView → Made → Phase → List Event → Type 0
DidFirst s first made (phases.Put o t id m) own =
    (o ≡ named_first first made) × (t ≡ s) × (id ≡ made.id) × put.Did (put_of s made) m own
DidFirst s first made (phases.Committed author id) own =
    (author ≡ first.author) × (id ≡ made.id) × put.Did (put_of s made) puts.Published own
DidFirst s first made other own = ⊥

-- its calls so far: those of the first try, or of one after that
abbrev pub DidAfter : TableSchema → OwnView → Made → Phase → List Event → Type 0
DidAfter s first made m own =
    DidFirst s first made m own ⊎ AfterBegun s (LosesFirst s first made) (DidInTry s m) own

-- which of its calls show a refusal: a create of the first try met a file, or as in later tries of each commit
abbrev pub ShowsAfter : TableSchema → OwnView → Made → Refusal → List Event → Type 0
ShowsAfter s first made refusal own =
    AfterBegun s (LosesFirst s first made) (λ o later. reader.Shows (newest_of s) refusal later) own
    ⊎ ShowsBegun s first (LosesFirst s first made) (DidAfter s first made) (put.MeetsFile (put_of s made)) refusal own

-- at its end they show a refusal
abbrev pub DidToEnd : TableSchema → OwnView → Made → Phase → List Event → Type 0
DidToEnd s first made phases.Over own = (refusal : Refusal) × ShowsAfter s first made refusal own
DidToEnd s first made m own = DidAfter s first made m own
