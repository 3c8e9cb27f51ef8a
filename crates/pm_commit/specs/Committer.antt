-- A committer: its phases, its calls, and what each answer leads to.
use Rattle.std.specs.Prelude.{◌≡◌, ◌⊎◌, ℕ, ◌+◌, ◌-◌, ◌*◌, ◌<◌, ◌≤◌, List, [], ◌∷◌, ◌++◌, codes, length, nat_le}
use Rattle.std.specs.Prelude.{Bool, true, false, Option, None, Some, Result, Ok, Err, if◌then◌else◌}
use Rattle.std.specs.List.{AllByRecursion}
use Rattle.pm_values.specs.Names.{Naming}
use Rattle.pm_values.specs.declared.refusal.Refusal.{Refusal}
use Rattle.pm_values.specs.declared.refusal.Refusal.TheVariants as refusals
use Rattle.pm_store.specs.declared.answer.Answer.{Answer}
use Rattle.pm_store.specs.declared.answer.Answer.TheVariants as answers
use Rattle.pm_store.specs.declared.call.Call.{Call}
use Rattle.pm_store.specs.declared.call.Call.TheVariants as calls
use Rattle.pm_machine.specs.Running as machine
use Rattle.pm_put.specs.Meaning.{Putting}
use Rattle.pm_put.specs.Putter as put
use Rattle.pm_put.specs.declared.phase.Phase as put_phase
use Rattle.pm_put.specs.declared.phase.Phase.TheVariants as puts
use Rattle.pm_put.specs.declared.putting.Publishing.{Publishing}
use Rattle.pm_schema.specs.declared.schema.TableSchema.{TableSchema}
use Rattle.pm_snapshot.specs.Names.{greatest}
use Rattle.pm_snapshot.specs.Snapshot.{snapshot_in}
use Rattle.pm_snapshot.specs.declared.fault.SnapFault.{SnapFault}
use Rattle.pm_snapshot.specs.declared.fault.SnapFault.TheVariants as faults
use Rattle.pm_snapshot.specs.declared.snapshot.Snapshot.{Snapshot}
use Rattle.pm_manifest.specs.declared.entry.Entry.{Entry}
use Rattle.pm_run.specs.Row.{most_sequence}
use Rattle.pm_model_folder.specs.Paths.{origin_path, snapshot_path}
use Rattle.pm_read_table.specs.Asked.{Asked, asked_of}
use Rattle.pm_read_table.specs.Reader as reader
use Rattle.pm_read_table.specs.Reader.{most}
use Rattle.pm_read_table.specs.declared.asked.Wanted.TheVariants as wants
use Rattle.pm_read_table.specs.declared.phase.Phase as view_phase
use Rattle.pm_read_table.specs.declared.phase.Phase.TheVariants as readers
use Rattle.pm_read_table.specs.declared.view.View.{View}
use Rattle.pm_made.specs.Files.{IsMadeOf}
use Rattle.pm_made.specs.Intent.{most_files}
use Rattle.pm_made.specs.Refusals.{refusal_of}
use Rattle.pm_made.specs.declared.intent.Intent.{Intent}
use Rattle.pm_made.specs.declared.intent.Plan.{Plan}
use Rattle.pm_made.specs.declared.newest.Author.{Author}
use Rattle.pm_made.specs.declared.newest.Made.{Made}
use Rattle.pm_made.specs.declared.newest.Newest.{Newest}
use Rattle.pm_commit.specs.Marks.{FindsUsed}
use Rattle.pm_commit.specs.Own.{IsAppend, IsOwn, IsTried, MayView, OwnView, begun, own_for_plan, tries, with_lost, with_named}
use Rattle.pm_commit.specs.Search.{SearchingView, older_ids, searching_of, seen_in, seen_of}
use Rattle.pm_commit.specs.declared.search.Seen.{Seen}
use Rattle.pm_commit.specs.declared.search.Seen.TheVariants as seen
use Rattle.pm_commit.specs.declared.found.Found.{Found}
use Rattle.pm_commit.specs.declared.committer.CommitStep.{CommitStep}
use Rattle.pm_commit.specs.declared.committer.CommitStep.TheVariants as steps
use Rattle.pm_commit.specs.declared.phase.Phase.{Phase}
use Rattle.pm_commit.specs.declared.phase.Phase.TheVariants as phases

-- ---- a try

-- the path of the snapshot before the one with an id: the origin before the first
abbrev pub after_path : TableSchema → ℕ → List ℕ
after_path s id = if nat_le id 1 then origin_path s else snapshot_path (id - 1)

-- the snapshot is published after the one before it
abbrev pub publishing_of : TableSchema → ℕ → List ℕ → Publishing
publishing_of s id text = record { after = after_path s id; path = snapshot_path id; bytes = text }

-- what is put of a try: its files, and then its snapshot
abbrev pub put_of : TableSchema → Made → Putting
put_of s made = record { files = made.files.items; last = publishing_of s made.id made.text }

-- the table as a view has it
abbrev pub newest_in : View → Newest
newest_in v = record { id = v.id; snapshot = v.snapshot; manifests = v.manifests; live = v.live }

abbrev pub found_in : View → Found
found_in v = record { schema = v.schema; newest = newest_in v }

-- ---- its calls

-- the list of the manifests
abbrev pub manifests_call : Call
manifests_call = calls.List (codes "manifest")

-- its next call, or none at its end
abbrev pub next_call : Phase → Option Call
next_call (phases.Names own s) = Some manifests_call
next_call (phases.View own m) = reader.next_call m
next_call (phases.Search own q) = Some (calls.Read (snapshot_path q.id))
next_call (phases.Put own s id m) = put.next_call m
next_call (phases.Committed author id) = None
next_call (phases.Already author) = None
next_call phases.Over = None

-- how many calls a try makes at most: those of its view, those of a search, the creates and the publish
abbrev pub most_of_try : Intent → ℕ
most_of_try intent = (most + 5) + (most + (most_files intent + 1))

-- and how many the tries after this one make
abbrev pub later_tries : OwnView → ℕ
later_tries own = (tries - (length own.lost + 1)) * most_of_try own.intent

-- how many calls a compaction makes at most from its first try's files on
abbrev pub most_calls : ℕ
most_calls = tries * ((most + 5) + (most + 7))

-- how many calls are left at most, where no refusal comes
abbrev pub calls_left : Phase → ℕ
calls_left (phases.Names own s) = 1 + most_of_try own.intent + later_tries own
calls_left (phases.View own m) = reader.calls_left m + (most + (most_files own.intent + 1)) + later_tries own
calls_left (phases.Search own q) = length q.left + 1 + (most_files own.intent + 1) + later_tries own
calls_left (phases.Put own s id m) = put.calls_left m + later_tries own
calls_left (phases.Committed author id) = 0
calls_left (phases.Already author) = 0
calls_left phases.Over = 0

-- ---- the reader of a view

-- what is asked of a reader that goes on
abbrev pub asked_in : view_phase.Phase → Option Asked
asked_in (readers.List a) = Some a
asked_in (readers.Origin q) = Some q.asked
asked_in (readers.Snapshot q id) = Some q.asked
asked_in (readers.Base q x) = Some q.asked
asked_in (readers.Delta q x base) = Some q.asked
asked_in (readers.Manifests r) = Some r.sought.asked
asked_in (readers.Again a id path) = Some a
asked_in (readers.Ready v) = Some (asked_of v.schema v.wanted)
asked_in readers.Over = None

-- the entries that it has read so far, and those of the live files once it is ready
abbrev pub entries_in : view_phase.Phase → List Entry
entries_in (readers.Manifests r) = r.kept
entries_in (readers.Ready v) = v.live.items
entries_in m = []

-- the ids of the snapshots that it listed, while it goes on with one of them
abbrev pub listed_in : view_phase.Phase → List ℕ
listed_in (readers.Origin q) = q.listed
listed_in (readers.Snapshot q id) = q.listed
listed_in (readers.Base q x) = q.listed
listed_in (readers.Delta q x base) = q.listed
listed_in (readers.Manifests r) = r.sought.listed
listed_in (readers.Ready v) = v.listed.items
listed_in m = []

-- no file has too great a number
abbrev pub AreNumbered : List Entry → Type 0
AreNumbered entries = AllByRecursion (λ (e : Entry). e.file.max_seq ≤ most_sequence) entries

-- each is the id of a snapshot after the origin
abbrev pub AreIds : List ℕ → Type 0
AreIds ids = AllByRecursion (λ (id : ℕ). (1 ≤ id) × (id ≤ greatest)) ids

-- what is asked is the newest view of a table with its live entries
abbrev pub newest_of : TableSchema → Asked
newest_of s = asked_of s wants.Entries

-- the reader reads the newest view of a table
pub record Reads (m : view_phase.Phase) (s : TableSchema) : Type 0 where
  pub asked : asked_in m ≡ Some (newest_of s)
  pub numbers : AreNumbered (entries_in m)
  pub ids : AreIds (listed_in m)

-- ---- its invariant

-- the reader of a view has a call left, and reads the table to which the commit is made, which may begin so
abbrev pub IsViewing : OwnView → view_phase.Phase → Type 0
IsViewing own m = (0 < reader.calls_left m) × ((s : TableSchema) × Reads m s × IsOwn s own) × MayView own

-- what a try found is a table to which the commit can be made
pub record MayMake (own : OwnView) (found : Found) : Type 0 where
  pub own_of : IsOwn found.schema own
  pub numbers : AreNumbered found.newest.live.items

-- the putter of a try has a call left, and few enough
abbrev pub IsPutting : TableSchema → OwnView → put_phase.Phase → Type 0
IsPutting s own m = IsTried s own × (0 < put.calls_left m) × (put.calls_left m ≤ most_files own.intent + 1)

-- a committer: in each phase its commit is one of its table, and few enough calls are left in the try; one that begins
-- with the names appends
abbrev pub IsCommitter : Phase → Type 0
IsCommitter (phases.Names own s) = IsOwn s own × IsAppend own.intent
IsCommitter (phases.View own m) = IsViewing own m
IsCommitter (phases.Search own q) = MayMake own q.found × (length q.left < most) × AreIds (q.id ∷ q.left)
IsCommitter (phases.Put own s id m) = IsPutting s own m
IsCommitter other = Unit {0}

-- ---- what answers lead to

-- what an answer leads to: a phase, or the refusal that it shows
abbrev pub Outcome : Type 0
Outcome = Result Phase Refusal

-- the phase at the beginning of a try
abbrev pub first_of_try : OwnView → TableSchema → Phase
first_of_try own s = phases.View own (readers.List (newest_of s))

-- the phase once a try has named its files, and what it makes is to be put
abbrev pub first_of_put : OwnView → TableSchema → Made → Phase
first_of_put own s made =
    phases.Put (with_named (own.names.count + length made.files.items) own) s made.id
    (put.create_next (publishing_of s made.id made.text) made.files.items)

-- the files of a try are to be created; or there is a reason against them, or memory ran out
abbrev pub Makes : OwnView → Found → Outcome → Type 0
Makes own found (Ok later) = (made : Made)
    × IsMadeOf found.schema found.newest own.author own.intent own.names made
    × (refusal_of found.newest own.author own.intent ≡ None)
    × (later ≡ first_of_put own found.schema made)
Makes own found (Err refusal) =
    (refusal ≡ refusals.Memory) ⊎ (refusal_of found.newest own.author own.intent ≡ Some refusal)

-- The committer of a compaction by a plan of the newest snapshot, whose first try is made: its files are to be put. The
-- files of rows are created before that, by whoever made them.
abbrev pub Begins : TableSchema → Newest → Author → Plan → Naming → Phase → Type 0
Begins s newest author plan names m =
    Makes (own_for_plan plan author names) (record { schema = s; newest = newest }) (Ok m)

-- the next of these older snapshots is to be read, or none is left
abbrev pub Seeks : OwnView → Found → List ℕ → Outcome → Type 0
Seeks own found [] outcome = Makes own found outcome
Seeks own found (id ∷ left) outcome =
    (length left < most) × (outcome ≡ Ok (phases.Search own (searching_of found id left)))

-- a snapshot said this of the commit
abbrev pub Hears : OwnView → Found → List ℕ → Seen → Outcome → Type 0
Hears own found left seen.Other outcome = Seeks own found left outcome
Hears own found left seen.Below outcome = Makes own found outcome
Hears own found left seen.Reached outcome = outcome ≡ Ok (phases.Already own.author)

-- a try goes on with its view: it looks for an earlier commit where that is asked for
abbrev pub TriesIf : Bool → OwnView → View → Outcome → Type 0
TriesIf true own v outcome = Hears own (found_in v) (older_ids v.listed.items) (seen_in own.author v.snapshot) outcome
TriesIf false own v outcome = Makes own (found_in v) outcome

abbrev pub Tries : OwnView → View → Outcome → Type 0
Tries own v outcome = TriesIf own.check own v outcome

-- with this reader of the view the try goes on once it is ready
abbrev pub AfterReader : OwnView → view_phase.Phase → Outcome → Type 0
AfterReader own (readers.Ready v) outcome = Tries (begun v.id own) v outcome
AfterReader own m outcome = outcome ≡ Ok (phases.View own m)

-- no name has the actor's mark, or one has; or memory ran out
abbrev pub AfterNames : OwnView → TableSchema → List (List ℕ) → Outcome → Type 0
AfterNames own s names (Ok later) = FindsUsed own.names names None × (later ≡ first_of_try own s)
AfterNames own s names (Err refusal) = (refusal ≡ refusals.Memory)
    ⊎ ((path : List ℕ) × FindsUsed own.names names (Some path) × (refusal ≡ refusals.SessionUsed path))

-- the view's reader goes on, or refuses
abbrev pub AfterView : OwnView → view_phase.Phase → Answer → Outcome → Type 0
AfterView own m answer (Ok later) = (new : view_phase.Phase) × reader.Goes m answer new × AfterReader own new (Ok later)
AfterView own m answer (Err refusal) = reader.Shown m answer refusal
    ⊎ ((new : view_phase.Phase) × reader.Goes m answer new × AfterReader own new (Err refusal))

-- an older snapshot's file wasn't read
abbrev pub Misreads : ℕ → SnapFault → Refusal → Type 0
Misreads id fault refusal = (refusal ≡ refusals.Memory)
    ⊎ ((fault ≡ faults.Bad) × (refusal ≡ refusals.Damaged (snapshot_path id) 0))

-- an older snapshot's file has these bytes, which may be none of a snapshot
abbrev pub AfterOlder : OwnView → SearchingView → List ℕ → Outcome → Type 0
AfterOlder own q bytes (Ok later) =
    (x : Snapshot) × (snapshot_in q.id bytes ≡ Ok x) × Hears own q.found q.left (seen_of own.author x) (Ok later)
AfterOlder own q bytes (Err refusal) = (refusal ≡ refusals.Memory)
    ⊎ ((snapshot_in q.id bytes ≡ Err faults.Bad) × (refusal ≡ refusals.Damaged (snapshot_path q.id) 0))
    ⊎ ((x : Snapshot) × (snapshot_in q.id bytes ≡ Ok x) × Hears own q.found q.left (seen_of own.author x) (Err refusal))

-- an id was lost to others: the next try begins, or it was the last
abbrev pub Loses : OwnView → TableSchema → ℕ → Outcome → Type 0
Loses own s id (Ok later) = (length own.lost + 1 < tries) × (later ≡ first_of_try (with_lost id own) s)
Loses own s id (Err refusal) =
    (length own.lost + 1 ≡ tries) × (refusal ≡ refusals.Contended (own.lost ++ id ∷ []))

-- with this putter the try goes on, until its snapshot was published, or that was lost
abbrev pub AfterPutter : OwnView → TableSchema → ℕ → put_phase.Phase → Outcome → Type 0
AfterPutter own s id puts.Published outcome = outcome ≡ Ok (phases.Committed own.author id)
AfterPutter own s id puts.Lost outcome = Loses own s id outcome
AfterPutter own s id m outcome = outcome ≡ Ok (phases.Put own s id m)

-- the putter goes on, or refuses
abbrev pub AfterPut : OwnView → TableSchema → ℕ → put_phase.Phase → Answer → Outcome → Type 0
AfterPut own s id m answer (Ok later) =
    (new : put_phase.Phase) × put.Goes m answer new × AfterPutter own s id new (Ok later)
AfterPut own s id m answer (Err refusal) = put.Shown m answer refusal
    ⊎ ((new : put_phase.Phase) × put.Goes m answer new × AfterPutter own s id new (Err refusal))

-- What an answer leads to. A search ends where an older snapshot is absent.
abbrev pub After : Phase → Answer → Outcome → Type 0
After (phases.Names own s) (answers.Listed names) outcome = AfterNames own s names.items outcome
After (phases.View own m) answer outcome = AfterView own m answer outcome
After (phases.Search own q) (answers.Found None) outcome = Makes own q.found outcome
After (phases.Search own q) (answers.Found (Some bytes)) outcome = AfterOlder own q bytes outcome
After (phases.Put own s id m) answer outcome = AfterPut own s id m answer outcome
After phase other outcome = ⊥

abbrev pub Goes : Phase → Answer → Phase → Type 0
Goes phase answer later = After phase answer (Ok later)

-- the refusal that an answer shows
abbrev pub Shown : Phase → Answer → Refusal → Type 0
Shown phase answer refusal = After phase answer (Err refusal)

abbrev pub Refuses : Phase → Answer → Refusal → Phase → Type 0
Refuses = machine.Refuses Shown phases.Over

abbrev pub Stops : Phase → Phase → Type 0
Stops = machine.Stops phases.Over

-- what a step that goes on has reached
abbrev pub Reaches : CommitStep → Phase → Type 0
Reaches steps.More phase = 0 < calls_left phase
Reaches (steps.Committed id) phase = (author : Author) × (phase ≡ phases.Committed author id)
Reaches steps.Already phase = (author : Author) × (phase ≡ phases.Already author)

abbrev pub reached_at : Phase → CommitStep
reached_at (phases.Committed author id) = steps.Committed id
reached_at (phases.Already author) = steps.Already
reached_at other = steps.More
