-- What the command `write` answers, what it prints, and what it does to a history.
use Rattle.std.specs.Prelude.{◌≡◌, ◌≢◌, ◌⊎◌, ℕ, ℤ, pos, ◌+◌, ◌≤◌, min, List, [], ◌++◌, codes, decimal, is_some}
use Rattle.std.specs.Prelude.{Option, None, Some, IsSome, Result, Ok, Err}
use Rattle.std.specs.FinMap as map
use Rattle.std.specs.Result.{result_err}
use Rattle.pm_base.specs.Faults.{Rose}
use Rattle.pm_base.specs.Known.{and_then}
use Rattle.pm_base.specs.Newline.{line}
use Rattle.pm_values.specs.Names.{naming}
use Rattle.pm_values.specs.declared.refusal.Refusal.{Refusal}
use Rattle.pm_values.specs.declared.refusal.Refusal.TheVariants as refusals
use Rattle.pm_io.specs.Sink.{SinkView, SinkFailed, TookPrefix}
use Rattle.pm_store.specs.Files.{Files}
use Rattle.pm_store.specs.Images.{Extends}
use Rattle.pm_store.specs.Store.{StoreView, FromFirst}
use Rattle.pm_machine.specs.Trace.{Event, HasTrace}
use Rattle.pm_model_history.specs.History.{Entry, History, IsTableOf, append, no_table}
use Rattle.pm_model_history.specs.Merge.{HistoryRow}
use Rattle.pm_input.specs.Limits.{limits, IsWithin}
use Rattle.pm_input.specs.Lines.{row_lines}
use Rattle.pm_schema.specs.Again.{IsDeclared}
use Rattle.pm_schema.specs.declared.schema.TableSchema.{TableSchema}
use Rattle.pm_snapshot.specs.Names.{greatest}
use Rattle.pm_model_folder.specs.Changes.{Actor}
use Rattle.pm_model_folder.specs.Folder.{Folder}
use Rattle.pm_model_folder.specs.Ledger.{count_of}
use Rattle.pm_create.specs.Making.{LeavesFiles}
use Rattle.pm_read_schema.specs.Trace as reader
use Rattle.pm_write.specs.Batch.{Groups, IsBatchOf}
use Rattle.pm_write.specs.Taken.{all_taken}
use Rattle.pm_made.specs.declared.newest.Author.{Author}
use Rattle.pm_commit.specs.AllCalls.{AddsAlone, BearsCommit, DidAppend, Has, HasBorne, MayStart}
use Rattle.pm_commit.specs.Alone.{Beginning, GivesReason, WasUsed, with_entry}
use Rattle.pm_commit.specs.Own.{OwnView, new_author, new_own}
use Rattle.pm_commit.specs.declared.all_calls.Appended.{Appended}
use Rattle.pm_commit.specs.declared.all_calls.Appended.TheVariants as appends
use Rattle.pm_command_write.specs.Input.{MayRefuseInput, RefusesInput}
use Rattle.pm_command.specs.Outside.{ConsumersRest, Outside, actor, IsUntouched, Prints, Rests, next_path, own_user}
use Rattle.pm_command.specs.declared.start.Start.{Start}
use Rattle.pm_command_write.specs.declared.write.Written.{Written}
use Rattle.pm_command_write.specs.declared.write.Written.TheVariants as written
use Rattle.pm_command_write.specs.declared.writer.Writer.{Writer}

-- ---- who writes

abbrev pub writer_of : Option (List ℕ) → Option ℕ → Writer
writer_of user identifier = record { user = user; identifier = identifier }

-- the greatest identifier, which a commit has where none is asked for
abbrev pub greatest_identifier : ℕ
greatest_identifier = 9223372036854775807

abbrev pub identifier_of : Option ℕ → ℤ
identifier_of None = pos greatest_identifier
identifier_of (Some n) = pos (min n greatest_identifier)

-- the user: the actor where none is asked for
abbrev pub user_of : Actor → Option (List ℕ) → List ℕ
user_of me None = own_user me
user_of me (Some name) = name

-- the author of its commit, before a base is known
abbrev pub author_of : Start → Writer → Author
author_of start w = new_author (user_of (actor start) w.user) (identifier_of w.identifier) start.now_millis

-- The commit of a batch: an earlier one of the user is looked for where a user is asked for.
abbrev pub commit_of : Start → Writer → Groups → OwnView
commit_of start w batch =
    new_own batch (author_of start w) (is_some w.user) (naming start.session (actor start).number 0)

-- the entry of its rows
abbrev pub entry_by : Start → Writer → List HistoryRow → Entry
entry_by start w rows = append (author_of start w).user (author_of start w).identifier rows

-- ---- its calls

-- numbered lines of an input
abbrev pub Lines : Type 0
Lines = List (ℕ × List ℕ)

-- the schema was read, which is declared
pub record HasDeclared (s : TableSchema) (own : List Event) : Type 0 where
  pub declared : IsDeclared s
  pub has : Has s own

-- they end with the schema, and a line is the first that is refused; or memory ran out
abbrev pub EndsAtLines : Lines → Refusal → List Event → Type 0
EndsAtLines lines e own =
    (s : TableSchema) × ((e ≡ refusals.Memory) ⊎ (all_taken s lines ≡ Err e)) × HasDeclared s own

-- some rows are taken of the lines, and they go on as the calls of a commit of these rows
abbrev pub AppendsLines : Start → Writer → Lines → Result Appended Refusal → List Event → Type 0
AppendsLines start w lines made own =
    (s : TableSchema) × (rows : List HistoryRow) × (batch : Groups) × IsDeclared s × (all_taken s lines ≡ Ok rows)
    × (rows ≢ []) × IsBatchOf s rows batch × DidAppend s (commit_of start w batch) made own

-- Its calls of the store, by what became of the lines: of no row none follows the schema, and the others are those of a
-- commit; or they show why no schema was read, or end where a line is refused, or are those of a commit that was
-- refused.
abbrev pub DidWrite : Start → Writer → Lines → Result Written Refusal → List Event → Type 0
DidWrite start w lines (Ok written.Nothing) own = (s : TableSchema) × (all_taken s lines ≡ Ok []) × HasDeclared s own
DidWrite start w lines (Ok written.Already) own = AppendsLines start w lines (Ok appends.Already) own
DidWrite start w lines (Ok (written.Committed id)) own = AppendsLines start w lines (Ok (appends.Committed id)) own
DidWrite start w lines (Err e) own =
    reader.Shows e own ⊎ EndsAtLines lines e own ⊎ AppendsLines start w lines (Err e) own

-- ---- what it prints

abbrev pub text_of : Result Written Refusal → List ℕ
text_of (Ok written.Nothing) = line (codes "nothing to commit")
text_of (Ok written.Already) = line (codes "already")
text_of (Ok (written.Committed id)) = line (codes "snapshot " ++ decimal id)
text_of (Err e) = []

-- the snapshot that was committed
abbrev pub snapshot_of : Result Written Refusal → Option ℕ
snapshot_of (Ok (written.Committed id)) = Some id
snapshot_of other = None

-- lines were written: the calls of the store are these, and this was printed
abbrev pub WritesLines : Start → Writer → Lines → Outside → Outside → Option Refusal → Type 0
WritesLines start w lines before after answer =
    (made : Result Written Refusal) × HasTrace (DidWrite start w lines made) before.store after.store
    × Prints (text_of made) (snapshot_of made) (result_err made) before.out after.out answer

-- the input was refused, and nothing touched
abbrev pub RefusesAll : (Refusal → Type 0) → Outside → Outside → Option Refusal → Type 0
RefusesAll Refuses before after answer = (e : Refusal) × (answer ≡ Some e) × Refuses e × IsUntouched before after

-- What `write` answers to an input of these bytes: the input is refused, or it was read to its end and its lines were
-- written.
abbrev pub AnswersWrite : Start → Writer → List ℕ → Outside → Outside → Option Refusal → Type 0
AnswersWrite start w bytes before after answer =
    RefusesAll (RefusesInput bytes before.input after.input) before after answer
    ⊎ (IsWithin limits bytes × (after.input.left ≡ Some []) × WritesLines start w (row_lines bytes) before after answer)

-- and what it does whatever the input is
abbrev pub ActsWrite : Start → Writer → Outside → Outside → Option Refusal → Type 0
ActsWrite start w before after answer =
    RefusesAll (MayRefuseInput before.input after.input) before after answer
    ⊎ ((lines : Lines) × WritesLines start w lines before after answer)

-- ---- a history that stands at its first call, where nobody else acts from then on

-- the rows are what the history's table takes of the lines
abbrev pub TakesRows : History → Lines → List HistoryRow → Type 0
TakesRows h lines rows = (s : TableSchema) × IsTableOf s h × (all_taken s lines ≡ Ok rows)

-- Some rows are taken of the lines, and this is so of the beginning of their commit, with these files and this history.
pub record BeginsWith (start : Start) (w : Writer) (lines : Lines) (h : History) (P : Beginning → Type 0) (f : Files)
    : Type 0 where
  pub rows : List HistoryRow
  pub batch : Groups
  pub takes : TakesRows h lines rows
  pub some : rows ≢ []
  pub batch_of : IsBatchOf takes.0 rows batch
  pub is : P (record { own = commit_of start w batch; entry = entry_by start w rows; files = f; history = h })

-- this is so of the files and of the history with some rows of the lines at its end, as one entry
pub record HasRowsAs (Stands : History → Files → Type 0) (start : Start) (w : Writer) (lines : Lines) (h : History)
    (f : Files) : Type 0 where
  pub rows : List HistoryRow
  pub takes : TakesRows h lines rows
  pub some : rows ≢ []
  pub stands : Stands (with_entry (entry_by start w rows) h) f

-- files stand for it
abbrev pub HasRows : Start → Writer → Lines → History → Files → Type 0
HasRows start w lines h f = HasRowsAs (λ h f. Folder f h) start w lines h f

-- files stand for a history, or for it with the rows of the lines at its end
abbrev pub StandsForEither : Start → Writer → Lines → History → Files → Type 0
StandsForEither start w lines h f = Folder f h ⊎ HasRows start w lines h f

-- and an actor may start there, as no snapshot names a file of its name
abbrev pub MayStartAfter : Actor → Start → Writer → Lines → History → Files → Type 0
MayStartAfter other start w lines h f = MayStart other h f ⊎ HasRowsAs (MayStart other) start w lines h f

-- What a crash may leave: files that stand for a history, or for it with the rows at its end; and for the latter from
-- the publish on, which put the next snapshot there.
pub record IsImage (start : Start) (w : Writer) (lines : Lines) (h : History) (f : Files) : Type 0 where
  pub either : StandsForEither start w lines h f
  pub published : count_of h + 1 ≤ greatest → IsSome (map.get f (next_path h)) → HasRows start w lines h f

-- the history stays
abbrev pub Stays : History → StoreView → Type 0
Stays h after = LeavesFiles (λ f. Folder f h) after

-- The newest snapshot that was there at first gives no reason against the commit; and these files have the snapshot
-- that appends its rows to that one.
pub record IsCommittedTo (f : Files) (b : Beginning) : Type 0 where
  pub allowed : GivesReason b None
  pub bears : BearsCommit b f

-- What became of the lines at the end of the work, and what stands: no row is taken, and nothing changed; a user is
-- asked for of whom a snapshot that was there at first bears an identifier that isn't smaller, and nothing changed; or
-- the rows are at the end of the history, and the id is the next one, whose snapshot appends them to the newest.
abbrev pub Becomes : Start → Writer → Lines → History → StoreView → StoreView → Written → Type 0
Becomes start w lines h first after written.Nothing = TakesRows h lines [] × Rests h first after
Becomes start w lines h first after written.Already =
    IsSome w.user × LeavesFiles (BeginsWith start w lines h (λ b. HasBorne b.own.author b.files b.history)) first
    × Rests h first after
Becomes start w lines h first after (written.Committed id) =
    (id ≡ count_of h + 1)
    × LeavesFiles (λ f. LeavesFiles (BeginsWith start w lines h (IsCommittedTo f)) first) after
    × LeavesFiles (HasRows start w lines h) after

-- the history's table is declared, and a line of the input is the first that it refuses
abbrev pub RefusesLines : History → Lines → Refusal → Type 0
RefusesLines h lines e = (s : TableSchema) × IsTableOf s h × IsDeclared s × (all_taken s lines ≡ Err e)

-- the newest snapshot that was there at first gives this reason against the commit of the lines
abbrev pub GivesAgainst : Start → Writer → Lines → History → Refusal → StoreView → Type 0
GivesAgainst start w lines h e first = LeavesFiles (BeginsWith start w lines h (λ b. GivesReason b (Some e))) first

-- What stands after a fault of the store at this path: the history, or where it is that of the publish the history with
-- the rows.
abbrev pub StandsAfterFault : Start → Writer → Lines → History → List ℕ → Files → Type 0
StandsAfterFault start w lines h path f = Folder f h ⊎ ((path ≡ next_path h) × HasRows start w lines h f)

-- What a refusal of the work needs, and what stands after it: after a fault of the store, which was counted, the
-- history, or where it was the publish's the history with the rows; else the history, and but where memory ran out or a
-- file of the actor's name was met nothing changed. There is no table; a line is refused; a file of the actor's name
-- was there at first; or the newest snapshot gives this reason against the commit. No other comes.
abbrev pub Spoils : Start → Writer → Lines → History → StoreView → StoreView → Refusal → Type 0
Spoils start w lines h first after refusals.Memory = Stays h after
Spoils start w lines h first after (refusals.StoreFault path) =
    Rose first.faults after.faults × LeavesFiles (StandsAfterFault start w lines h path) after
Spoils start w lines h first after refusals.NoTable = (h ≡ no_table) × Rests h first after
Spoils start w lines h first after (refusals.BadLine number why column) =
    RefusesLines h lines (refusals.BadLine number why column) × Rests h first after
Spoils start w lines h first after (refusals.Retraction number column) =
    RefusesLines h lines (refusals.Retraction number column) × Rests h first after
Spoils start w lines h first after (refusals.SessionUsed path) =
    LeavesFiles (BeginsWith start w lines h (λ b. WasUsed b path)) first × Stays h after
Spoils start w lines h first after (refusals.Fenced base fence) =
    GivesAgainst start w lines h (refusals.Fenced base fence) first × Rests h first after
Spoils start w lines h first after (refusals.Limit which number) =
    (RefusesLines h lines (refusals.Limit which number)
    ⊎ GivesAgainst start w lines h (refusals.Limit which number) first)
    × Rests h first after
Spoils start w lines h first after other = ⊥

-- The answer to a history and lines: what became of them was printed; or a prefix of that, where the sink failed, and
-- the refusal names the snapshot that was committed; or the work was refused, and nothing printed.
abbrev pub AnswersLines : Start → Writer → Lines → History → StoreView → Outside → Outside → Option Refusal → Type 0
AnswersLines start w lines h first before after None =
    (done : Written) × Becomes start w lines h first after.store done
    × (after.out.taken ≡ and_then before.out.taken (text_of (Ok done)))
AnswersLines start w lines h first before after (Some (refusals.SinkFault snapshot)) =
    (done : Written) × Becomes start w lines h first after.store done × (snapshot ≡ snapshot_of (Ok done))
    × SinkFailed before.out after.out × TookPrefix before.out.taken after.out.taken (text_of (Ok done))
AnswersLines start w lines h first before after (Some e) =
    Spoils start w lines h first after.store e × (after.out ≡ before.out)

-- The answer to a history and an input: the input was refused, and the history stays; or it was read to its end.
abbrev pub AnswersHistory : Start → Writer → List ℕ → History → StoreView → Outside → Outside → Option Refusal → Type 0
AnswersHistory start w bytes h first before after answer =
    (RefusesAll (RefusesInput bytes before.input after.input) before after answer
    × LeavesFiles (λ f. Folder f h) after.store)
    ⊎ (IsWithin limits bytes × (after.input.left ≡ Some [])
    × AnswersLines start w (row_lines bytes) h first before after answer)

-- What `write` does to a history; what each image of a crash is; and that every other actor that might have started
-- before may start after it.
pub record WritesTable (start : Start) (w : Writer) (bytes : List ℕ) (h : History) (first : StoreView)
    (before after : Outside) (answer : Option Refusal) : Type 0 where
  pub answers : AnswersHistory start w bytes h first before after answer
  pub images : Extends (IsImage start w (row_lines bytes) h) first.ops after.store.ops
  pub free : (other : Actor) → other ≢ actor start → LeavesFiles (MayStart other h) first
      → Extends (MayStartAfter other start w (row_lines bytes) h) first.ops after.store.ops
  pub consumers : ConsumersRest h first after.store
  pub adds : AddsAlone (actor start) h first after.store

-- what it promises of histories, from its first call of the store on: where no snapshot names a file of an actor of its
-- name
abbrev pub WritesTables : Start → Writer → Outside → Outside → Option Refusal → Type 0
WritesTables start w before after answer =
    FromFirst (λ first _. (h : History) (bytes : List ℕ) → LeavesFiles (MayStart (actor start) h) first
    → before.input.left ≡ Some bytes → WritesTable start w bytes h first before after answer) before.store after.store

-- ---- before anything is printed

-- Private: what became of a history and lines
abbrev pub MakesOf : Start → Writer → Lines → History → StoreView → StoreView → Result Written Refusal → Type 0
MakesOf start w lines h first after (Ok done) = Becomes start w lines h first after done
MakesOf start w lines h first after (Err e) = Spoils start w lines h first after e

-- Private: what the calls of `write` do to a history
pub record Keeps (start : Start) (w : Writer) (lines : Lines) (h : History) (first after : StoreView)
    (made : Result Written Refusal) : Type 0 where
  pub makes : MakesOf start w lines h first after made
  pub images : Extends (StandsForEither start w lines h) first.ops after.ops
  pub free : (other : Actor) → other ≢ actor start → LeavesFiles (MayStart other h) first
      → Extends (MayStartAfter other start w lines h) first.ops after.ops
  pub consumers : ConsumersRest h first after
  pub adds : AddsAlone (actor start) h first after

-- Private: and to histories
abbrev pub KeepsHistories : Start → Writer → Lines → StoreView → StoreView → Result Written Refusal → Type 0
KeepsHistories start w lines before after made =
    FromFirst (λ first after. (h : History) → LeavesFiles (MayStart (actor start) h) first
    → Keeps start w lines h first after made) before after

-- Private: the calls of `write`, what they do to histories, and what was printed
abbrev pub IsWritten : Start → Writer → Lines → SinkView → SinkView → StoreView → StoreView → Option Refusal → Type 0
IsWritten start w lines out out_after store store_after answer =
    (made : Result Written Refusal) × HasTrace (DidWrite start w lines made) store store_after
    × KeepsHistories start w lines store store_after made
    × Prints (text_of made) (snapshot_of made) (result_err made) out out_after answer
