-- What the command `scan` answers, what it prints, and that it leaves a folder as it is.
use Rattle.std.specs.Prelude.{◌≡◌, ◌⊎◌, ℕ, ◌<◌, ◌≤◌, List, [], ◌++◌, length, Option, None, Some, IsSome, Result, Ok, Err}
use Rattle.std.specs.FinMap as map
use Rattle.std.specs.Result.{result_err}
use Rattle.pm_base.specs.Known.{and_then}
use Rattle.pm_values.specs.declared.refusal.Refusal.{Refusal}
use Rattle.pm_values.specs.declared.refusal.Refusal.TheVariants as refusals
use Rattle.pm_io.specs.Sink.{SinkView, SinkFailed, TookPrefix}
use Rattle.pm_store.specs.Store.{StoreView, FromFirst}
use Rattle.pm_machine.specs.Trace.{Event, HasTrace}
use Rattle.pm_model_history.specs.History.{History, IsTableOf, no_table, table, rows_up_to}
use Rattle.pm_model_history.specs.Merged.{scan_text}
use Rattle.pm_schema.specs.Again.{IsDeclared}
use Rattle.pm_schema.specs.declared.schema.TableSchema.{TableSchema}
use Rattle.pm_model_folder.specs.Folder.{Folder}
use Rattle.pm_model_folder.specs.Ledger.{count_of}
use Rattle.pm_create.specs.Making.{LeavesFiles}
use Rattle.pm_read_schema.specs.Beside.{AnyPast, Learns}
use Rattle.pm_read_schema.specs.Trace as reader
use Rattle.pm_scan.specs.AllCalls as scanner
use Rattle.pm_scan.specs.AllCalls.{id_of, path_of, NamesAsked, PrintsScan}
use Rattle.pm_scan.specs.Asked.{asked_at}
use Rattle.pm_scan.specs.Meaning.{IsScan}
use Rattle.pm_scan.specs.Trace.{HasScan}
use Rattle.pm_command.specs.Outside.{ImagesRest, Outside, Prints, Rests}
use Rattle.pm_command.specs.Table as tables
use Rattle.pm_command.specs.Table.{LearnsRefusal}

-- they go on from the schema, and are those of a scan with this answer
abbrev pub GoesOnAs : Option ℕ → Result (List ℕ) Refusal → List Event → Type 0
GoesOnAs at made own = (s : TableSchema) × IsDeclared s × scanner.DidScan s at made own

-- Its calls of the store, by what it made: the text of the scan of the table, at the snapshot; or they show why no
-- schema was read, or a refusal later.
abbrev pub DidScan : Option ℕ → Result (List ℕ) Refusal → List Event → Type 0
DidScan at (Ok text) own = GoesOnAs at (Ok text) own
DidScan at (Err e) own = reader.Shows e own ⊎ GoesOnAs at (Err e) own

-- the schema was read, and by the calls of a scan after that the snapshot with the id, which has this text
abbrev pub HasRead : TableSchema → Option ℕ → ℕ → List ℕ → List Event → Type 0
HasRead s at id text own =
    (earlier later : List Event) × scanner.Has s earlier × HasScan (asked_at s at) id text later
    × (own ≡ earlier ++ later)

-- Whatever others do before, between and after its calls, the text is the scan of the table at the snapshot that these
-- read: of each history that the files stand for, once others changed them by the kinds of change alone. A refusal
-- tells what is so at the call that shows it: that there is no table; that the snapshot has gone; or that it is above
-- the latest. And the snapshot is the one that is asked for, if one is. No file is called
-- damaged.
abbrev pub MadeBeside : Option ℕ → Result (List ℕ) Refusal → StoreView → StoreView → Type 0
MadeBeside at (Ok text) before after = (s : TableSchema) × (id : ℕ) × HasTrace (HasRead s at id text) before after
    × Learns AnyPast (λ f p. IsScan p id text) before after
MadeBeside at (Err e) before after = NamesAsked at e × LearnsRefusal e before after

-- the text of what it made
abbrev pub text_of : Result (List ℕ) Refusal → List ℕ
text_of (Ok text) = text
text_of (Err e) = []

-- what `scan` answers, where it is asked for the newest snapshot or for the one with an id
abbrev pub Scans : Option ℕ → Outside → Outside → Option Refusal → Type 0
Scans at before after answer =
    (made : Result (List ℕ) Refusal) × HasTrace (DidScan at made) before.store after.store
    × MadeBeside at made before.store after.store
    × Prints (text_of made) None (result_err made) before.out after.out answer

-- ---- a history that stands at its first call, where nobody else acts from then on

-- the file of a table's snapshot has gone
abbrev pub HasGone : History → ℕ → StoreView → Type 0
HasGone h id first = (s : TableSchema) × IsTableOf s h × LeavesFiles (λ f. map.get f (path_of s id) ≡ None) first

-- the snapshot is one of the history's, and its file is there
abbrev pub IsThere : History → ℕ → StoreView → Type 0
IsThere h id first = (id ≤ count_of h)
    × ((s : TableSchema) × IsTableOf s h × LeavesFiles (λ f. IsSome (map.get f (path_of s id))) first)

-- the history has a table
abbrev pub HasTable : History → Type 0
HasTable h = (s : TableSchema) × IsTableOf s h × IsDeclared s

-- What a history may be refused for: the snapshot that is asked for is above the newest or has gone; or why each
-- command may refuse a table (`MayRefuse` of `pm_command`).
abbrev pub MayRefuse : History → Option ℕ → StoreView → StoreView → Refusal → Type 0
MayRefuse h at first after (refusals.NoSnapshot id latest) =
    HasTable h × (at ≡ Some id) × (latest ≡ count_of h) × (latest < id)
MayRefuse h at first after (refusals.Expired id) =
    HasTable h × (at ≡ Some id) × (id ≤ count_of h) × HasGone h id first
MayRefuse h at first after other = tables.MayRefuse h first after other

-- the scan of the history's table was printed, at the newest snapshot or at the one that is asked for
abbrev pub PrintsTable : History → Option ℕ → SinkView → SinkView → Type 0
PrintsTable no_table at before after = ⊥
PrintsTable (table s entries) at before after =
    after.taken ≡ and_then before.taken (scan_text s (rows_up_to entries (id_of at (length entries))))

-- a prefix of it was
abbrev pub PrintsPrefix : History → Option ℕ → SinkView → SinkView → Type 0
PrintsPrefix no_table at before after = ⊥
PrintsPrefix (table s entries) at before after =
    TookPrefix before.taken after.taken (scan_text s (rows_up_to entries (id_of at (length entries))))

-- The answer to a history: exactly the scan of its table was printed, at a snapshot that is there; or a prefix of it,
-- where the sink failed; or what it may be refused for.
abbrev pub AnswersHistory : History → Option ℕ → StoreView → Outside → Outside → Option Refusal → Type 0
AnswersHistory h at first before after None =
    IsThere h (id_of at (count_of h)) first × PrintsTable h at before.out after.out
AnswersHistory h at first before after (Some (refusals.SinkFault snapshot)) =
    SinkFailed before.out after.out × IsThere h (id_of at (count_of h)) first
    × PrintsPrefix h at before.out after.out
AnswersHistory h at first before after (Some e) = MayRefuse h at first after.store e

-- what `scan` does to a history: the folder goes on to stand for it, unchanged, and each image does
pub record ScansTable (h : History) (at : Option ℕ) (first : StoreView) (before after : Outside)
    (answer : Option Refusal) : Type 0 where
  pub answers : AnswersHistory h at first before after answer
  pub rests : Rests h first after.store
  pub images : ImagesRest h first after.store

-- what it promises of histories, from its first call of the store on
abbrev pub ScansTables : Option ℕ → Outside → Outside → Option Refusal → Type 0
ScansTables at before after answer =
    FromFirst (λ first _. (h : History) → LeavesFiles (λ f. Folder f h) first
    → ScansTable h at first before after answer) before.store after.store

-- ---- before anything is printed

-- Private: what was made of a history
abbrev pub MakesText : History → Option ℕ → StoreView → StoreView → Result (List ℕ) Refusal → Type 0
MakesText h at first after (Ok text) = IsThere h (id_of at (count_of h)) first × PrintsScan h at text
MakesText h at first after (Err e) = MayRefuse h at first after e

-- Private: what the calls of `scan` do to a history
pub record Keeps (h : History) (at : Option ℕ) (first after : StoreView) (made : Result (List ℕ) Refusal)
    : Type 0 where
  pub makes : MakesText h at first after made
  pub rests : Rests h first after
  pub images : ImagesRest h first after

-- Private: and to histories
abbrev pub KeepsHistories : Option ℕ → StoreView → StoreView → Result (List ℕ) Refusal → Type 0
KeepsHistories at before after made =
    FromFirst (λ first after. (h : History) → LeavesFiles (λ f. Folder f h) first → Keeps h at first after made)
    before after

-- the calls of `scan`, what they make known and do to histories, and what was printed
abbrev pub IsScanned : Option ℕ → SinkView → SinkView → StoreView → StoreView → Option Refusal → Type 0
IsScanned at out out_after store store_after answer =
    (made : Result (List ℕ) Refusal) × HasTrace (DidScan at made) store store_after
    × MadeBeside at made store store_after × KeepsHistories at store store_after made
    × Prints (text_of made) None (result_err made) out out_after answer
