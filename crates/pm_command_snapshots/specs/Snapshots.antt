-- What the command `snapshots` answers, what it prints, and that it leaves a folder as it is.
use Rattle.std.specs.Prelude.{◌≡◌, ◌≢◌, ◌⊎◌, ℕ, List, [], Option, None, Some, Result, Ok, Err}
use Rattle.std.specs.Result.{result_err}
use Rattle.pm_base.specs.Known.{and_then}
use Rattle.pm_values.specs.declared.refusal.Refusal.{Refusal}
use Rattle.pm_values.specs.declared.refusal.Refusal.TheVariants as refusals
use Rattle.pm_io.specs.Sink.{SinkView, SinkFailed, TookPrefix}
use Rattle.pm_store.specs.Store.{StoreView, FromFirst}
use Rattle.pm_machine.specs.Trace.{Event, HasTrace}
use Rattle.pm_model_history.specs.History.{History, no_table}
use Rattle.pm_schema.specs.Again.{IsDeclared}
use Rattle.pm_schema.specs.declared.schema.TableSchema.{TableSchema}
use Rattle.pm_model_folder.specs.Folder.{Folder}
use Rattle.pm_create.specs.Making.{LeavesFiles}
use Rattle.pm_read_schema.specs.Beside.{AnyPast, Learns}
use Rattle.pm_read_schema.specs.Trace as reader
use Rattle.pm_snapshots.specs.AllCalls.{AreLinesIn, AreLinesOf, GoesOnFrom}
use Rattle.pm_snapshots.specs.Lines.{snapshots_text}
use Rattle.pm_snapshots.specs.Lister.{lines_of}
use Rattle.pm_snapshots.specs.Trace.{HasListed, Shows}
use Rattle.pm_snapshots.specs.declared.line.SnapshotLine.{SnapshotLine}
use Rattle.pm_snapshots.specs.declared.phase.Phase.{Phase}
use Rattle.pm_command.specs.Outside.{ImagesRest, Outside, Prints, Rests}
use Rattle.pm_command.specs.Table.{LearnsRefusal, MayRefuse}

-- they go on from the schema, and show a refusal of what follows
abbrev pub EndsLater : Refusal → List Event → Type 0
EndsLater e own = (s : TableSchema) × IsDeclared s × GoesOnFrom s own × Shows e own

-- Its calls of the store, by what it made: the lines of all snapshots of the table; or they show why no schema was
-- read, or a refusal later.
abbrev pub DidSnapshots : Result (List SnapshotLine) Refusal → List Event → Type 0
DidSnapshots (Ok lines) own = (s : TableSchema) × IsDeclared s × HasListed s lines own
DidSnapshots (Err e) own = reader.Shows e own ⊎ EndsLater e own

-- Whatever others do before, between and after its calls, the lines are those of the table's snapshots that these
-- listed, each as it stood when it was committed: in each history that the files stand for, once others changed them by
-- the kinds of change alone. And a refusal tells what is so at the call that shows it: that there is no table; or that
-- a snapshot has gone. No file is called damaged.
abbrev pub MadeBeside : Result (List SnapshotLine) Refusal → StoreView → StoreView → Type 0
MadeBeside (Ok lines) before after = (s : TableSchema) × HasTrace (HasListed s lines) before after
    × Learns AnyPast (λ f p. AreLinesIn s lines p) before after
MadeBeside (Err e) before after = LearnsRefusal e before after

-- the text of what it made
abbrev pub text_of : Result (List SnapshotLine) Refusal → List ℕ
text_of (Ok lines) = snapshots_text lines
text_of (Err e) = []

-- what `snapshots` answers
abbrev pub ListsSnapshots : Outside → Outside → Option Refusal → Type 0
ListsSnapshots before after answer =
    (made : Result (List SnapshotLine) Refusal) × HasTrace (DidSnapshots made) before.store after.store
    × MadeBeside made before.store after.store
    × Prints (text_of made) None (result_err made) before.out after.out answer

-- ---- a history that stands at its first call, where nobody else acts from then on

-- The answer to a history: the lines of exactly the snapshots that the folder of the table has were printed; or a
-- prefix of them, where the sink failed; or what it may be refused for.
abbrev pub AnswersHistory : History → StoreView → Outside → Outside → Option Refusal → Type 0
AnswersHistory h first before after None =
    (h ≢ no_table)
    × ((lines : List SnapshotLine) × LeavesFiles (λ f. AreLinesOf f lines) first
    × (after.out.taken ≡ and_then before.out.taken (snapshots_text lines)))
AnswersHistory h first before after (Some (refusals.SinkFault snapshot)) =
    SinkFailed before.out after.out × (h ≢ no_table)
    × ((lines : List SnapshotLine) × LeavesFiles (λ f. AreLinesOf f lines) first
    × TookPrefix before.out.taken after.out.taken (snapshots_text lines))
AnswersHistory h first before after (Some e) = MayRefuse h first after.store e

-- what `snapshots` does to a history: the folder goes on to stand for it, unchanged, and each image does
pub record ListsTable (h : History) (first : StoreView) (before after : Outside) (answer : Option Refusal)
    : Type 0 where
  pub answers : AnswersHistory h first before after answer
  pub rests : Rests h first after.store
  pub images : ImagesRest h first after.store

-- what it promises of histories, from its first call of the store on
abbrev pub ListsTables : Outside → Outside → Option Refusal → Type 0
ListsTables before after answer =
    FromFirst (λ first _. (h : History) → LeavesFiles (λ f. Folder f h) first
    → ListsTable h first before after answer) before.store after.store

-- ---- before anything is printed

-- Private: the lines that a lister made
abbrev pub made_of : Result Phase Refusal → Result (List SnapshotLine) Refusal
made_of (Ok m) = Ok (lines_of m)
made_of (Err e) = Err e

-- Private: what was made of a history
abbrev pub MakesLines : History → StoreView → StoreView → Result (List SnapshotLine) Refusal → Type 0
MakesLines h first after (Ok lines) = (h ≢ no_table) × LeavesFiles (λ f. AreLinesOf f lines) first
MakesLines h first after (Err e) = MayRefuse h first after e

-- Private: what the calls of `snapshots` do to a history
pub record Keeps (h : History) (first after : StoreView) (made : Result (List SnapshotLine) Refusal) : Type 0 where
  pub makes : MakesLines h first after made
  pub rests : Rests h first after
  pub images : ImagesRest h first after

-- Private: and to histories
abbrev pub KeepsHistories : StoreView → StoreView → Result (List SnapshotLine) Refusal → Type 0
KeepsHistories before after made =
    FromFirst (λ first after. (h : History) → LeavesFiles (λ f. Folder f h) first → Keeps h first after made)
    before after

-- the calls of `snapshots`, what they make known and do to histories, and what was printed
abbrev pub IsListed : SinkView → SinkView → StoreView → StoreView → Option Refusal → Type 0
IsListed out out_after store store_after answer =
    (made : Result (List SnapshotLine) Refusal) × HasTrace (DidSnapshots made) store store_after
    × MadeBeside made store store_after × KeepsHistories store store_after made
    × Prints (text_of made) None (result_err made) out out_after answer
