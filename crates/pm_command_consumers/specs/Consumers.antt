-- What the command `consumers` answers, what it prints, and that it leaves a folder as it is.
use Rattle.std.specs.Prelude.{◌≡◌, ◌≢◌, ◌⊎◌, ℕ, List, [], ◌++◌, Option, None, Some, Ok, Err}
use Rattle.std.specs.Result.{result_err}
use Rattle.pm_base.specs.Known.{and_then}
use Rattle.pm_values.specs.declared.refusal.Refusal.{Refusal}
use Rattle.pm_values.specs.declared.refusal.Refusal.TheVariants as refusals
use Rattle.pm_io.specs.Sink.{SinkView, SinkFailed, TookPrefix}
use Rattle.pm_store.specs.Store.{StoreView, FromFirst}
use Rattle.pm_machine.specs.Trace.{Event, HasTrace}
use Rattle.pm_model_history.specs.History.{History, no_table}
use Rattle.pm_schema.specs.Again.{IsDeclared}
use Rattle.pm_schema.specs.declared.schema.TableSchema.{TableSchema}
use Rattle.pm_model_folder.specs.Folder.{Folder}
use Rattle.pm_consumer_files.specs.Lines.{consumers_text}
use Rattle.pm_consumer_files.specs.declared.lines.NamedConsumer.{NamedConsumer}
use Rattle.pm_create.specs.Making.{LeavesFiles}
use Rattle.pm_read_schema.specs.Beside.{AnyPast, Learns}
use Rattle.pm_read_schema.specs.Trace as reader
use Rattle.pm_read_schema.specs.declared.phase.Phase.TheVariants as readers
use Rattle.pm_consumers.specs.AllCalls.{AreConsumersOf, Listing}
use Rattle.pm_consumers.specs.Trace as lister
use Rattle.pm_consumers.specs.Trace.{HasListed}
use Rattle.pm_command.specs.Outside.{ImagesRest, Outside, Prints, Rests}
use Rattle.pm_command.specs.Table.{LearnsRefusal, MayRefuse}

-- ---- its calls

-- the schema was read, and then these calls came
abbrev pub AfterSchema : (List Event → Type 0) → List Event → Type 0
AfterSchema Next own = (s : TableSchema) × (earlier later : List Event) × IsDeclared s
    × reader.Did (readers.Ready s) earlier × Next later × (own ≡ earlier ++ later)

-- the calls of a listing show a refusal, or memory ran out for the text of what was listed
abbrev pub ShowsListing : Refusal → List Event → Type 0
ShowsListing e own = lister.Shows e own
    ⊎ ((e ≡ refusals.Memory) × (consumers : List NamedConsumer) × HasListed consumers own)

-- Its calls of the store, by what it made: the table's consumers, each as its file said when it was read; or they show
-- why no schema was read, or a refusal of the listing.
abbrev pub DidConsumers : Listing → List Event → Type 0
DidConsumers (Ok consumers) own = AfterSchema (HasListed consumers.items) own
DidConsumers (Err e) own = reader.Shows e own ⊎ AfterSchema (ShowsListing e) own

-- Whatever others do before, between and after its calls, a refusal tells what is so at the call that shows it: that
-- there is no table. No file is called damaged. Of the consumers that are listed no more is known than that a history
-- stands.
abbrev pub MadeBeside : Listing → StoreView → StoreView → Type 0
MadeBeside (Ok consumers) before after = Learns AnyPast AnyPast before after
MadeBeside (Err e) before after = LearnsRefusal e before after

-- the text of what it made
abbrev pub text_of : Listing → List ℕ
text_of (Ok consumers) = consumers_text consumers.items
text_of (Err e) = []

-- what `consumers` answers
abbrev pub ListsConsumers : Outside → Outside → Option Refusal → Type 0
ListsConsumers before after answer =
    (made : Listing) × HasTrace (DidConsumers made) before.store after.store
    × MadeBeside made before.store after.store
    × Prints (text_of made) None (result_err made) before.out after.out answer

-- ---- a history that stands at its first call, where nobody else acts from then on

-- The answer to a history: the lines of exactly the consumers whose files the folder of the table has were printed,
-- rising by name, each as its file says; or a prefix of them, where the sink failed; or what it may be refused for.
abbrev pub AnswersHistory : History → StoreView → Outside → Outside → Option Refusal → Type 0
AnswersHistory h first before after None =
    (h ≢ no_table)
    × ((consumers : List NamedConsumer) × LeavesFiles (λ f. AreConsumersOf f consumers) first
    × (after.out.taken ≡ and_then before.out.taken (consumers_text consumers)))
AnswersHistory h first before after (Some (refusals.SinkFault snapshot)) =
    SinkFailed before.out after.out × (h ≢ no_table)
    × ((consumers : List NamedConsumer) × LeavesFiles (λ f. AreConsumersOf f consumers) first
    × TookPrefix before.out.taken after.out.taken (consumers_text consumers))
AnswersHistory h first before after (Some e) = MayRefuse h first after.store e

-- what `consumers` does to a history: the folder goes on to stand for it, unchanged, and each image does
pub record ListsTable (h : History) (first : StoreView) (before after : Outside) (answer : Option Refusal)
    : Type 0 where
  pub answers : AnswersHistory h first before after answer
  pub rests : Rests h first after.store
  pub images : ImagesRest h first after.store

-- what it promises of histories, from its first call of the store on
abbrev pub ListsTables : Outside → Outside → Option Refusal → Type 0
ListsTables before after answer =
    FromFirst (λ first _. (h : History) → LeavesFiles (λ f. Folder f h) first
    → ListsTable h first before after answer) before.store after.store

-- ---- before anything is printed

-- Private: what was made of a history
abbrev pub MakesLines : History → StoreView → StoreView → Listing → Type 0
MakesLines h first after (Ok consumers) = (h ≢ no_table) × LeavesFiles (λ f. AreConsumersOf f consumers.items) first
MakesLines h first after (Err e) = MayRefuse h first after e

-- Private: what the calls of `consumers` do to a history
pub record Keeps (h : History) (first after : StoreView) (made : Listing) : Type 0 where
  pub makes : MakesLines h first after made
  pub rests : Rests h first after
  pub images : ImagesRest h first after

-- Private: and to histories
abbrev pub KeepsHistories : StoreView → StoreView → Listing → Type 0
KeepsHistories before after made =
    FromFirst (λ first after. (h : History) → LeavesFiles (λ f. Folder f h) first → Keeps h first after made)
    before after

-- the calls of `consumers`, what they show and do to histories, and what was printed
abbrev pub IsListed : SinkView → SinkView → StoreView → StoreView → Option Refusal → Type 0
IsListed out out_after store store_after answer =
    (made : Listing) × HasTrace (DidConsumers made) store store_after
    × MadeBeside made store store_after × KeepsHistories store store_after made
    × Prints (text_of made) None (result_err made) out out_after answer
