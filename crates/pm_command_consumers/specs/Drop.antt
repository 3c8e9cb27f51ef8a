-- What the command `consumers --drop` answers, what it prints, and what it leaves of a folder.
use Rattle.std.specs.Prelude.{◌≡◌, ◌≢◌, ◌⊎◌, ℕ, List, [], codes, Bool, true, false, Option, None, Some, IsSome}
use Rattle.std.specs.Prelude.{Result, Ok, Err}
use Rattle.std.specs.FinMap as map
use Rattle.std.specs.Result.{result_err}
use Rattle.pm_base.specs.Known.{and_then}
use Rattle.pm_base.specs.Newline.{line}
use Rattle.pm_values.specs.declared.refusal.Refusal.{Refusal}
use Rattle.pm_values.specs.declared.refusal.Refusal.TheVariants as refusals
use Rattle.pm_io.specs.Sink.{SinkView, SinkFailed, TookPrefix}
use Rattle.pm_store.specs.Files.{Files}
use Rattle.pm_store.specs.Images.{Extends}
use Rattle.pm_store.specs.Store.{StoreView, FromFirst}
use Rattle.pm_machine.specs.Trace.{Event, HasTrace}
use Rattle.pm_model_history.specs.History.{History, no_table}
use Rattle.pm_model_folder.specs.Changes.{Actor}
use Rattle.pm_model_folder.specs.Folder.{Folder, HaveSettled}
use Rattle.pm_model_folder.specs.Paths.{consumer_path}
use Rattle.pm_create.specs.Making.{LeavesFiles}
use Rattle.pm_read_schema.specs.Beside.{AnyPast, Learns}
use Rattle.pm_read_schema.specs.Trace as reader
use Rattle.pm_move_consumer.specs.DropperAllCalls.{AreOthersOf, DidDrop, DropsOn, ItGoes, ItLeaves, ItRests}
use Rattle.pm_move_consumer.specs.DropperMeaning.{drop_by}
use Rattle.pm_move_consumer.specs.DropperTrace as dropper
use Rattle.pm_move_consumer.specs.MoverAllCalls.{OthersRest}
use Rattle.pm_move_consumer.specs.MoverMeaning.{HasPlainTable}
use Rattle.pm_command.specs.Outside.{Outside, Prints}
use Rattle.pm_command.specs.Table.{LearnsRefusal, MayRefuse}
use Rattle.pm_command_consumers.specs.Consumers.{AfterSchema}

-- ---- its calls

-- Its calls of the store, by what it made: the consumer's file was removed, and whether one was there was told; or they
-- show why no schema was read, or a refusal of the remove.
abbrev pub DidRemove : List ℕ → Result Bool Refusal → List Event → Type 0
DidRemove name (Ok was_there) own = AfterSchema (DidDrop name (Ok was_there)) own
DidRemove name (Err e) own = reader.Shows e own ⊎ AfterSchema (dropper.Shows name e) own

-- Whatever others do, of each past that has the table its last call makes no more than this, whoever makes it.
abbrev pub RemovesBeside : List ℕ → Result Bool Refusal → StoreView → StoreView → Type 0
RemovesBeside name made before after = (middle : StoreView)
    × Learns AnyPast (λ f p. HasPlainTable p.history) before middle
    × ((me : Actor) → DropsOn (drop_by me name) made middle after)

-- or the schema is refused, and what that tells is so at the call that shows it
abbrev pub MadeBeside : List ℕ → Result Bool Refusal → StoreView → StoreView → Type 0
MadeBeside name (Ok was_there) before after = RemovesBeside name (Ok was_there) before after
MadeBeside name (Err e) before after = LearnsRefusal e before after ⊎ RemovesBeside name (Err e) before after

-- what is told: whether a file was there
abbrev pub told_text : Bool → List ℕ
told_text true = line (codes "dropped")
told_text false = line (codes "no consumer")

abbrev pub text_of : Result Bool Refusal → List ℕ
text_of (Ok was_there) = told_text was_there
text_of (Err e) = []

-- what `consumers --drop` answers
abbrev pub Drops : List ℕ → Outside → Outside → Option Refusal → Type 0
Drops name before after answer =
    (made : Result Bool Refusal) × HasTrace (DidRemove name made) before.store after.store
    × MadeBeside name made before.store after.store
    × Prints (text_of made) None (result_err made) before.out after.out answer

-- ---- a history that stands at its first call, where nobody else acts from then on

-- the consumer has a file, or none
abbrev pub WasThere : List ℕ → Bool → Files → Type 0
WasThere name true f = IsSome (map.get f (consumer_path name))
WasThere name false f = map.get f (consumer_path name) ≡ None

-- The files stand for the history, and only the consumer's file may be another. Each other consumer that was settled
-- is, and this one too where its file is as it was.
pub record StandsWithout (name : List ℕ) (h : History) (names : List (List ℕ)) (f after : Files) : Type 0 where
  pub rest : OthersRest (consumer_path name) f after
  pub folder : Folder after h
  pub others : (others : List (List ℕ)) → AreOthersOf name names others → HaveSettled after h others
  pub settled : ItRests name f after → HaveSettled after h names

-- What an answer leaves: no file, once the remove was answered, whether or not the sink took what was told; else the
-- file as it was, but that a fault of the remove leaves it so or gone.
abbrev pub ItEnds : List ℕ → Option Refusal → Files → Files → Type 0
ItEnds name None f after = map.get after (consumer_path name) ≡ None
ItEnds name (Some (refusals.SinkFault snapshot)) f after = map.get after (consumer_path name) ≡ None
ItEnds name (Some (refusals.StoreFault path)) f after =
    ItRests name f after ⊎ ((path ≡ consumer_path name) × ItGoes name f after)
ItEnds name (Some e) f after = ItRests name f after

-- The answer to a history: whether a file was there was printed; or a prefix of that, where the sink failed; or what it
-- may be refused for.
abbrev pub AnswersHistory : List ℕ → History → StoreView → Outside → Outside → Option Refusal → Type 0
AnswersHistory name h first before after None =
    (h ≢ no_table) × ((was_there : Bool) × LeavesFiles (WasThere name was_there) first
    × (after.out.taken ≡ and_then before.out.taken (told_text was_there)))
AnswersHistory name h first before after (Some (refusals.SinkFault snapshot)) =
    SinkFailed before.out after.out × (h ≢ no_table)
    × ((was_there : Bool) × LeavesFiles (WasThere name was_there) first
    × TookPrefix before.out.taken after.out.taken (told_text was_there))
AnswersHistory name h first before after (Some e) = MayRefuse h first after.store e

-- what it does to a history with settled consumers, and what each image of a crash is
pub record DropsTable (name : List ℕ) (h : History) (names : List (List ℕ)) (first : StoreView) (before after : Outside)
    (answer : Option Refusal) : Type 0 where
  pub answers : AnswersHistory name h first before after answer
  pub leaves : LeavesFiles (λ f. LeavesFiles (λ g. StandsWithout name h names f g × ItEnds name answer f g) after.store)
      first
  pub images : LeavesFiles (λ f. Extends (λ g. StandsWithout name h names f g × (ItRests name f g ⊎ ItGoes name f g))
      first.ops after.store.ops) first

-- what it promises of histories, from its first call of the store on
abbrev pub DropsTables : List ℕ → Outside → Outside → Option Refusal → Type 0
DropsTables name before after answer =
    FromFirst (λ first _. (h : History) (names : List (List ℕ))
    → LeavesFiles (λ f. Folder f h × HaveSettled f h names) first
    → DropsTable name h names first before after answer) before.store after.store

-- ---- before anything is printed

-- Private: what was made of a history
abbrev pub MakesOf : List ℕ → History → StoreView → StoreView → Result Bool Refusal → Type 0
MakesOf name h first after (Ok was_there) = (h ≢ no_table) × LeavesFiles (WasThere name was_there) first
MakesOf name h first after (Err e) = MayRefuse h first after e

-- Private: what they leave of the file
abbrev pub EndsBy : List ℕ → Result Bool Refusal → Files → Files → Type 0
EndsBy name (Err (refusals.StoreFault path)) f after =
    ItRests name f after ⊎ ((path ≡ consumer_path name) × ItGoes name f after)
EndsBy name other f after = ItLeaves name other f after

-- Private: what the calls do to a history
pub record Keeps (name : List ℕ) (h : History) (names : List (List ℕ)) (first after : StoreView)
    (made : Result Bool Refusal) : Type 0 where
  pub makes : MakesOf name h first after made
  pub leaves : LeavesFiles (λ f. LeavesFiles (λ g. StandsWithout name h names f g × EndsBy name made f g) after) first
  pub images : LeavesFiles (λ f. Extends (λ g. StandsWithout name h names f g × (ItRests name f g ⊎ ItGoes name f g))
      first.ops after.ops) first

-- Private: and to histories
abbrev pub KeepsHistories : List ℕ → StoreView → StoreView → Result Bool Refusal → Type 0
KeepsHistories name before after made =
    FromFirst (λ first after. (h : History) (names : List (List ℕ))
    → LeavesFiles (λ f. Folder f h × HaveSettled f h names) first → Keeps name h names first after made) before after

-- the calls, what they do beside others and to histories, and what was printed
abbrev pub IsRemoved : List ℕ → SinkView → SinkView → StoreView → StoreView → Option Refusal → Type 0
IsRemoved name out out_after store store_after answer =
    (made : Result Bool Refusal) × HasTrace (DidRemove name made) store store_after
    × MadeBeside name made store store_after × KeepsHistories name store store_after made
    × Prints (text_of made) None (result_err made) out out_after answer
