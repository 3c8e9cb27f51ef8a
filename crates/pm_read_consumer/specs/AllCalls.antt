-- The call of a reader of a consumer's file: what it says of a history that stands at it, where nobody else acts; and
-- whatever others do.
use Rattle.std.specs.Prelude.{◌≡◌, ℕ, List, Result, Ok, Err, IfOk, IfErr}
use Rattle.std.specs.FinMap as map
use Rattle.pm_values.specs.declared.refusal.Refusal.{Refusal}
use Rattle.pm_store.specs.Files.{Files}
use Rattle.pm_store.specs.Store.{StoreView, FromFirst}
use Rattle.pm_machine.specs.Trace.{Event}
use Rattle.pm_model_history.specs.History.{History}
use Rattle.pm_model_folder.specs.Folder.{Folder}
use Rattle.pm_model_folder.specs.Paths.{consumer_path}
use Rattle.pm_read_schema.specs.AllCalls.{HasFiles, Stay}
use Rattle.pm_read_schema.specs.Beside.{AnyPast, IsTold, Learns}
use Rattle.pm_read_latest.specs.AllCalls.{IsCaused}
use Rattle.pm_read_consumer.specs.Meaning.{IsFoundIn}
use Rattle.pm_read_consumer.specs.Reader.{Says}
use Rattle.pm_read_consumer.specs.Trace.{HasFound, Shows}
use Rattle.pm_read_consumer.specs.declared.phase.FoundConsumer.{FoundConsumer}

-- the calls by their answer: this was found, or they show the refusal
abbrev pub DidFind : List ℕ → Result FoundConsumer Refusal → List Event → Type 0
DidFind name (Ok r) own = HasFound name r own
DidFind name (Err refusal) own = Shows name refusal own

-- this is what is at the path of a consumer, and what it says
abbrev pub IsFoundAt : Files → List ℕ → FoundConsumer → Type 0
IsFoundAt f name r = (r.found ≡ map.get f (consumer_path name)) × Says r.found r.consumer

-- What it finds where the files stand for a history at the call, and nobody else acts from then on: the files stay, it
-- is what is at the consumer's path, and a refusal has its cause. No file is damaged.
pub record FindsConsumer (name : List ℕ) (f : Files) (first after : StoreView) (result : Result FoundConsumer Refusal)
    : Type 0 where
  pub files : Stay f first after
  pub found : IfOk result (IsFoundAt f name)
  pub cause : IfErr result (IsCaused first after)

-- what it promises of histories, from the call on
abbrev pub FindsConsumers : List ℕ → StoreView → StoreView → Result FoundConsumer Refusal → Type 0
FindsConsumers name before after result =
    FromFirst (λ first after. (f : Files) (h : History) → HasFiles f first → Folder f h
    → FindsConsumer name f first after result) before after

-- no table stood before these calls that others changed by the kinds of change alone
abbrev pub NoneStood : StoreView → StoreView → Type 0
NoneStood before after = Learns AnyPast (λ f p. ⊥) before after

-- What it makes known at its end, whatever others do before the call and after it: what was found is there, with what
-- that shows of the table; and a refusal tells what is so: where a table stood, no file is damaged.
abbrev pub FindsBeside : List ℕ → StoreView → StoreView → Result FoundConsumer Refusal → Type 0
FindsBeside name before after (Ok r) = Learns AnyPast (IsFoundIn name r) before after
FindsBeside name before after (Err refusal) = Learns AnyPast (IsTold refusal) before after
