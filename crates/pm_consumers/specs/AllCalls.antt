-- All calls of a lister of consumers, one after another: what they are, and what they say of a history that stands at
-- the first one, where nobody else acts from then on; and whatever others do.
use Rattle.std.specs.Prelude.{◌≡◌, ◌↔◌, ℕ, List, Contains, map, IsSome, Result, Ok, Err, IfOk, IfErr, Vec}
use Rattle.std.specs.Cmp.Lexicographic.{slice_cmp}
use Rattle.std.specs.FinMap as finite
use Rattle.std.specs.Global.{Global}
use Rattle.std.specs.List.{AllByRecursion}
use Rattle.std.specs.List.Sorted.{IsStrictlySortedBy}
use Rattle.std.specs.Ordering.{nat_cmp}
use Rattle.pm_values.specs.declared.refusal.Refusal.{Refusal}
use Rattle.pm_store.specs.Files.{Files}
use Rattle.pm_store.specs.Store.{StoreView, FromFirst}
use Rattle.pm_machine.specs.Trace.{Event}
use Rattle.pm_model_history.specs.History.{History}
use Rattle.pm_model_folder.specs.Folder.{Folder}
use Rattle.pm_model_folder.specs.Meaning.{ConsumerAt}
use Rattle.pm_model_folder.specs.Paths.{consumer_path}
use Rattle.pm_consumer_files.specs.declared.lines.NamedConsumer.{NamedConsumer}
use Rattle.pm_read_schema.specs.AllCalls.{HasFiles, Stay}
use Rattle.pm_read_schema.specs.Beside.{AnyPast, IsTold, Learns}
use Rattle.pm_read_latest.specs.AllCalls.{IsCaused}
use Rattle.pm_consumers.specs.Trace.{HasListed, Shows}

-- what a listing answers
abbrev pub Listing : Type 0
Listing = Result (Vec NamedConsumer Global) Refusal

-- the calls by their answer: these consumers were listed and read, or they show the refusal
abbrev pub DidList : Listing → List Event → Type 0
DidList (Ok consumers) own = HasListed consumers.items own
DidList (Err refusal) own = Shows refusal own

-- the same consumers, or the same refusal
abbrev pub IsSameListing : Listing → Listing → Type 0
IsSameListing (Ok one) (Ok other) = one.items ≡ other.items
IsSameListing (Err one) (Err other) = one ≡ other
IsSameListing one other = ⊥

-- these are the consumers whose files are there, rising by name, each as its file says
pub record AreConsumersOf (f : Files) (consumers : List NamedConsumer) : Type 0 where
  pub rising : IsStrictlySortedBy (slice_cmp nat_cmp) (map (λ c. c.name) consumers)
  pub exact : (name : List ℕ) → Contains (map (λ (c : NamedConsumer). c.name) consumers) name
      ↔ IsSome (finite.get f (consumer_path name))
  pub each : AllByRecursion (λ c. ConsumerAt f c.name c.consumer) consumers

-- What a listing is where the files stand for a history at the first call, and nobody else acts from then on: the
-- consumers are those that are there, and a refusal has its cause. No file is damaged.
pub record ListsAll (f : Files) (first after : StoreView) (result : Listing) : Type 0 where
  pub files : Stay f first after
  pub consumers : IfOk result (λ consumers. AreConsumersOf f consumers.items)
  pub cause : IfErr result (IsCaused first after)

-- what it promises of histories, from the first call on
abbrev pub ListsConsumers : StoreView → StoreView → Listing → Type 0
ListsConsumers before after result =
    FromFirst (λ first after. (f : Files) (h : History) → HasFiles f first → Folder f h
    → ListsAll f first after result) before after

-- Whatever others do before, between and after the calls, what a refusal tells is so at the call that shows it: no file
-- is damaged. What a consumer is said to be is what its read was answered, and no more: anyone may write the file
-- again. So of those that are listed no more is known than that a history stands.
abbrev pub ListsBeside : StoreView → StoreView → Listing → Type 0
ListsBeside before after (Ok consumers) = Learns AnyPast AnyPast before after
ListsBeside before after (Err refusal) = Learns AnyPast (IsTold refusal) before after
