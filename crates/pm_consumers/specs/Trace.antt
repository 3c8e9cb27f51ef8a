-- The own calls of a lister of consumers, and what they show.
use Rattle.std.specs.Prelude.{◌≡◌, ℕ, List, [], ◌∷◌, ◌++◌, map, take, Option, None, Some}
use Rattle.std.specs.List.{AllByRecursion, flat_map}
use Rattle.pm_values.specs.declared.refusal.Refusal.{Refusal}
use Rattle.pm_values.specs.declared.refusal.Refusal.TheVariants as refusals
use Rattle.pm_store.specs.declared.answer.Answer.{Answer}
use Rattle.pm_store.specs.declared.answer.Answer.TheVariants as answers
use Rattle.pm_machine.specs.Trace.{Event, IsFailed, MayEnd, answered}
use Rattle.pm_snapshot.specs.declared.consumer.Consumer.{Consumer}
use Rattle.pm_model_folder.specs.Paths.{consumer_path}
use Rattle.pm_consumer_files.specs.declared.lines.NamedConsumer.{NamedConsumer}
use Rattle.pm_read_schema.specs.Trace.{Names}
use Rattle.pm_read_consumer.specs.Reader.{IsDamaged, Says}
use Rattle.pm_read_consumer.specs.Trace.{read_consumer}
use Rattle.pm_consumers.specs.Lister.{consumers_call, next_call}
use Rattle.pm_consumers.specs.Names.{AreNames}
use Rattle.pm_consumers.specs.Reading.{ReadingView, next_name}
use Rattle.pm_consumers.specs.declared.phase.Phase.{Phase}
use Rattle.pm_consumers.specs.declared.phase.Phase.TheVariants as phases

-- the consumers' files were listed
abbrev pub listed_consumers : Names → Event
listed_consumers files = answered consumers_call (answers.Listed files)

-- ---- files that were read

-- the file of the consumer of a name as it was read: what was found, and what that says
pub record FileRead : Type 0 where
  pub name : List ℕ
  pub found : Option (List ℕ)
  pub said : Option Consumer

abbrev pub AreSaid : List FileRead → Type 0
AreSaid reads = AllByRecursion (λ r. Says r.found r.said) reads

-- the reads themselves
abbrev pub reads_of : List FileRead → List Event
reads_of reads = map (λ r. read_consumer r.name r.found) reads

-- whose files they were
abbrev pub names_of : List FileRead → List (List ℕ)
names_of reads = map (λ r. r.name) reads

-- the consumer of a name, where its file says one
abbrev pub named : List ℕ → Option Consumer → List NamedConsumer
named name None = []
named name (Some c) = record { name = name; consumer = c } ∷ []

-- the consumers of those that were there: each as its file said when it was read
abbrev pub consumers_of : List FileRead → List NamedConsumer
consumers_of reads = flat_map (λ r. named r.name r.said) reads

-- ---- how far the calls have come

-- the consumers were listed under these names, and the files of the first of them were read
abbrev pub HasRead : ReadingView → List Event → Type 0
HasRead r own =
    (files : Names) × (reads : List FileRead) × AreNames files.items r.names × (names_of reads ≡ take r.read r.names)
    × AreSaid reads × (r.consumers ≡ consumers_of reads) × (own ≡ listed_consumers files ∷ reads_of reads)

-- and this was found at the path of the next
abbrev pub Meets : ReadingView → List ℕ → Option (List ℕ) → List Event → Type 0
Meets r name found own =
    (earlier : List Event) × HasRead r earlier × (next_name r ≡ Some name)
    × (own ≡ earlier ++ read_consumer name found ∷ [])

-- the consumers were listed, the file of each was read, rising, and these are the consumers of those that were there
abbrev pub HasListed : List NamedConsumer → List Event → Type 0
HasListed consumers own =
    (files : Names) × (reads : List FileRead) × AreNames files.items (names_of reads) × AreSaid reads
    × (consumers ≡ consumers_of reads) × (own ≡ listed_consumers files ∷ reads_of reads)

-- ---- what they show

-- its calls so far, before its end
abbrev pub DidSoFar : Phase → List Event → Type 0
DidSoFar phases.List own = own ≡ []
DidSoFar (phases.Read r) own = HasRead r own
DidSoFar phases.Over own = ⊥

-- what follows the answer takes memory where names were listed or a file was found
abbrev pub MayTakeMemory : Phase → Answer → Type 0
MayTakeMemory m (answers.Listed files) = Unit {0}
MayTakeMemory m (answers.Found (Some bytes)) = Unit {0}
MayTakeMemory m answer = ⊥

-- which calls show a refusal: a file is damaged where it is that of a listed consumer, those before it weren't, and its
-- bytes are no consumer's
abbrev pub Shows : Refusal → List Event → Type 0
Shows refusals.Memory own = MayEnd next_call DidSoFar MayTakeMemory own
Shows (refusals.StoreFault path) own = IsFailed next_call DidSoFar path own
Shows (refusals.Damaged path place) own =
    (r : ReadingView) × (name : List ℕ) × (bytes : List ℕ) × (path ≡ consumer_path name) × (place ≡ 0)
    × IsDamaged bytes × Meets r name (Some bytes) own
Shows other own = ⊥

-- its calls so far, by its phase: at its end they show a refusal
abbrev pub Did : Phase → List Event → Type 0
Did phases.Over own = (refusal : Refusal) × Shows refusal own
Did m own = DidSoFar m own
