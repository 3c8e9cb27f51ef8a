-- The own calls of a putter, and what they show.
use Rattle.std.specs.Prelude.{◌≡◌, ℕ, List, [], ◌∷◌, ◌++◌, map}
use Rattle.pm_values.specs.declared.refusal.Refusal.{Refusal}
use Rattle.pm_values.specs.declared.refusal.Refusal.TheVariants as refusals
use Rattle.pm_store.specs.declared.answer.Answer.{Answer}
use Rattle.pm_store.specs.declared.answer.Answer.TheVariants as answers
use Rattle.pm_store.specs.declared.answer.Made.{Made}
use Rattle.pm_store.specs.declared.answer.Made.TheVariants as makes
use Rattle.pm_store.specs.declared.answer.Published.{Published}
use Rattle.pm_store.specs.declared.answer.Published.TheVariants as published
use Rattle.pm_machine.specs.Trace.{Event, IsFailed, MayEnd, answered}
use Rattle.pm_put.specs.Meaning.{IsAt, Putting}
use Rattle.pm_put.specs.Putter.{create_call, next_call, publish_call}
use Rattle.pm_put.specs.declared.putting.CommitFile.{CommitFile}
use Rattle.pm_put.specs.declared.putting.Publishing.{Publishing}
use Rattle.pm_put.specs.declared.phase.Phase.{Phase}
use Rattle.pm_put.specs.declared.phase.Phase.TheVariants as phases

-- ---- its events

abbrev pub creates : CommitFile → Made → Event
creates file answer = answered (create_call file) (answers.Made answer)

abbrev pub publishes : Publishing → Published → Event
publishes x answer = answered (publish_call x) (answers.Published answer)

-- each of the files was created, in their order
abbrev pub all_created : List CommitFile → List Event
all_created files = map (λ (file : CommitFile). creates file makes.Created) files

-- and then the publish was answered so
abbrev pub all_put : Putting → Published → List Event
all_put put answer = all_created put.files ++ publishes put.last answer ∷ []

-- the answer of a publish that is lost
abbrev pub IsLost : Published → Type 0
IsLost published.Created = ⊥
IsLost published.Exists = Unit {0}
IsLost published.AfterGone = Unit {0}

-- ---- how far its calls have come

-- these files were created so far, and no other call was made
abbrev pub HasCreated : List Event → List CommitFile → Type 0
HasCreated own done = own ≡ all_created done

-- its calls so far, before its end
abbrev pub DidSoFar : Putting → Phase → List Event → Type 0
DidSoFar put phases.Published own = own ≡ all_put put published.Created
DidSoFar put phases.Lost own = (answer : Published) × IsLost answer × (own ≡ all_put put answer)
DidSoFar put phases.Over own = ⊥
DidSoFar put m own = IsAt put (HasCreated own) m

-- ---- what they show

-- a create met a file, at this path
abbrev pub MeetsFile : Putting → List ℕ → List Event → Type 0
MeetsFile put path own = (done : List CommitFile) × (file : CommitFile) × (left : List CommitFile)
    × (put.files ≡ done ++ file ∷ left) × (path ≡ file.path)
    × (own ≡ all_created done ++ creates file makes.Exists ∷ [])

-- no answer is followed by what takes memory
abbrev pub MayTakeMemory : Phase → Answer → Type 0
MayTakeMemory m answer = ⊥

-- which calls show a refusal
abbrev pub Shows : Putting → Refusal → List Event → Type 0
Shows put refusals.Memory own = MayEnd next_call (DidSoFar put) MayTakeMemory own
Shows put (refusals.StoreFault path) own = IsFailed next_call (DidSoFar put) path own
Shows put (refusals.SessionUsed path) own = MeetsFile put path own
Shows put other own = ⊥

-- its calls so far, by its phase: at its end they show a refusal
abbrev pub Did : Putting → Phase → List Event → Type 0
Did put phases.Over own = (refusal : Refusal) × Shows put refusal own
Did put m own = DidSoFar put m own
