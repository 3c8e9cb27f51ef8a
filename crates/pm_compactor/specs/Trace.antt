-- The own calls of a compactor, and what they show.
use Rattle.std.specs.Prelude.{◌≡◌, ◌≢◌, ◌⊎◌, ℕ, List, [], ◌∷◌, ◌++◌, None, Some, Result, IfErr}
use Rattle.pm_values.specs.declared.refusal.Refusal.{Refusal}
use Rattle.pm_values.specs.declared.refusal.Refusal.TheVariants as refusals
use Rattle.pm_store.specs.declared.answer.Answer.{Answer}
use Rattle.pm_store.specs.declared.answer.Answer.TheVariants as answers
use Rattle.pm_store.specs.Store.{StoreView}
use Rattle.pm_machine.specs.Trace.{Acts, Event, IsFailed, MayEnd}
use Rattle.pm_scan_rows.specs.Group.{GroupRead}
use Rattle.pm_put.specs.Trace.{all_created, creates}
use Rattle.pm_store.specs.declared.answer.Made.TheVariants as answered
use Rattle.pm_put.specs.declared.putting.CommitFile.{CommitFile}
use Rattle.pm_read_table.specs.Asked.{Asked}
use Rattle.pm_read_table.specs.Reader as reader_machine
use Rattle.pm_read_table.specs.Trace as reader
use Rattle.pm_read_table.specs.declared.phase.Phase.TheVariants as readers
use Rattle.pm_read_table.specs.declared.view.View.{View}
use Rattle.pm_group_files.specs.Chosen.{chosen_of}
use Rattle.pm_group_files.specs.Collected.{Collected}
use Rattle.pm_group_files.specs.Trace as files
use Rattle.pm_group_files.specs.declared.job.Job.{Job}
use Rattle.pm_commit.specs.Marks.{FindsUsed}
use Rattle.pm_commit.specs.Trace as commit
use Rattle.pm_commit.specs.Trace.{listed_manifests}
use Rattle.pm_scan.specs.Trace.{AfterView}
use Rattle.pm_plan.specs.Planned.{AllRewritten, HasTold, IsPlanFor, RefusesSome}
use Rattle.pm_plan.specs.declared.planned.Asking.{Asking}
use Rattle.pm_plan.specs.declared.planned.Planned.{Planned}
use Rattle.pm_made.specs.Files.{IsMadeOf}
use Rattle.pm_made.specs.Refusals.{refusal_of}
use Rattle.pm_made.specs.declared.intent.Intent.TheVariants as intents
use Rattle.pm_made.specs.declared.intent.Plan.{Plan}
use Rattle.pm_made.specs.declared.newest.Made.{Made}
use Rattle.pm_commit.specs.Committer.{first_of_put}
use Rattle.pm_commit.specs.Own.{OwnView, own_for_plan}
use Rattle.pm_read_schema.specs.Trace.{Names}
use Rattle.pm_compactor.specs.Compactor.{chosen_in, next_call, wanted_in, IsPlanIn, RefusesPlan}
use Rattle.pm_compactor.specs.declared.compactor.CompactStep.{CompactStep}
use Rattle.pm_compactor.specs.declared.phase.Phase.{Phase}
use Rattle.pm_compactor.specs.declared.phase.Phase.TheVariants as phases

-- what was asked of a compactor, and of the reader of its view
pub record AskedOf : Type 0 where
  pub asking : Asking
  pub view : Asked

-- the view was read, and chose this
pub record HasPlan (a : AskedOf) (v : View) (p : Planned) (P : List Event → Type 0) (own : List Event) : Type 0 where
  pub some : chosen_in a.asking v ≢ []
  pub plan : IsPlanIn a.asking v p
  pub after : AfterView a.view v P own

-- then the manifests were listed without a mark of the actor, and of the calls after that this holds
abbrev pub Listed : Planned → (List Event → Type 0) → List Event → Type 0
Listed p P own = (names : Names) × (later : List Event) × FindsUsed p.names names.items None
    × (own ≡ listed_manifests names ∷ later) × P later

-- so many groups were read whole, each once, and made: this was made of the plan
pub record HasMade (p : Planned) (made : Planned) (groups : List GroupRead) (P : List Event → Type 0)
    (own : List Event) : Type 0 where
  pub rewritten : AllRewritten p groups made
  pub so : P own

-- all files were read, and the groups that are whole by them, none of which is left, were made, and what is told was
-- written; then these were created
pub record HasCreated (p : Planned) (all : Planned) (done : List CommitFile) (own : List Event) : Type 0 where
  pub reads : List Event
  pub groups : List GroupRead
  pub collected : Collected
  pub made : Planned
  pub all_read : HasMade p made groups (files.HasPart (chosen_of p.schema p.newest.id
      (wanted_in p) groups) collected []) reads
  pub none_left : collected.groups ≡ []
  pub told : HasTold made all
  pub is : own ≡ reads ++ all_created done

-- the commit of a plan, with what its first try made
pub record IsFirst (p : Planned) (first : OwnView) (made : Made) : Type 0 where
  pub plan : Plan
  pub is_plan : IsPlanFor p plan
  pub own : first ≡ own_for_plan plan p.author p.names
  pub is_made : IsMadeOf p.schema p.newest p.author (intents.Compact plan) p.names made
  pub allowed : refusal_of p.newest p.author (intents.Compact plan) ≡ None

-- its calls so far, by its phase before its end, where this was asked
abbrev pub DidSoFar : AskedOf → Phase → List Event → Type 0
DidSoFar a (phases.View asking m) own = (asking ≡ a.asking) × reader.Did a.view m own
DidSoFar a (phases.Names p) own = (v : View) × HasPlan a v p (λ later. later ≡ []) own
DidSoFar a (phases.Files made m) own = (v : View) × (p : Planned) × (groups : List GroupRead)
    × HasPlan a v p (Listed p (HasMade p made groups
    (files.DidSoFar (chosen_of p.schema p.newest.id (wanted_in p) groups) m))) own
DidSoFar a (phases.Create m next rest) own = (v : View) × (p all : Planned) × (first : OwnView) × (made : Made)
    × (done : List CommitFile) × (all.files.items ≡ done ++ next ∷ rest.items) × IsFirst all first made
    × (m ≡ first_of_put first all.schema made) × HasPlan a v p (Listed p (HasCreated p all done)) own
DidSoFar a (phases.Commit m) own = (v : View) × (p all : Planned) × (first : OwnView) × (made : Made)
    × IsFirst all first made × HasPlan a v p (Listed p (λ later. (created tries : List Event)
    × (later ≡ created ++ tries) × HasCreated p all all.files.items created
    × commit.DidAfter all.schema first made m tries)) own
DidSoFar a phases.Nothing own = (v : View) × (chosen_in a.asking v ≡ []) × AfterView a.view v (λ later. later ≡ []) own
DidSoFar a phases.Over own = ⊥

-- a file that was made met one at its path
abbrev pub MeetsFile : AskedOf → List ℕ → List Event → Type 0
MeetsFile a path own = (v : View) × (p all : Planned) × (done rest : List CommitFile) × (next : CommitFile)
    × (path ≡ next.path) × (all.files.items ≡ done ++ next ∷ rest)
    × HasPlan a v p (Listed p (λ later. (first : List Event) × HasCreated p all done first
    × (later ≡ first ++ creates next answered.Exists ∷ []))) own

-- a name that was listed has the actor's mark: the first that does, by its path
abbrev pub IsUsed : AskedOf → List ℕ → List Event → Type 0
IsUsed a path own = (v : View) × (p : Planned) × (names : Names) × FindsUsed p.names names.items (Some path)
    × HasPlan a v p (λ later. later ≡ listed_manifests names ∷ []) own

-- all files were read, nothing was created, and this is against the commit
abbrev pub FindsReason : AskedOf → Refusal → List Event → Type 0
FindsReason a refusal own = (v : View) × (p all : Planned) × RefusesPlan all refusal
    × HasPlan a v p (Listed p (HasCreated p all [])) own

-- the manifests were listed, and then the reader of files shows it
abbrev pub ShowsOfFiles : AskedOf → Refusal → List Event → Type 0
ShowsOfFiles a refusal own = (v : View) × (p all : Planned) × (groups : List GroupRead)
    × HasPlan a v p (Listed p (HasMade p all groups
    (files.Shows (chosen_of p.schema p.newest.id (wanted_in p) groups) refusal))) own

-- nothing can be told of a group that is whole by the files that were read: one of those in which an old value is
-- looked up doesn't read
abbrev pub FailsToTell : AskedOf → Refusal → List Event → Type 0
FailsToTell a refusal own = (v : View) × (p made : Planned) × (given groups : List GroupRead) × (c : Collected)
    × (rest : List Job) × (c.groups ≡ groups) × RefusesSome made groups refusal
    × HasPlan a v p (Listed p (HasMade p made given
    (files.HasPart (chosen_of p.schema p.newest.id (wanted_in p) given) c rest))) own

-- all that was made was created, and then the committer shows it
abbrev pub ShowsOfCommit : AskedOf → Refusal → List Event → Type 0
ShowsOfCommit a refusal own = (v : View) × (p all : Planned) × (first : OwnView) × (made : Made)
    × IsFirst all first made
    × HasPlan a v p (Listed p (λ later. (created tries : List Event) × (later ≡ created ++ tries)
    × HasCreated p all all.files.items created × commit.ShowsAfter all.schema first made refusal tries)) own

-- what follows the answer may take memory: where the view is ready by it, names were listed, a file was found; and what
-- the committer says of its own; never after a create
abbrev pub MayTakeMemory : Phase → Answer → Type 0
MayTakeMemory (phases.View asking m) answer = (v : View) × reader_machine.Goes m answer (readers.Ready v)
MayTakeMemory (phases.Names p) (answers.Listed names) = Unit {0}
MayTakeMemory (phases.Files p m) answer = files.MayTakeMemory m answer
MayTakeMemory (phases.Commit m) answer = commit.MayTakeMemory answer
MayTakeMemory m answer = ⊥

-- which calls show a refusal that isn't the view's reader's
abbrev pub ShowsOwn : AskedOf → Refusal → List Event → Type 0
ShowsOwn a refusals.Memory own = MayEnd next_call (DidSoFar a) MayTakeMemory own
ShowsOwn a (refusals.StoreFault path) own = IsFailed next_call (DidSoFar a) path own
ShowsOwn a (refusals.SessionUsed path) own =
    IsUsed a path own ⊎ MeetsFile a path own ⊎ ShowsOfCommit a (refusals.SessionUsed path) own
ShowsOwn a other own =
    ShowsOfFiles a other own ⊎ FailsToTell a other own ⊎ FindsReason a other own ⊎ ShowsOfCommit a other own

-- which calls show a refusal
abbrev pub Shows : AskedOf → Refusal → List Event → Type 0
Shows a refusal own = reader.Shows a.view refusal own ⊎ ShowsOwn a refusal own

-- its calls so far: at its end they show a refusal
abbrev pub Did : AskedOf → Phase → List Event → Type 0
Did a phases.Over own = (refusal : Refusal) × Shows a refusal own
Did a m own = DidSoFar a m own

-- Whatever was asked, its next call is the next event of its calls so far, or none was made; and a refusal is shown by
-- the calls up to it.
abbrev pub CompactorActed : Phase → Phase → StoreView → StoreView → Result CompactStep Refusal → Type 0
CompactorActed old new before after result = (a : AskedOf)
    → Acts (Did a old) (λ own. Did a new own × IfErr result (λ refusal. Shows a refusal own)) before after
