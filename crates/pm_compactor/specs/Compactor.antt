-- A compactor: its phases, its calls, and what each answer leads to.
use Rattle.std.specs.Prelude.{◌≡◌, ◌≢◌, ◌⊎◌, ℕ, ℤ, ◌+◌, ◌<◌, ◌≤◌, ◌^◌, Bool}
use Rattle.std.specs.Prelude.{false, List, [], ◌∷◌, codes, length, map, Option, None, Some}
use Rattle.std.specs.BTreeMap.{IsOrdered}
use Rattle.std.specs.List.{AllByRecursion}
use Rattle.pm_values.specs.GroupOrder.{group_cmp}
use Rattle.pm_values.specs.Names.{Naming}
use Rattle.pm_values.specs.declared.refusal.Refusal.{Refusal}
use Rattle.pm_values.specs.declared.refusal.Refusal.TheVariants as refusals
use Rattle.pm_store.specs.declared.answer.Answer.{Answer}
use Rattle.pm_store.specs.declared.answer.Answer.TheVariants as answers
use Rattle.pm_store.specs.declared.answer.Made.TheVariants as creates
use Rattle.pm_store.specs.declared.call.Call.{Call}
use Rattle.pm_store.specs.declared.call.Call.TheVariants as calls
use Rattle.pm_model_folder.specs.Changes.{Actor}
use Rattle.pm_put.specs.declared.putting.CommitFile.{CommitFile}
use Rattle.pm_schema.specs.Again.{IsDeclared}
use Rattle.pm_schema.specs.declared.schema.TableSchema.{TableSchema}
use Rattle.pm_engines.specs.TableEngine.{HasEngine}
use Rattle.pm_scan_rows.specs.Group.{GroupRead}
use Rattle.pm_levels.specs.Runs.{RunView}
use Rattle.pm_levels.specs.declared.choice.Asked.{Asked}
use Rattle.pm_read_table.specs.Reader as reader
use Rattle.pm_read_table.specs.Reader.{most, OfSchema, WithReader}
use Rattle.pm_read_table.specs.View.{HasFolders}
use Rattle.pm_read_table.specs.declared.phase.Phase as view_phase
use Rattle.pm_read_table.specs.declared.view.View.{View}
use Rattle.pm_group_files.specs.Collected.{nothing_of}
use Rattle.pm_group_files.specs.Jobs.{Wanted, all_wanted}
use Rattle.pm_group_files.specs.Reader as files
use Rattle.pm_group_files.specs.Reader.{HandsOut, OfTable, read_next}
use Rattle.pm_group_files.specs.declared.job.Ends.{Ends}
use Rattle.pm_group_files.specs.declared.job.Ends.TheVariants as ends
use Rattle.pm_group_files.specs.declared.job.Job.{Job}
use Rattle.pm_group_files.specs.declared.phase.Phase as files_phase
use Rattle.pm_group_files.specs.declared.phase.Phase.TheVariants as readers
use Rattle.pm_made.specs.Refusals.{refusal_of}
use Rattle.pm_made.specs.declared.intent.Intent.TheVariants as intents
use Rattle.pm_made.specs.declared.intent.Plan.{Plan}
use Rattle.pm_made.specs.declared.newest.Author.{Author}
use Rattle.pm_commit.specs.Committer as commit
use Rattle.pm_commit.specs.Marks.{FindsUsed}
use Rattle.pm_commit.specs.declared.phase.Phase as commit_phase
use Rattle.pm_commit.specs.declared.phase.Phase.TheVariants as commits
use Rattle.pm_choice.specs.Choice.{choices, left_runs, looked_runs, taken_runs}
use Rattle.pm_choice.specs.Question.{question, rule_of}
use Rattle.pm_choice.specs.declared.choice.ChosenGroup.{ChosenGroup}
use Rattle.pm_plan.specs.Planned.{AllRewritten, CanMake, HasRoom, HasTold, IsPlanFor, IsPlanOf, RefusesSome}
use Rattle.pm_plan.specs.declared.planned.Asking.{Asking}
use Rattle.pm_plan.specs.declared.planned.Planned.{Planned}
use Rattle.pm_compactor.specs.declared.compactor.CompactStep.{CompactStep}
use Rattle.pm_compactor.specs.declared.compactor.CompactStep.TheVariants as steps
use Rattle.pm_compactor.specs.declared.phase.Phase.{Phase}
use Rattle.pm_compactor.specs.declared.phase.Phase.TheVariants as phases

-- ---- what is planned

-- what is wanted of a group that is chosen: the rows of its runs that go, and the files of the runs in which old values
-- are looked up
abbrev pub wanted_of : TableSchema → ChosenGroup → Wanted
wanted_of s c = record { group = c.group; runs = taken_runs c; kept = looked_runs s c }

abbrev pub wanted_groups : TableSchema → List ChosenGroup → List Wanted
wanted_groups s chosen = map (wanted_of s) chosen

-- the files that are read of the groups that are left of a plan
abbrev pub wanted_in : Planned → List Wanted
wanted_in p = wanted_groups p.schema p.left.items

-- what is asked, and the actor that asks
abbrev pub asking_of : Bool → List ℕ → Naming → ℤ → Asking
asking_of full user names now = record { full = full; user = user; names = names; now_millis = now }

abbrev pub actor_of : Naming → Actor
actor_of names = record { session = names.session; number = names.actor }

-- how much is asked of a view, and what it chooses
abbrev pub asked_of_view : Asking → View → Asked
asked_of_view asking v = question asking.full v.schema v.snapshot

abbrev pub chosen_in : Asking → View → List ChosenGroup
chosen_in asking v = choices (asked_of_view asking v) (rule_of v.schema) v.groups.entries

-- the plan of what a view chose, before a file is read
abbrev pub IsPlanIn : Asking → View → Planned → Type 0
IsPlanIn asking v p = IsPlanOf asking v.schema (commit.newest_in v) (chosen_in asking v) p

-- why what was planned is refused, before a file of it is created
abbrev pub RefusesPlan : Planned → Refusal → Type 0
RefusesPlan p refusal =
    (plan : Plan) × IsPlanFor p plan × (refusal_of p.newest p.author (intents.Compact plan) ≡ Some refusal)

-- the committer of what was planned, its first try made
abbrev pub IsBegun : Planned → commit_phase.Phase → Type 0
IsBegun p m = (plan : Plan) × IsPlanFor p plan × commit.Begins p.schema p.newest p.author plan p.names m

-- ---- its calls

-- its next call, or none at its end
abbrev pub next_call : Phase → Option Call
next_call (phases.View asking m) = reader.next_call m
next_call (phases.Names p) = Some (calls.List (codes "manifest"))
next_call (phases.Files p m) = files.next_call m
next_call (phases.Create m next rest) = Some (calls.Create next.path next.bytes)
next_call (phases.Commit m) = commit.next_call m
next_call phases.Nothing = None
next_call phases.Over = None

-- so many files are made at most, as memory has no room for more
abbrev pub most_made : ℕ
most_made = 2 ^ 32

-- how many calls are left at most, where no refusal comes: beside those of the part in hand all files that may be read,
-- all files that may be made, and all tries
abbrev pub calls_left : Phase → ℕ
calls_left (phases.View asking m) = reader.calls_left m + (1 + (most + 2) + (most_made + commit.most_calls))
calls_left (phases.Names p) = 1 + (most + 2) + (most_made + commit.most_calls)
calls_left (phases.Files p m) = files.calls_left m + (most_made + commit.most_calls)
calls_left (phases.Create m next rest) = 1 + length rest.items + commit.calls_left m
calls_left (phases.Commit m) = commit.calls_left m
calls_left phases.Nothing = 0
calls_left phases.Over = 0

-- ---- what answers lead to

-- a view leads to nothing where no group has a choice, else to the listing
abbrev pub OpensWith : Asking → View → List ChosenGroup → Phase → Type 0
OpensWith asking v [] later = later ≡ phases.Nothing
OpensWith asking v chosen later = (p : Planned) × IsPlanIn asking v p × (later ≡ phases.Names p)

abbrev pub Opens : Asking → View → Phase → Type 0
Opens asking v later = IsOrdered group_cmp v.groups × HasFolders v × OpensWith asking v (chosen_in asking v) later

-- with this reader it reads on, or goes on with the view that is ready
abbrev pub AfterReader : Asking → view_phase.Phase → Phase → Type 0
AfterReader asking m later = WithReader (λ m. phases.View asking m) (Opens asking) m later

-- the files of the groups are to be read
abbrev pub StartsFiles : Planned → Phase → Type 0
StartsFiles p later = let jobs = all_wanted p.schema (wanted_in p) in
    (length jobs ≤ most) × (later ≡ phases.Files p (read_next p.newest.id (nothing_of p.schema) jobs))

-- this file is to be created next, before those
abbrev pub IsCreating : commit_phase.Phase → CommitFile → List CommitFile → Phase → Type 0
IsCreating m next files (phases.Create n file rest) = (n ≡ m) × (file ≡ next) × (rest.items ≡ files)
IsCreating m next files other = ⊥

-- the next of these files is to be created, or all were
abbrev pub CreatesNext : commit_phase.Phase → List CommitFile → Phase → Type 0
CreatesNext m [] later = later ≡ phases.Commit m
CreatesNext m (next ∷ files) later = IsCreating m next files later

-- the commit begins, and the files that were made are created first
abbrev pub Begins : Planned → Phase → Type 0
Begins p later = (m : commit_phase.Phase) × IsBegun p m × CreatesNext m p.files.items later

-- with what was made so far: more files are to be read, or what is told was written and the commit begins
abbrev pub AfterGroups : Planned → files_phase.Phase → Phase → Type 0
AfterGroups p (readers.Ready c) later = (all : Planned) × HasTold p all × HasRoom all × Begins all later
AfterGroups p m later = later ≡ phases.Files p m

-- with this reader of files: the groups that are whole, if there are any, are made into files and logs at once
abbrev pub AfterFiles : Planned → files_phase.Phase → Phase → Type 0
AfterFiles p m later = (groups : List GroupRead) × (rest : files_phase.Phase) × (made : Planned)
    × HandsOut m groups rest × AllRewritten p groups made × HasRoom made × AfterGroups made rest later

-- the phase after an answer that it goes on with
abbrev pub Goes : Phase → Answer → Phase → Type 0
Goes (phases.View asking m) answer later =
    (new : view_phase.Phase) × reader.Goes m answer new × AfterReader asking new later
Goes (phases.Names p) (answers.Listed names) later = FindsUsed p.names names.items None × StartsFiles p later
Goes (phases.Files p m) answer later = (new : files_phase.Phase) × files.Goes m answer new × AfterFiles p new later
Goes (phases.Create m next rest) (answers.Made creates.Created) later = CreatesNext m rest.items later
Goes (phases.Commit m) answer later =
    (new : commit_phase.Phase) × commit.Goes m answer new × (later ≡ phases.Commit new)
Goes phase other later = ⊥

-- nothing can be told of a group that is whole, since a file in which an old value is looked up doesn't read
abbrev pub FailsToTell : Planned → files_phase.Phase → Refusal → Type 0
FailsToTell p m refusal = (rest : files_phase.Phase) × (groups : List GroupRead) × HandsOut m groups rest
    × RefusesSome p groups refusal

-- all were read and made, and there is a reason against the commit
abbrev pub FailsToBegin : Planned → files_phase.Phase → Refusal → Type 0
FailsToBegin p m refusal = (rest : files_phase.Phase) × (groups : List GroupRead) × (made all : Planned)
    × HandsOut m groups rest × AllRewritten p groups made × files.IsReady rest × HasTold made all
    × RefusesPlan all refusal

-- With this reader, by which groups are whole or all files were read, it goes on to no phase: memory runs out, or one
-- of these is so.
abbrev pub FailsWith : Planned → files_phase.Phase → Refusal → Type 0
FailsWith p m refusal = ((refusal ≡ refusals.Memory) × (files.HasGroup m ⊎ files.IsReady m))
    ⊎ (FailsToTell p m refusal ⊎ FailsToBegin p m refusal)

abbrev pub FailsAfter : Planned → files_phase.Phase → Answer → Refusal → Type 0
FailsAfter p m answer refusal = (new : files_phase.Phase) × files.Goes m answer new × FailsWith p new refusal

-- the refusal that an answer shows: one of the part in hand; that a name has the actor's mark, or a file that was made
-- met one; or what is against the commit
abbrev pub Shown : Phase → Answer → Refusal → Type 0
Shown (phases.View asking m) answer refusal = reader.FailsToOpen (OfSchema HasEngine) m answer refusal
    ⊎ reader.Shown m answer refusal
Shown (phases.Names p) (answers.Listed names) refusal = (refusal ≡ refusals.Memory)
    ⊎ ((path : List ℕ) × FindsUsed p.names names.items (Some path) × (refusal ≡ refusals.SessionUsed path))
Shown (phases.Files p m) answer refusal = files.Shown m answer refusal ⊎ FailsAfter p m answer refusal
Shown (phases.Create m next rest) (answers.Made creates.Exists) refusal = refusal ≡ refusals.SessionUsed next.path
Shown (phases.Commit m) answer refusal = commit.Shown m answer refusal
Shown phase other refusal = ⊥

-- ---- its invariant

-- a commit can be made of the plan: its table is declared, its view is the base of its names, no file of the view has
-- too great a number, and it has names
pub record CanCommit (p : Planned) : Type 0 where
  pub declared : IsDeclared p.schema
  pub base : p.author.base ≡ p.newest.id
  pub based : p.names.base ≡ p.newest.id
  pub numbers : commit.AreNumbered p.newest.live.items
  pub room : HasRoom p

-- runs of the group go; each of its runs has files
pub record TakesFiles (c : ChosenGroup) : Type 0 where
  pub some : taken_runs c ≢ []
  pub each : AllByRecursion (λ (run : RunView). 0 < length run.files) (taken_runs c)
  pub others : AllByRecursion (λ (run : RunView). 0 < length run.files) (left_runs c)

-- how many groups end with files
abbrev pub ends_group : Ends → ℕ
ends_group ends.Group = 1
ends_group other = 0

abbrev pub groups_ended : List Job → ℕ
groups_ended [] = 0
groups_ended (job ∷ jobs) = ends_group job.ends + groups_ended jobs

-- as many groups are left as are whole or end with files that are still to be read
abbrev pub AreLeftFor : List ChosenGroup → files_phase.Phase → Type 0
AreLeftFor left (readers.Files r) = length left ≡ length r.collected.groups + groups_ended (r.next ∷ r.rest)
AreLeftFor left (readers.Ready c) = length left ≡ length c.groups
AreLeftFor left other = Unit {0}

-- no earlier commit of the user is looked for
abbrev pub NeverSearches : commit_phase.Phase → Type 0
NeverSearches (commits.Names own s) = own.check ≡ false
NeverSearches (commits.View own m) = own.check ≡ false
NeverSearches (commits.Search own q) = ⊥
NeverSearches (commits.Put own s id m) = own.check ≡ false
NeverSearches (commits.Already author) = ⊥
NeverSearches other = Unit {0}

abbrev pub IsCompactor : Phase → Type 0
IsCompactor (phases.View asking m) = (0 < reader.calls_left m) × (asking.names.count ≤ 2 ^ 60)
    × ((s : TableSchema) × commit.Reads m s × IsDeclared s × HasEngine s)
IsCompactor (phases.Names p) = CanMake p × CanCommit p × (p.left.items ≢ []) × AllByRecursion TakesFiles p.left.items
IsCompactor (phases.Files p m) = CanMake p × CanCommit p × (0 < files.calls_left m) × OfTable (λ s. s ≡ p.schema) m
    × AreLeftFor p.left.items m
IsCompactor (phases.Create m next rest) = commit.IsCommitter m × NeverSearches m × (0 < commit.calls_left m)
IsCompactor (phases.Commit m) = commit.IsCommitter m × NeverSearches m
IsCompactor other = Unit {0}

-- ---- what a step reached

abbrev pub Reaches : CompactStep → Phase → Type 0
Reaches (steps.Committed id) phase = (author : Author) × (phase ≡ phases.Commit (commits.Committed author id))
Reaches steps.Nothing phase = phase ≡ phases.Nothing
Reaches steps.More phase = 0 < calls_left phase

abbrev pub reached_at : Phase → CompactStep
reached_at (phases.Commit (commits.Committed author id)) = steps.Committed id
reached_at phases.Nothing = steps.Nothing
reached_at other = steps.More

-- nothing of it is said to stay
abbrev pub GoesOn : Phase → Phase → Type 0
GoesOn old new = Unit {0}
