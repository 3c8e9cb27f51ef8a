-- What a compactor knows of the snapshots, and what its steps mean for the files.
use Rattle.std.specs.Prelude.{◌≡◌, ℕ, List, [], ◌∷◌, ◌++◌, length, map, Some, IfSome, IsSome, codes}
use Rattle.std.specs.FinMap as paths
use Rattle.std.specs.List.{AllZip}
use Rattle.pm_values.specs.Names.{Naming}
use Rattle.pm_values.specs.declared.refusal.Refusal.{Refusal}
use Rattle.pm_values.specs.declared.refusal.Refusal.TheVariants as refusals
use Rattle.pm_store.specs.Files.{Files, IsListing}
use Rattle.pm_store.specs.Store.{StoreView}
use Rattle.pm_machine.specs.Moves.{IsKept, Moves}
use Rattle.pm_model_history.specs.History.{Entry, compaction}
use Rattle.pm_snapshot.specs.Names.{MayName}
use Rattle.pm_model_folder.specs.Changes.{Actor}
use Rattle.pm_model_folder.specs.Ledger.{HasNamedNone, Past, Stands}
use Rattle.pm_model_folder.specs.Runs.{view_of}
use Rattle.pm_put.specs.declared.putting.CommitFile.{CommitFile}
use Rattle.pm_options.specs.declared.kinds.Producer.{Producer}
use Rattle.pm_options.specs.declared.kinds.Producer.TheVariants as producers
use Rattle.pm_schema.specs.declared.schema.TableSchema.{TableSchema}
use Rattle.pm_runs.specs.Succession.{KnownRun, Taking}
use Rattle.pm_scan_rows.specs.Group.{GroupRead}
use Rattle.pm_plan.specs.Known.{KnowsPlanned}
use Rattle.pm_plan.specs.Planned.{AllRewritten, HasTold}
use Rattle.pm_plan.specs.declared.planned.Planned.{Planned}
use Rattle.pm_compaction.specs.Plan.{RewrittenGroup}
use Rattle.pm_read_schema.specs.Beside.{IsExpired}
use Rattle.pm_read_table.specs.Meaning as reader
use Rattle.pm_group_files.specs.Chosen.{Chosen, chosen_of}
use Rattle.pm_group_files.specs.Jobs.{Wanted}
use Rattle.pm_group_files.specs.Meaning as files
use Rattle.pm_group_files.specs.Meaning.{IsChosen, IsReadAs}
use Rattle.pm_made.specs.declared.intent.Intent.{Intent}
use Rattle.pm_made.specs.declared.intent.Intent.TheVariants as intents
use Rattle.pm_made.specs.declared.newest.Author.{Author}
use Rattle.pm_commit.specs.Meaning as commit
use Rattle.pm_commit.specs.declared.phase.Phase as commit_phase
use Rattle.pm_commit.specs.Meaning.{IsFoundIn}
use Rattle.pm_commit.specs.Marks.{FindsUsed}
use Rattle.pm_compactor.specs.Compactor.{IsCompactor, RefusesPlan, actor_of, wanted_in}
use Rattle.pm_compactor.specs.declared.phase.Phase.{Phase}
use Rattle.pm_compactor.specs.declared.phase.Phase.TheVariants as phases

-- ---- what was planned, as the past has it

-- of what was taken of a group the runs that stay in which old values are looked up
abbrev pub looked_of : Producer → Taking → List KnownRun
looked_of producers.Lookup t = t.rest
looked_of other t = []

-- what was wanted of a group that was made: its runs that went, and those in which old values were looked up
abbrev pub made_wanted : TableSchema → RewrittenGroup → Wanted
made_wanted s z = record {
  group = z.group;
  runs = map view_of z.taking.taken;
  kept = map view_of (looked_of s.options.producer z.taking);
}

abbrev pub made_groups : TableSchema → List RewrittenGroup → List Wanted
made_groups s done = map (made_wanted s) done

-- what the reader of files was asked for: all groups of the plan, of which those that were made were handed out so
abbrev pub asked_for : Planned → List RewrittenGroup → List GroupRead → Chosen
asked_for x done given = chosen_of x.schema x.newest.id (made_groups x.schema done ++ wanted_in x) given

-- What is known of a plan of which these groups were made: what its law says, that its table was found as its view has
-- it, and that no known snapshot names a file of its actor.
abbrev pub KnowsOfPlan : Planned → List RewrittenGroup → Past → Type 0
KnowsOfPlan x done p = (takings : List Taking) × KnowsPlanned (actor_of x.names) p x done takings
    × IsFoundIn p (record { schema = x.schema; newest = x.newest }) × HasNamedNone (actor_of x.names) p

-- the entry is the one that the committer's compaction adds
abbrev pub IsEntryOf : Intent → Author → Entry → Type 0
IsEntryOf (intents.Compact plan) author e = e ≡ compaction author.base plan.groups.items
IsEntryOf other author e = ⊥

abbrev pub IsEntryIn : commit_phase.Phase → Entry → Type 0
IsEntryIn m e = IfSome (commit.own_in m) (λ own. IsEntryOf own.intent own.author e)

-- What it knows in each phase, whatever others do: what its parts know, and of what was planned only what stood at the
-- base, with the runs that go. While files are created those before the next one are there; once all were, the
-- committer's own knowledge says that they are.
abbrev pub KnowsIn : Phase → Files → Past → Type 0
KnowsIn (phases.View asking m) f p =
    reader.Knows m f p × MayName asking.names × HasNamedNone (actor_of asking.names) p
KnowsIn (phases.Names x) f p = KnowsOfPlan x [] p × IsChosen p (asked_for x [] [])
KnowsIn (phases.Files x m) f p = (done : List RewrittenGroup) × (given : List GroupRead)
    × (length given ≡ length done) × KnowsOfPlan x done p × files.Knows (asked_for x done given) m f p
KnowsIn (phases.Create m next rest) f p = (e : Entry) × (given done : List CommitFile)
    × (given ≡ done ++ next ∷ rest.items) × IsEntryIn m e × commit.KnowsBut e given done m f p
KnowsIn (phases.Commit m) f p = (e : Entry) × IsEntryIn m e × commit.Knows e m f p
KnowsIn phases.Nothing f p = Unit {0}
KnowsIn phases.Over f p = Unit {0}

abbrev pub Knows : Phase → Files → Past → Type 0
Knows m f p = IsCompactor m × KnowsIn m f p

-- ---- what its steps change: nothing before its files are created; then a file of its own, and in the end its entry

abbrev pub Leaves : Phase → Files → Past → Files → Past → Type 0
Leaves (phases.Create m next rest) f p after q = (e : Entry) × IsEntryIn m e × commit.MakesEntry e m f p after q
Leaves (phases.Commit m) f p after q = (e : Entry) × IsEntryIn m e × commit.MakesEntry e m f p after q
Leaves other f p after q = IsKept f p after q

-- a step makes one of these changes, or none, and what it knows holds after it
abbrev pub CompactorMoved : Phase → Phase → StoreView → StoreView → Type 0
CompactorMoved old new before after = Moves Stands (Leaves old) (Knows old) (Knows new) before after

-- the actor isn't the one that compacts
abbrev pub IsOtherThan : Actor → Phase → Type 0
IsOtherThan other (phases.View asking m) = actor_of asking.names ≡ other → ⊥
IsOtherThan other (phases.Names x) = actor_of x.names ≡ other → ⊥
IsOtherThan other (phases.Files x m) = actor_of x.names ≡ other → ⊥
IsOtherThan other (phases.Create m next rest) = commit.IsOtherThan other m
IsOtherThan other (phases.Commit m) = commit.IsOtherThan other m
IsOtherThan other m = Unit {0}

-- ---- its refusals

-- a listed name has the actor's mark
abbrev pub IsMarked : Naming → Files → List ℕ → Type 0
IsMarked names f path =
    (listed : List (List ℕ)) × IsListing (codes "manifest") listed f × FindsUsed names listed (Some path)

-- The refusals that answers show where the files stand, whatever others do. No file is damaged. The newest view is
-- read, so that no snapshot is asked for that never was.
abbrev pub MayRefuseView : Files → Past → Refusal → Type 0
MayRefuseView f p refusals.Memory = Unit {0}
MayRefuseView f p (refusals.Expired id) = IsExpired f p id
MayRefuseView f p other = ⊥

-- of the listing
abbrev pub MayRefuseNames : Planned → Files → Refusal → Type 0
MayRefuseNames x f refusals.Memory = Unit {0}
MayRefuseNames x f (refusals.SessionUsed path) = IsMarked x.names f path
MayRefuseNames x f other = ⊥

-- Of the files that are read, and of what is made of them; no file in which an old value is looked up is damaged
-- either. Of its own view no fence is at its base, and no file that goes is live no more: what is made of the groups'
-- runs, as they stood there, leaves no room.
abbrev pub MayRefusePlanned : Planned → Files → Past → Refusal → Type 0
MayRefusePlanned x f p refusals.Memory = Unit {0}
MayRefusePlanned x f p (refusals.Expired id) = IsExpired f p id
MayRefusePlanned x f p (refusals.Limit which number) = (made all : Planned) × (groups : List GroupRead)
    × AllZip (IsReadAs (p.stood x.newest.id) x.schema) (wanted_in x) groups
    × AllRewritten x groups made × HasTold made all × RefusesPlan all (refusals.Limit which number)
MayRefusePlanned x f p other = ⊥

abbrev pub MayRefuse : Phase → Files → Past → Refusal → Type 0
MayRefuse (phases.View asking m) f p refusal = MayRefuseView f p refusal
MayRefuse (phases.Names x) f p refusal = MayRefuseNames x f refusal
MayRefuse (phases.Files x m) f p refusal = MayRefusePlanned x f p refusal
MayRefuse (phases.Create m next rest) f p refusal =
    (refusal ≡ refusals.SessionUsed next.path) × IsSome (paths.get f next.path)
MayRefuse (phases.Commit m) f p refusal = commit.MayRefuse m f p refusal
MayRefuse other f p refusal = ⊥
