-- What a compactor knows stays true through each kind of change of every other actor.
use Rattle.std.proofs.Common.{◌≡◌, ◌≢◌, List, [], ◌∷◌, ◌++◌}
use Rattle.pm_store.specs.Files.{Files}
use Rattle.pm_model_history.specs.History.{Entry}
use Rattle.pm_runs.specs.Succession.{Taking}
use Rattle.pm_model_folder.specs.Changes.{Actor}
use Rattle.pm_model_folder.specs.Ledger.{Advances, Past, Stands}
use Rattle.pm_model_folder.proofs.Facts.{goes_on}
use Rattle.pm_put.specs.declared.putting.CommitFile.{CommitFile}
use Rattle.pm_read_table.proofs.Facts as view_facts
use Rattle.pm_group_files.proofs.Facts as files_facts
use Rattle.pm_group_files.proofs.ReadLemmas.{chosen-kept}
use Rattle.pm_compaction.specs.Plan.{RewrittenGroup}
use Rattle.pm_plan.specs.Known.{KnowsPlanned}
use Rattle.pm_plan.specs.declared.planned.Planned.{Planned}
use Rattle.pm_commit.specs.Meaning as commit
use Rattle.pm_commit.specs.Meaning.{KnowsBut}
use Rattle.pm_commit.specs.declared.phase.Phase as commit_phase
use Rattle.pm_commit.proofs.StillLemmas.{OthersNone, found-still}
use Rattle.pm_compactor.specs.Compactor.{actor_of}
use Rattle.pm_compactor.specs.Meaning.{IsOtherThan, Knows, KnowsOfPlan, asked_for}
use Rattle.pm_compactor.specs.declared.phase.Phase.{Phase}
use Rattle.pm_compactor.specs.declared.phase.Phase.TheVariants as phases

-- what the laws of a plan, of names and of a committer say
pub record StillLaws : Type 0 where
  pub plan : (me other : Actor) (f after : Files) (p q : Past) (x : Planned) (done : List RewrittenGroup) (takings : List Taking) → Advances other f p after q
      → KnowsPlanned me p x done takings → KnowsPlanned me q x done takings
  pub others : OthersNone
  pub but : (e : Entry) (given done : List CommitFile) (m : commit_phase.Phase) (other : Actor) (f after : Files) (p q : Past) (left : List CommitFile) → given ≡ done ++ left
      → Stands f p → Advances other f p after q → commit.IsOtherThan other m → KnowsBut e given done m f p → KnowsBut e given done m after q
  pub committer : (e : Entry) (m : commit_phase.Phase) (other : Actor) (f after : Files) (p q : Past) → Stands f p → Advances other f p after q
      → commit.IsOtherThan other m → commit.Knows e m f p → commit.Knows e m after q

module _ (laws : StillLaws) (other : Actor) (f after : Files) (p q : Past) (stands : Stands f p) (advances : Advances other f p after q) where
  plan-still : (x : Planned) (done : List RewrittenGroup) → actor_of x.names ≢ other → KnowsOfPlan x done p → KnowsOfPlan x done q
  plan-still x done apart (takings, knows, is_found, none) = (
    takings,
    laws.plan (actor_of x.names) other f after p q x done takings advances knows,
    found-still other f after p q advances (record { schema = x.schema; newest = x.newest }) is_found,
    laws.others (actor_of x.names) other f after p q stands advances apart none,
  )

  pub knows-still : (m : Phase) → IsOtherThan other m → Knows m f p → Knows m after q
  knows-still (phases.View asking m) apart (is, (reading, may, none)) = (
    is,
    (
      view_facts.knows_still m other f after p q stands advances reading,
      may,
      laws.others (actor_of asking.names) other f after p q stands advances apart none,
    ),
  )
  knows-still (phases.Names x) apart (is, (plan, chosen)) =
      (is, (plan-still x [] apart plan, chosen-kept goes_on other f after p q advances (asked_for x [] []) chosen))
  knows-still (phases.Files x m) apart (is, (done, given, many, plan, reading)) =
      (is, (done, given, many, plan-still x done apart plan, files_facts.knows_still (asked_for x done given) m other f after p q stands advances reading))
  knows-still (phases.Create m next rest) apart (is, (e, given, done, parts, entry, but)) =
      (is, (e, given, done, parts, entry, laws.but e given done m other f after p q (next ∷ rest.items) parts stands advances apart but))
  knows-still (phases.Commit m) apart (is, (e, entry, known)) = (is, (e, entry, laws.committer e m other f after p q stands advances apart known))
  knows-still phases.Nothing apart known = (tt, tt)
  knows-still phases.Over apart known = (tt, tt)
