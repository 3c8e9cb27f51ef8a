-- The calls of a reader of files: they change nothing, and what they say of the files that each answer is of.
use Rattle.std.proofs.Common.{◌≡◌, ◌≢◌, inl, inr, ℕ, List, [], ◌∷◌, ◌++◌, Option, None, Some, IfSome, refl, sym, subst}
use Rattle.std.specs.FinMap as map
use Rattle.std.specs.List.{AllByRecursion, AllZip}
use Rattle.pm_base.proofs.Laws.{AllByRecursion-push}
use Rattle.pm_values.specs.declared.refusal.Refusal.{Refusal}
use Rattle.pm_values.specs.declared.refusal.Refusal.TheVariants as refusals
use Rattle.pm_store.specs.Files.{Files}
use Rattle.pm_machine.specs.Trace.{Event}
use Rattle.pm_machine.proofs.PhaseFacts.{Spares}
use Rattle.pm_schema.specs.declared.schema.TableSchema.{TableSchema}
use Rattle.pm_levels.specs.Runs.{IsRun}
use Rattle.pm_runs.specs.Stand.{StoredRun}
use Rattle.pm_model_folder.specs.Paths.{snapshot_path}
use Rattle.pm_model_folder.specs.Stored.{HasRun}
use Rattle.pm_read_schema.proofs.AllCallsLemmas.{read_still}
use Rattle.pm_read_schema.proofs.StillLemmas.{AreStill, AreTold, IsStill, ended_still, failed_still, told_last}
use Rattle.pm_read_table.specs.Trace.{read_file}
use Rattle.pm_group_files.specs.Chosen.{Chosen}
use Rattle.pm_group_files.specs.Collected.{Collected, HaveTaken, RefusesJob, nothing_of, with_groups}
use Rattle.pm_group_files.specs.Jobs.{Grouped, Wanted, all_wanted, wanted_jobs, whole_groups}
use Rattle.pm_group_files.specs.Meaning.{HasRuns}
use Rattle.pm_group_files.specs.Reader.{next_call}
use Rattle.pm_group_files.specs.Trace.{HaveRead, HasPart, FindsNext, LacksFile, ReadsAgain, DidSoFar, MayTakeMemory, Misreads, IsDamaged, Shows}
use Rattle.pm_group_files.specs.declared.job.Job.{Job}
use Rattle.pm_group_files.specs.declared.phase.Phase.{Phase}
use Rattle.pm_group_files.specs.declared.phase.Phase.TheVariants as phases
use Rattle.pm_group_files.proofs.NextLemmas.{next-refused}
use Rattle.pm_group_files.proofs.ReadLemmas.{IsThere, all-joined, all-parts, parts-there}
use Rattle.pm_group_files.proofs.TakenLemmas.{RowLaws, taken-schema}

-- ---- they change nothing

still_more : (earlier own : List Event) (event : Event) → own ≡ earlier ++ event ∷ [] → AreStill earlier → IsStill event.call → AreStill own
still_more earlier own event is still one = subst AreStill (sym is) (AllByRecursion-push (λ (event : Event). IsStill event.call) earlier event still one)

files_still : (jobs : List Job) (old new : Collected) (own : List Event) → HaveRead jobs old new own → AreStill own
files_still [] old new own (same, is) = subst AreStill (sym is) tt
files_still (job ∷ jobs) old new own (bytes, middle, events, takes, is, rest) =
    subst AreStill (sym is) (read_still job.path, files_still jobs middle new events rest)

pub part_still : (a : Chosen) (c : Collected) (rest : List Job) (own : List Event) → HasPart a c rest own → AreStill own
part_still a c rest own part = files_still part.done (nothing_of a.schema) (with_groups a.given c) own part.read

next_still : (a : Chosen) (c : Collected) (job : Job) (rest : List Job) (found : Option (List ℕ)) (own : List Event) → FindsNext a c job rest found own → AreStill own
next_still a c job rest found own (earlier, part, is) =
    still_more earlier own (read_file job.path found) is (part_still a c (job ∷ rest) earlier part) (read_still job.path)

lacks_still : (a : Chosen) (id : ℕ) (path : List ℕ) (own : List Event) → LacksFile a id path own → AreStill own
lacks_still a id path own lacks = next_still a lacks.collected lacks.job lacks.rest None own lacks.absent

again_still : (a : Chosen) (id : ℕ) (path : List ℕ) (found : Option (List ℕ)) (own : List Event) → ReadsAgain a id path found own → AreStill own
again_still a id path found own (earlier, lacks, is) =
    still_more earlier own (read_file (snapshot_path id) found) is (lacks_still a id path earlier lacks) (read_still (snapshot_path id))

pub call_still : (m : Phase) (f : Files) → IfSome (next_call m) (Spares f)
call_still (phases.Files r) f = λ effect. read_still r.next.path f effect
call_still (phases.Again id path) f = λ effect. read_still (snapshot_path id) f effect
call_still (phases.Ready c) f = tt
call_still phases.Over f = tt

pub so_far_still : (a : Chosen) (m : Phase) (own : List Event) → DidSoFar a m own → AreStill own
so_far_still a (phases.Files r) own (same, part) = part_still a r.collected (r.next ∷ r.rest) own part
so_far_still a (phases.Again id path) own lacks = lacks_still a id path own lacks
so_far_still a (phases.Ready c) own part = part_still a c [] own part
so_far_still a phases.Over own did = absurd did

misreads_still : (a : Chosen) (refusal : Refusal) (own : List Event) → Misreads a refusal own → AreStill own
misreads_still a refusal own (c, job, rest, bytes, refuses, finds) = next_still a c job rest (Some bytes) own finds

damaged_still : (a : Chosen) (path : List ℕ) (place : ℕ) (own : List Event) → IsDamaged a path place own → AreStill own
damaged_still a path place own (inl (first, id, bytes, again)) = again_still a id path (Some bytes) own again
damaged_still a path place own (inr misreads) = misreads_still a (refusals.Damaged path place) own misreads

pub shows_still : (a : Chosen) (refusal : Refusal) (own : List Event) → Shows a refusal own → AreStill own
shows_still a refusals.Memory own ends = ended_still next_call (DidSoFar a) MayTakeMemory call_still (λ m own called did. so_far_still a m own did) own ends
shows_still a (refusals.StoreFault path) own failed = failed_still next_call (DidSoFar a) MayTakeMemory call_still (λ m own called did. so_far_still a m own did) path own failed
shows_still a (refusals.Expired id) own (path, again) = again_still a id path None own again
shows_still a (refusals.Damaged path place) own shows = damaged_still a path place own shows
shows_still a (refusals.Unsupported what text) own shows = misreads_still a (refusals.Unsupported what text) own shows
shows_still a other own shows = absurd shows

-- ---- what they say of files that have the groups' runs

some_gone : (found : Option (List ℕ)) (bytes : List ℕ) → found ≡ Some bytes → None ≡ found → ⊥
some_gone found bytes is none = cc

damaged_not : (path : List ℕ) (place : ℕ) → refusals.Damaged path place ≢ refusals.Memory
damaged_not path place e = cc

-- what was read is what files have
module _ (f : Files) (a : Chosen) where
  files_at : (jobs : List Job) (old new : Collected) (own : List Event) → HaveRead jobs old new own → AreTold f own → HaveTaken f jobs old new
  files_at [] old new own (same, is) told = same
  files_at (job ∷ jobs) old new own (bytes, middle, events, takes, is, rest) told =
      let parts : (Some bytes ≡ map.get f job.path) × AreTold f events = subst (AreTold f) is told in
      (bytes, middle, sym parts.0, takes, files_at jobs middle new events rest parts.1)

  pub taken_at : (c : Collected) (rest : List Job) (own : List Event) → (part : HasPart a c rest own) → AreTold f own
      → HaveTaken f part.done (nothing_of a.schema) (with_groups a.given c)
  taken_at c rest own part told = files_at part.done (nothing_of a.schema) (with_groups a.given c) own part.read told

-- a group is there of which this is wanted: the runs that are read, and the older ones whose files are kept
pub record HasWanted (f : Files) (s : TableSchema) (w : Wanted) : Type 0 where
  pub runs : HasRuns f s (w.group, w.runs)
  pub kept : AllByRecursion IsRun w.kept
  pub older : (stored : List StoredRun) × AllZip (HasRun f s w.group) w.kept stored

-- one of which all is read is, where its runs are
pub whole-wanted : (f : Files) (s : TableSchema) (groups : List Grouped) → AllByRecursion (HasRuns f s) groups → AllByRecursion (HasWanted f s) (whole_groups groups)
whole-wanted f s [] have = tt
whole-wanted f s (e ∷ groups) have = (record { runs = have.0; kept = tt; older = ([], tt) }, whole-wanted f s groups have.1)

wanted-there : (f : Files) (s : TableSchema) (groups : List Wanted) → AllByRecursion (HasWanted f s) groups → AllByRecursion (IsThere f s) (all_wanted s groups)
wanted-there f s [] have = tt
wanted-there f s (w ∷ groups) have =
    all-joined (IsThere f s) (wanted_jobs s w) (all_wanted s groups)
    (parts-there f s w.group w.runs w.kept have.0.runs.stored have.0.older.0 have.0.runs.read have.0.older.1) (wanted-there f s groups have.1)

wanted-runs : (f : Files) (s : TableSchema) (groups : List Wanted) → AllByRecursion (HasWanted f s) groups
    → AllByRecursion (λ (w : Wanted). HasRuns f s (w.group, w.runs) × AllByRecursion IsRun w.kept) groups
wanted-runs f s [] have = tt
wanted-runs f s (w ∷ groups) have = ((have.0.runs, have.0.kept), wanted-runs f s groups have.1)

module _ (laws : RowLaws) (f : Files) (a : Chosen) (have : AllByRecursion (HasWanted f a.schema) a.groups) where
  -- the next file is there
  lacks_at : (id : ℕ) (path : List ℕ) (own : List Event) → LacksFile a id path own → AreTold f own → ⊥
  lacks_at id path own lacks told = by lacks.absent
    where
      by : FindsNext a lacks.collected lacks.job lacks.rest None own → ⊥
      by (earlier, part, is) =
          let parts = told_last f earlier (read_file lacks.job.path None) (subst (AreTold f) is told) in
          let all = subst (AllByRecursion (IsThere f a.schema)) part.parts (wanted-there f a.schema a.groups have) in
          let there = (all-parts (IsThere f a.schema) part.done (lacks.job ∷ lacks.rest) all).1.0 in
          some_gone (map.get f lacks.job.path) there.0 there.1 parts.1

  pub again_at : (id : ℕ) (path : List ℕ) (found : Option (List ℕ)) (own : List Event) → ReadsAgain a id path found own → AreTold f own → ⊥
  again_at id path found own (earlier, lacks, is) told =
      lacks_at id path earlier lacks (told_last f earlier (read_file (snapshot_path id) found) (subst (AreTold f) is told)).0

  -- and is refused for memory alone
  pub misreads_at : (refusal : Refusal) (own : List Event) → refusal ≢ refusals.Memory → Misreads a refusal own → AreTold f own → ⊥
  misreads_at refusal own other (c, job, rest, bytes, refuses, (earlier, part, is)) told =
      let parts = told_last f earlier (read_file job.path (Some bytes)) (subst (AreTold f) is told) in
      let taken = taken_at f a c (job ∷ rest) earlier part parts.0 in
      let same = taken-schema f part.done (nothing_of a.schema) (with_groups a.given c) taken in
      other (next-refused laws f a.schema a.groups (nothing_of a.schema) part.done job rest (with_groups a.given c) bytes refusal
      (record { schema = refl; runs = refl; kept = refl; rows = refl }) (wanted-runs f a.schema a.groups have) part.parts taken (sym parts.1)
      (subst (λ (s : TableSchema). RefusesJob s job bytes c.rows refusal) same refuses))

  pub damaged_at : (path : List ℕ) (place : ℕ) (own : List Event) → IsDamaged a path place own → AreTold f own → ⊥
  damaged_at path place own (inl (zero, id, bytes, again)) told = again_at id path (Some bytes) own again told
  damaged_at path place own (inr misreads) told = misreads_at (refusals.Damaged path place) own (damaged_not path place) misreads told
