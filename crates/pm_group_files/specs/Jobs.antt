-- Data files in the order in which they are read: by group, the newest run first, by rising key.
use Rattle.std.specs.Prelude.{Bool, true, false, List, [], ◌∷◌, ◌++◌, map}
use Rattle.std.specs.List.{flat_map}
use Rattle.pm_values.specs.declared.file_meta.FileMeta.{FileMeta}
use Rattle.pm_values.specs.declared.group.Group.{Group}
use Rattle.pm_schema.specs.declared.schema.TableSchema.{TableSchema}
use Rattle.pm_levels.specs.Runs.{RunView}
use Rattle.pm_model_contents.specs.Runs.{data_path}
use Rattle.pm_group_files.specs.declared.job.Ends.{Ends}
use Rattle.pm_group_files.specs.declared.job.Ends.TheVariants as ends
use Rattle.pm_group_files.specs.declared.job.Job.{Job}

-- ---- files of runs, which are read, or kept as they are

-- a file of a group, and this ends with it
abbrev pub job_as : Bool → TableSchema → Group → Ends → FileMeta → Job
job_as kept s g end m = record { path = data_path s g m.name; schema_id = m.schema_id; ends = end; kept = kept }

-- the files of a run, with the last of which this ends
abbrev pub file_jobs_as : Bool → TableSchema → Group → Ends → List FileMeta → List Job
file_jobs_as kept s g end [] = []
file_jobs_as kept s g end (m ∷ []) = job_as kept s g end m ∷ []
file_jobs_as kept s g end (m ∷ n ∷ ms) = job_as kept s g ends.File m ∷ file_jobs_as kept s g end (n ∷ ms)

-- the files of runs of a group, with the last of which this ends
abbrev pub run_jobs_as : Bool → TableSchema → Group → Ends → List RunView → List Job
run_jobs_as kept s g end [] = []
run_jobs_as kept s g end (run ∷ []) = file_jobs_as kept s g end run.files
run_jobs_as kept s g end (run ∷ older ∷ runs) =
    file_jobs_as kept s g ends.Run run.files ++ run_jobs_as kept s g end (older ∷ runs)

-- ---- groups of which all is read

abbrev pub job_of : TableSchema → Group → Ends → FileMeta → Job
job_of s g end m = job_as false s g end m

abbrev pub file_jobs : TableSchema → Group → Ends → List FileMeta → List Job
file_jobs s g end ms = file_jobs_as false s g end ms

-- the files of the runs of a group
abbrev pub run_jobs : TableSchema → Group → List RunView → List Job
run_jobs s g runs = run_jobs_as false s g ends.Group runs

-- a group and its runs, newest first
abbrev pub Grouped : Type 0
Grouped = Group × List RunView

-- ---- what is wanted of groups

-- what is wanted of a group, newest run first: the runs whose rows are read, and after them older ones whose files are
-- kept as they are
pub record Wanted : Type 0 where
  pub group : Group
  pub runs : List RunView
  pub kept : List RunView

-- all runs of a group are read
abbrev pub whole_group : Grouped → Wanted
whole_group e = record { group = e.0; runs = e.1; kept = [] }

abbrev pub whole_groups : List Grouped → List Wanted
whole_groups groups = map whole_group groups

-- the files that are read, and after them those that are kept, if there are any; with the last of all the group ends
abbrev pub jobs_with : TableSchema → Group → List RunView → List RunView → List Job
jobs_with s g runs [] = run_jobs s g runs
jobs_with s g runs (run ∷ kept) = run_jobs_as false s g ends.Run runs ++ run_jobs_as true s g ends.Group (run ∷ kept)

abbrev pub wanted_jobs : TableSchema → Wanted → List Job
wanted_jobs s w = jobs_with s w.group w.runs w.kept

-- those of all groups
abbrev pub all_wanted : TableSchema → List Wanted → List Job
all_wanted s groups = flat_map (wanted_jobs s) groups

-- those of groups of which all is read
abbrev pub all_jobs : TableSchema → List Grouped → List Job
all_jobs s groups = all_wanted s (whole_groups groups)
