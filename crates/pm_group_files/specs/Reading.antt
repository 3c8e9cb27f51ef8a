-- Files that are read one after another.
use Rattle.std.specs.Prelude.{ℕ, List}
use Rattle.pm_group_files.specs.Collected.{Collected}
use Rattle.pm_group_files.specs.declared.job.Job.{Job}

-- what is collected of a snapshot's files, the next file, and those after it
pub record ReadingView : Type 0 where
  pub id : ℕ
  pub collected : Collected
  pub next : Job
  pub rest : List Job

abbrev pub reading_of : ℕ → Collected → Job → List Job → ReadingView
reading_of id c next rest = record { id = id; collected = c; next = next; rest = rest }
