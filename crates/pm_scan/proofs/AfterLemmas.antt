-- What follows the answers to a scanner's calls.
use Rattle.std.proofs.Common.{◌≡◌, ◌≤◌, List, length, subst}
use Rattle.std.specs.BTreeMap.{IsOrdered}
use Rattle.pm_values.specs.GroupOrder.{group_cmp}
use Rattle.pm_read_table.specs.Reader.{most}
use Rattle.pm_read_table.specs.declared.view.View.{View}
use Rattle.pm_group_files.specs.Collected.{nothing_of}
use Rattle.pm_group_files.specs.Reader.{read_next}
use Rattle.pm_group_files.specs.declared.job.Job.{Job}
use Rattle.pm_group_files.specs.declared.phase.Phase as files_phase
use Rattle.pm_scan.specs.Scanner.{AfterFiles, Starts, jobs_of}
use Rattle.pm_scan.specs.declared.phase.Phase.{Phase}
use Rattle.pm_scan.specs.declared.rows.Rows.{Rows}

-- the reader of all files of a view that is ready
pub start_on : (k : Rows) (v : View) (jobs : List Job) (m : files_phase.Phase) (later : Phase) → jobs ≡ jobs_of k v → length jobs ≤ most
    → IsOrdered group_cmp v.groups → m ≡ read_next v.id (nothing_of v.schema) jobs → AfterFiles k v.id m later → Starts k v later
start_on k v jobs m later are within order is on =
    let of_jobs : AfterFiles k v.id (read_next v.id (nothing_of v.schema) jobs) later = subst (λ (m : files_phase.Phase). AfterFiles k v.id m later) is on in (
      order,
      subst (λ (jobs : List Job). length jobs ≤ most) are within,
      subst (λ (jobs : List Job). AfterFiles k v.id (read_next v.id (nothing_of v.schema) jobs) later) are of_jobs,
    )
