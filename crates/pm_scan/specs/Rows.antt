-- Which rows of a table a scan shows, and which files have them.
use Rattle.std.specs.Prelude.{ℕ, ◌==◌, nat_lt, List, [], ◌∷◌, Bool, true, if◌then◌else◌}
use Rattle.pm_options.specs.declared.kinds.Producer.{Producer}
use Rattle.pm_options.specs.declared.kinds.Producer.TheVariants as producers
use Rattle.pm_schema.specs.declared.schema.TableSchema.{TableSchema}
use Rattle.pm_values.specs.declared.group.Group.{Group}
use Rattle.pm_model_history.specs.History.{Entry, rows_up_to}
use Rattle.pm_model_history.specs.Merge.{HistoryRow}
use Rattle.pm_model_following.specs.Following.{passed_rows}
use Rattle.pm_levels.specs.Runs.{RunView}
use Rattle.pm_runs.specs.Stand.{top_of}
use Rattle.pm_group_files.specs.Jobs.{Grouped}
use Rattle.pm_scan.specs.declared.rows.Rows.{Rows}
use Rattle.pm_scan.specs.declared.rows.Rows.TheVariants as shown

-- the rows at a snapshot: all up to it, or those of them that are passed on there
abbrev pub rows_at : Rows → TableSchema → List Entry → ℕ → List HistoryRow
rows_at shown.All s entries id = rows_up_to entries id
rows_at shown.Passed s entries id = passed_rows s entries id

-- A run of this level has rows that are passed on, and no others: each above level 0 where look-ups pass them on, the
-- one at the top where full compactions do, and else each.
abbrev pub passes_by : Producer → ℕ → ℕ → Bool
passes_by producers.Lookup top level = nat_lt 0 level
passes_by producers.FullCompaction top level = level == top
passes_by producer top level = true

abbrev pub passes_at : TableSchema → ℕ → Bool
passes_at s level = passes_by s.options.producer (top_of s) level

-- of runs, newest first, those from the first one on whose level is such
abbrev pub from_first : (ℕ → Bool) → List RunView → List RunView
from_first such [] = []
from_first such (run ∷ older) = if such run.level then run ∷ older else from_first such older

-- a group before others, where it has runs
abbrev pub with_runs : Group → List RunView → List Grouped → List Grouped
with_runs g [] groups = groups
with_runs g (run ∷ older) groups = (g, run ∷ older) ∷ groups

-- the groups with those of their runs whose rows are passed on; a group without such a run is left out
abbrev pub passed_groups : TableSchema → List Grouped → List Grouped
passed_groups s [] = []
passed_groups s (e ∷ groups) = with_runs e.0 (from_first (passes_at s) e.1) (passed_groups s groups)

-- the groups with the runs that have the rows
abbrev pub groups_of : Rows → TableSchema → List Grouped → List Grouped
groups_of shown.All s groups = groups
groups_of shown.Passed s groups = passed_groups s groups
