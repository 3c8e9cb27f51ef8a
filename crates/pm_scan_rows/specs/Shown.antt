-- What a scan shows of the runs of all groups, and its lines.
use Rattle.std.specs.Prelude.{◌≡◌, ◌≢◌, ℕ, List, [], ◌∷◌, filter, map, Vec}
use Rattle.std.specs.List.{AllByRecursion, flat_map}
use Rattle.std.specs.List.Sorted.{IsStrictlySortedBy}
use Rattle.std.specs.declared.alloc.Global.{Global}
use Rattle.pm_base.specs.Newline.{line}
use Rattle.pm_values.specs.GroupOrder.{group_cmp}
use Rattle.pm_values.specs.declared.group.Group.{Group}
use Rattle.pm_values.specs.Order.{Values}
use Rattle.pm_values.specs.declared.kind.Kind.{Kind}
use Rattle.pm_values.specs.declared.kind.Kind.TheVariants.{Insert}
use Rattle.pm_values.specs.declared.record.Stamped.{Stamped}
use Rattle.pm_rows.specs.RowText.{row_text}
use Rattle.pm_schema.specs.declared.schema.TableSchema.{TableSchema}
use Rattle.pm_model_history.specs.Merge.{HistoryRow}
use Rattle.pm_engine.specs.Covers.{Covers, Run, row_of}
use Rattle.pm_engine.specs.Meaning.{Meaning}
use Rattle.pm_engine.specs.OfSchema.{meaning_of}
use Rattle.pm_merge.specs.Merge.{IsMerge}
use Rattle.pm_model_following.specs.Groups.{rows_in}

-- the rows of a run that show by themselves
abbrev pub only_shown : Meaning → Run → Run
only_shown m run = filter (λ (x : Stamped). m.shows (row_of x ∷ [])) run

-- the rows that show, of a run that merging made of the runs, the oldest first
abbrev pub IsShown : Meaning → List Run → Run → Type 0
IsShown m runs shown = (merged : Run) × IsMerge m runs merged × (shown ≡ only_shown m merged)

-- the lines that insert the rows
abbrev pub lines_of : Run → List ℕ
lines_of rows = flat_map (λ (x : Stamped). line (row_text Insert x.row)) rows

-- the runs of all groups, one group's after another's
abbrev pub all_runs : List (List Run) → List Run
all_runs groups = flat_map (λ (runs : List Run). runs) groups

-- the lines of the rows that show, by rising key, of the runs of all groups, those of each with the oldest first
abbrev pub PrintsGroups : Meaning → List (List Run) → List ℕ → Type 0
PrintsGroups m groups text = (shown : Run) × IsShown m (all_runs groups) shown × (text ≡ lines_of shown)

-- whether a stored row shows depends on its kind alone
abbrev pub ShowsByKind : Meaning → Type 0
ShowsByKind m = (kind : Kind) (row other : Values) → m.shows ((kind, row) ∷ []) ≡ m.shows ((kind, other) ∷ [])

-- the runs of groups without where they lie in memory
abbrev pub groups_of : List (Vec Run Global) → List (List Run)
groups_of = map (λ (runs : Vec Run Global). runs.items)

-- a group with its runs, the oldest first
abbrev pub GroupRuns : Type 0
GroupRuns = Group × List Run

-- Groups with their runs cover the rows of a table: they rise, so none stands twice; the runs of each cover its rows;
-- and those of a group that isn't among them are covered by no run.
pub record GroupsCover (s : TableSchema) (groups : List GroupRuns) (rows : List HistoryRow) : Type 0 where
  pub rising : IsStrictlySortedBy group_cmp (map (λ (p : GroupRuns). p.0) groups)
  pub each : AllByRecursion (λ (p : GroupRuns). Covers (meaning_of s) p.1 (rows_in s p.0 rows)) groups
  pub others : (g : Group) → AllByRecursion (λ (p : GroupRuns). p.0 ≢ g) groups
      → Covers (meaning_of s) [] (rows_in s g rows)
