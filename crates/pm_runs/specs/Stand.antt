-- The rows of a history for which a group's runs stand.
use Rattle.std.specs.Prelude.{ℕ, ◌-◌, ◌==◌, nat_lt, List, map, filter, take, drop, reverse, Bool, true, false}
use Rattle.std.specs.List.{flat_map}
use Rattle.pm_values.specs.declared.group.Group.{Group}
use Rattle.pm_model_history.specs.History.{Entry, entry_rows, rows_up_to}
use Rattle.pm_model_history.specs.Merge.{HistoryRow}
use Rattle.pm_schema.specs.declared.schema.TableSchema.{TableSchema}
use Rattle.pm_engine.specs.Covers.{Covers, CoversAll, Run}
use Rattle.pm_engine.specs.OfSchema.{meaning_of}
use Rattle.pm_model_following.specs.Following.{compacted}
use Rattle.pm_model_following.specs.Groups.{rows_in}

-- a run's level and its stored rows
pub record StoredRun : Type 0 where
  pub level : ℕ
  pub rows : Run

-- the rows of the entries after one, up to another
abbrev pub rows_after : List Entry → ℕ → ℕ → List HistoryRow
rows_after entries base id = flat_map entry_rows (drop base (take id entries))

-- the top level
abbrev pub top_of : TableSchema → ℕ
top_of s = s.options.levels - 1

-- the rows of those stored runs whose level is such, from the oldest run on
abbrev pub oldest_first : (ℕ → Bool) → List StoredRun → List Run
oldest_first such stored =
    reverse (map (λ (r : StoredRun). r.rows) (filter (λ (r : StoredRun). such r.level) stored))

-- The runs of a group, newest first, stand for its rows at a snapshot. All of them cover the rows up to it. Those above
-- level 0 cover the rows up to the greatest base of a compaction of the group, and those at level 0 the rows after it;
-- the run at the top level covers the rows up to the greatest base of a compaction that took in the whole group, and
-- the others the rows after it. What a newer part covers lacks nothing.
pub record StandForRows (s : TableSchema) (entries : List Entry) (id : ℕ) (g : Group) (stored : List StoredRun)
    : Type 0 where
  pub all : Covers (meaning_of s) (oldest_first (λ level. true) stored) (rows_in s g (rows_up_to entries id))
  pub above_zero : Covers (meaning_of s) (oldest_first (λ level. nat_lt 0 level) stored)
      (rows_in s g (rows_up_to entries (compacted false entries id g)))
  pub at_zero : CoversAll (meaning_of s) (oldest_first (λ level. level == 0) stored)
      (rows_in s g (rows_after entries (compacted false entries id g) id))
  pub at_top : Covers (meaning_of s) (oldest_first (λ level. level == top_of s) stored)
      (rows_in s g (rows_up_to entries (compacted true entries id g)))
  pub below_top : CoversAll (meaning_of s) (oldest_first (λ level. nat_lt level (top_of s)) stored)
      (rows_in s g (rows_after entries (compacted true entries id g) id))
