-- Private: how a group's rows are kept from one try to the next.
use Rattle.std.specs.Prelude.{◌≡◌, ℕ, ◌+◌, ◌<◌, ◌≤◌, ◌^◌, List, length, map, All}
use Rattle.std.specs.List.{AllByRecursion}
use Rattle.std.specs.List.Sorted.{IsStrictlySortedBy}
use Rattle.std.specs.Map.{keys_of}
use Rattle.pm_values.specs.GroupOrder.{group_cmp}
use Rattle.pm_values.specs.declared.group.Group.{Group}
use Rattle.pm_values.specs.declared.record.Stamped.{Stamped}
use Rattle.pm_schema.specs.declared.schema.TableSchema.{TableSchema}
use Rattle.pm_engine.specs.Covers.{IsRising, Run, row_of}
use Rattle.pm_run.specs.Writing.{CountFrom}
use Rattle.pm_write.specs.Batch.{AreRowsOf, GroupRows, Groups}
use Rattle.pm_write.specs.Taken.{IsTakenRow}
use Rattle.pm_write.specs.declared.held.HeldRows.{HeldRows}

-- a row with a number added to its own
abbrev pub counted_from : ℕ → Stamped → Stamped
counted_from n x = record x { seq = n + x.seq }

-- its number can be counted so
abbrev pub CanCount : ℕ → Stamped → Type 0
CanCount n x = n + x.seq < 2 ^ 64

-- a number is one of so many
abbrev pub IsNumberedBelow : ℕ → Stamped → Type 0
IsNumberedBelow count x = x.seq < count

-- rows that are kept of a group: some, by rising key, whose numbers count the group's rows
pub record IsHeld (h : HeldRows) : Type 0 where
  pub some : 1 ≤ length h.run
  pub rising : IsRising h.run
  pub within : All (IsNumberedBelow h.count) h.run

-- a group with its rows and its log
abbrev pub group_rows : HeldRows → Group × GroupRows
group_rows h = (h.group, record { count = h.count; run = h.run; log = h.log })

-- so are all groups of a batch seen
abbrev pub all_groups : List HeldRows → Groups
all_groups held = map group_rows held

-- the groups that a batch keeps rise
pub record AreHeld (held : List HeldRows) : Type 0 where
  pub each : All IsHeld held
  pub ordered : IsStrictlySortedBy group_cmp (keys_of (all_groups held))

-- rows of a group, before they are kept: some, which were taken, their numbers counted from 0
pub record IsOwn (s : TableSchema) (own : Run) : Type 0 where
  pub some : 1 ≤ length own
  pub taken : AllByRecursion (IsTakenRow s) own
  pub numbers : CountFrom 0 own

-- they are kept as what they become
pub record IsHeldOf (s : TableSchema) (e : Group × Run) (h : HeldRows) : Type 0 where
  pub group : h.group ≡ e.0
  pub rows : AreRowsOf s (map row_of e.1) (group_rows h).1
