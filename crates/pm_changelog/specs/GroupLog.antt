-- The log of a group: the rows that its changelog file is to hold.
use Rattle.std.specs.Prelude.{◌≡◌, ◌≢◌, ℕ, suc, ◌+◌, List, [], ◌∷◌, ◌++◌, length, map, true, None, IsTrue}
use Rattle.std.specs.List.{AllByRecursion}
use Rattle.std.specs.declared.cmp.Ordering.TheVariants.{Greater}
use Rattle.pm_values.specs.Order.{Values, key_cmp}
use Rattle.pm_values.specs.declared.group.Group.{Group}
use Rattle.pm_values.specs.declared.record.Change.{Change}
use Rattle.pm_values.specs.declared.record.Stamped.{Stamped}
use Rattle.pm_schema.specs.declared.schema.TableSchema.{TableSchema}
use Rattle.pm_model_history.specs.History.{Entry}
use Rattle.pm_model_history.specs.Merge.{HistoryRow}
use Rattle.pm_model_following.specs.Following.{change}
use Rattle.pm_model_following.specs.Groups.{rows_in}
use Rattle.pm_engine.specs.Covers.{row_of}
use Rattle.pm_run.specs.Order.{are_in_order}
use Rattle.pm_run.specs.Writing.{HasOwnKey}

-- ---- what a log tells

-- the rows that a changelog file has of changes: their numbers count them from this one
abbrev pub stamped_from : ℕ → List Change → List Stamped
stamped_from n [] = []
stamped_from n (c ∷ log) =
    record { key = c.key; seq = n; kind = c.kind; row = c.row } ∷ stamped_from (n + 1) log

-- the log tells these rows, in this order; each fits, with its own key beside it
pub record IsGroupLog (s : TableSchema) (rows : List HistoryRow) (log : List Change) : Type 0 where
  pub told : map row_of (stamped_from 0 log) ≡ rows
  pub own : AllByRecursion (HasOwnKey s) (stamped_from 0 log)

-- a change of the key may come next: none of the log has a key above it
abbrev pub IsNext : List Change → Values → Type 0
IsNext log key = AllByRecursion (λ (c : Change). key_cmp c.key key ≢ Greater) log

-- What the log of a group is, whichever producer made it: it tells the group's part of the change of the snapshot with
-- which an entry comes after others.
abbrev pub IsLogAt : TableSchema → Group → List Entry → Entry → List Change → Type 0
IsLogAt s g entries e log = IsGroupLog s (rows_in s g (change s (entries ++ e ∷ []) (suc (length entries)))) log

-- ---- how it is kept

-- Private: a row without its number
abbrev pub without_number : Stamped → Change
without_number x = record { key = x.key; kind = x.kind; row = x.row }

abbrev pub without_numbers : List Stamped → List Change
without_numbers rows = map without_number rows

-- Private: rows that a changelog file can have in this order
abbrev pub AreOfLog : List Stamped → Type 0
AreOfLog rows = IsTrue (are_in_order true None rows)

-- Private: a row with another number
abbrev pub with_number : ℕ → Stamped → Stamped
with_number n x = record x { seq = n }
