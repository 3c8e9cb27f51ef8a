-- What a table takes of the lines of a batch: the rows in their order, or the first refusal.
use Rattle.std.specs.Prelude.{◌≡◌, ℕ, ◌-◌, ◌==◌, List, [], ◌∷◌, ◌++◌, codes, Result, Ok, Err}
use Rattle.std.specs.Prelude.{if◌then◌else◌}
use Rattle.pm_base.specs.Outcome.{◌>>=◌}
use Rattle.pm_values.specs.declared.record.Stamped.{Stamped}
use Rattle.pm_values.specs.declared.refusal.Refusal.{Refusal}
use Rattle.pm_values.specs.declared.refusal.Refusal.TheVariants as refusals
use Rattle.pm_schema.specs.declared.schema.TableSchema.{TableSchema}
use Rattle.pm_model_history.specs.Merge.{HistoryRow, key_of}
use Rattle.pm_model_history.specs.Merged.{primary_of}
use Rattle.pm_model_history.specs.Taken.{verdict}
use Rattle.pm_model_history.specs.declared.verdict.Verdict.TheVariants as by_index
use Rattle.pm_model_following.specs.Groups.{partition_of}
use Rattle.pm_group_rows.specs.Limit.{exceeds_partition}
use Rattle.pm_input.specs.Limits.{limits, limit_number, limit_text}
use Rattle.pm_input.specs.Rows.{row_at}
use Rattle.pm_input.specs.declared.limits.LimitKind.TheVariants.{BatchRows}
use Rattle.pm_engine.specs.Covers.{IsKeyed}
use Rattle.pm_engine.specs.OfSchema.{meaning_of}
use Rattle.pm_engines.specs.Verdict.{verdict_on}
use Rattle.pm_engines.specs.declared.verdict.Verdict.{Verdict}
use Rattle.pm_engines.specs.declared.verdict.Verdict.TheVariants.{Take, Ignore, Refuse}
use Rattle.pm_write.specs.declared.taken.KeyColumns.{KeyColumns}

-- the refusal of a line for which a batch has no room
abbrev pub no_room : Refusal
no_room = refusals.Limit (limit_text BatchRows) (limit_number limits BatchRows)

-- the refusal of a row of whose partition a value has too long a text
abbrev pub long_partition : Refusal
long_partition = refusals.Limit (codes "partition") 60

-- what is taken of a row that has an effect: the row, where no text of its partition is too long
abbrev pub placed : TableSchema → HistoryRow → Result (List HistoryRow) Refusal
placed s row = if exceeds_partition s row.1 then Err long_partition else Ok (row ∷ [])

-- what is taken of a line's row by the verdict on it: nothing where it has no effect
abbrev pub taken_by : TableSchema → Verdict → ℕ → HistoryRow → Result (List HistoryRow) Refusal
taken_by s Take number row = placed s row
taken_by s Ignore number row = Ok []
taken_by s (Refuse column) number row = Err (refusals.Retraction number column)

-- what is taken of a numbered line
abbrev pub taken_of : TableSchema → ℕ × List ℕ → Result (List HistoryRow) Refusal
taken_of s line = row_at s.columns line >>= (λ (row : HistoryRow). taken_by s (verdict_on s row.0) line.0 row)

-- what is taken of it where the batch has room for so many lines
abbrev pub taken_at : TableSchema → ℕ → ℕ × List ℕ → Result (List HistoryRow) Refusal
taken_at s room line = if room == 0 then Err no_room else taken_of s line

-- the rows that are taken of numbered lines, in their order, where the batch has room for so many lines
abbrev pub taken_in : TableSchema → ℕ → List (ℕ × List ℕ) → Result (List HistoryRow) Refusal
taken_in s room [] = Ok []
taken_in s room (line ∷ lines) = do
  first ← taken_at s room line
  later ← taken_in s (room - 1) lines
  Ok (first ++ later)

-- the rows that are taken of all lines of a batch
abbrev pub all_taken : TableSchema → List (ℕ × List ℕ) → Result (List HistoryRow) Refusal
all_taken s lines = taken_in s limits.rows lines

-- Private: rows before those that are taken
abbrev pub with_taken : List HistoryRow → Result (List HistoryRow) Refusal → Result (List HistoryRow) Refusal
with_taken before (Ok rows) = Ok (before ++ rows)
with_taken before (Err e) = Err e

-- Private: a taken row, with its key beside it
pub record IsTakenRow (s : TableSchema) (x : Stamped) : Type 0 where
  pub keyed : IsKeyed (meaning_of s) x
  pub taken : verdict s x.kind ≡ by_index.Take

-- Private: the columns of the table's primary key, and those of its partition
pub record AreKeyColumns (s : TableSchema) (columns : KeyColumns) : Type 0 where
  pub primary : columns.primary.items ≡ primary_of s
  pub partition : columns.partition.items ≡ partition_of s

-- a row with its key and a number
abbrev pub stamped : List ℕ → ℕ → HistoryRow → Stamped
stamped primary seq row = record { key = key_of primary row.1; seq = seq; kind = row.0; row = row.1 }
