-- The row of an input's line, or why the line is refused.
use Rattle.std.specs.Prelude.{ℕ, List, []}
use Rattle.std.specs.Prelude.{option_map, unwrap_or, slice_get, Option, Some, None, Result, Ok, Err}
use Rattle.pm_model_history.specs.Merge.{HistoryRow}
use Rattle.pm_rows.specs.Reading.{Fault, row_of}
use Rattle.pm_values.specs.declared.column.Column.{Column}
use Rattle.pm_values.specs.declared.refusal.Refusal.{Refusal}
use Rattle.pm_values.specs.declared.refusal.Refusal.TheVariants as refusals
use Rattle.pm_values.specs.declared.refusal.Why.{Why}
use Rattle.pm_values.specs.declared.refusal.Why.TheVariants as why

-- the name of the column at an index
abbrev pub name_at : List Column → ℕ → List ℕ
name_at columns index = unwrap_or (option_map (λ (c : Column). c.name) (slice_get columns index)) []

-- the name of the column that a fault is of; a fault of the whole line has none
abbrev pub faulty_column : List Column → Why → ℕ → List ℕ
faulty_column columns why.Null index = name_at columns index
faulty_column columns why.Type index = name_at columns index
faulty_column columns why.Range index = name_at columns index
faulty_column columns other index = []

-- the refusal that a call answered; out of memory is none
abbrev pub refusal_in : Refusal → Option Refusal
refusal_in refusals.Memory = None
refusal_in e = Some e

-- the row that a line of the number was read as, or the refusal of a bad line
abbrev pub judged : List Column → ℕ → Result HistoryRow Fault → Result HistoryRow Refusal
judged columns number (Ok row) = Ok row
judged columns number (Err fault) =
    Err (refusals.BadLine number fault.0 (faulty_column columns fault.0 fault.1))

-- the row of a numbered line
abbrev pub row_at : List Column → ℕ × List ℕ → Result HistoryRow Refusal
row_at columns line = judged columns line.0 (row_of columns line.1)
