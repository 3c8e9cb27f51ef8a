-- The merged table of a schema: for each key that shows, the row of its columns' values; and the text of a scan.
use Rattle.std.specs.Prelude.{ℕ, List, length, map, Bool, false, not, Option, Some, None, is_some, if◌then◌else◌}
use Rattle.std.specs.FinMap.{FinMap, from_entries, values}
use Rattle.std.specs.List.{filter_map, flat_map, last_or, range_with_len}
use Rattle.std.specs.Option.{option_map, option_map_or}
use Rattle.pm_base.specs.Newline.{line}
use Rattle.pm_options.specs.declared.kinds.EngineKind.{EngineKind}
use Rattle.pm_options.specs.declared.kinds.EngineKind.TheVariants as engines
use Rattle.pm_rows.specs.RowText.{row_text}
use Rattle.pm_schema.specs.declared.schema.TableSchema.{TableSchema}
use Rattle.pm_values.specs.Kind.{retracts}
use Rattle.pm_values.specs.Order.{Values, key_cmp}
use Rattle.pm_values.specs.declared.kind.Kind.TheVariants.{Insert}
use Rattle.pm_model_history.specs.ColumnValue.{column_value, index_of}
use Rattle.pm_model_history.specs.Merge.{HistoryRow, key_of, rows_of}

-- the indexes of the primary key's columns, in the order of the key
abbrev pub primary_of : TableSchema → List ℕ
primary_of s = map (index_of s) s.primary

-- whether a key with these rows shows: there is a row, and with deduplication the last one doesn't retract
abbrev pub shows_by : EngineKind → List HistoryRow → Bool
shows_by engines.Deduplicate rows = option_map_or (λ (r : HistoryRow). not (retracts r.0)) (last_or None rows) false
shows_by engine rows = is_some (last_or None rows)

-- whether a key with these rows shows in a table of the schema
abbrev pub shows : TableSchema → List HistoryRow → Bool
shows s rows = shows_by s.options.engine rows

-- the row of the columns' values over the rows of one key
abbrev pub values_of : TableSchema → List HistoryRow → Values
values_of s rows = map (λ index. column_value s index rows) (range_with_len 0 (length s.columns))

-- the row of a key in the merged table, where the key shows
abbrev pub merged_row : TableSchema → List HistoryRow → Values → Option Values
merged_row s rows key =
    let own = rows_of (primary_of s) key rows in
    if shows s own then Some (values_of s own) else None

-- a row's key with what the merged table has at it
abbrev pub merged_entry : TableSchema → List HistoryRow → HistoryRow → Option (Values × Values)
merged_entry s rows r =
    option_map (λ (row : Values). (key_of (primary_of s) r.1, row)) (merged_row s rows (key_of (primary_of s) r.1))

-- the merged table: the map from each key that shows to its row
abbrev pub merged : TableSchema → List HistoryRow → FinMap key_cmp Values
merged s rows = from_entries (filter_map (merged_entry s rows) rows)

-- the text of a scan: the rows of the merged table by rising key, as lines that insert them
abbrev pub scan_text : TableSchema → List HistoryRow → List ℕ
scan_text s rows = flat_map (λ (row : Values). line (row_text Insert row)) (values (merged s rows))
