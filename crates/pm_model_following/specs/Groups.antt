-- The groups of a table: in which partition and bucket a row lies.
use Rattle.std.specs.Prelude.{ℕ, List, map, filter, not, slice_get}
use Rattle.std.specs.Option.{option_map_or}
use Rattle.std.specs.Ordering.{eq_by_cmp}
use Rattle.pm_binrow.specs.Hashing.{bucket_of, hash_of}
use Rattle.pm_binrow.specs.Row.{body}
use Rattle.pm_schema.specs.Rules.{is_among}
use Rattle.pm_schema.specs.declared.schema.TableSchema.{TableSchema}
use Rattle.pm_values.specs.GroupOrder.{group_cmp}
use Rattle.pm_values.specs.Order.{Values}
use Rattle.pm_values.specs.declared.column.Column.{Column}
use Rattle.pm_values.specs.declared.column.ColType.{ColType}
use Rattle.pm_values.specs.declared.column.ColType.TheVariants.{Text}
use Rattle.pm_values.specs.declared.group.Group.{Group}
use Rattle.pm_model_history.specs.ColumnValue.{index_of}
use Rattle.pm_model_history.specs.Merge.{HistoryRow, key_of}

-- the indexes of the partition columns, in the order in which their folders nest
abbrev pub partition_of : TableSchema → List ℕ
partition_of s = map (index_of s) s.partition

-- the indexes of the primary key's other columns, in the order of the key
abbrev pub bucket_key_of : TableSchema → List ℕ
bucket_key_of s = map (index_of s) (filter (λ name. not (is_among s.partition name)) s.primary)

-- the type of the column at an index; where there is no column, which no schema's rules allow, that of texts
abbrev pub kind_at : TableSchema → ℕ → ColType
kind_at s index = option_map_or (λ (c : Column). c.kind) (slice_get s.columns index) Text

-- the bucket of a row: that of the hash of the binary row that the primary key's other columns make
abbrev pub bucket_in : TableSchema → Values → ℕ
bucket_in s row =
    bucket_of (hash_of (body (map (kind_at s) (bucket_key_of s)) (key_of (bucket_key_of s) row))) s.options.bucket

-- the group of a row
abbrev pub group_of : TableSchema → Values → Group
group_of s row = record { partition = key_of (partition_of s) row; bucket = bucket_in s row }

-- the rows of a group, in their order
abbrev pub rows_in : TableSchema → Group → List HistoryRow → List HistoryRow
rows_in s g rows = filter (λ (r : HistoryRow). eq_by_cmp group_cmp (group_of s r.1) g) rows
