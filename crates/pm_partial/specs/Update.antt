-- How a column is kept with partial updates.
use Rattle.std.specs.Prelude.{Option, Some, None, if◌then◌else◌}
use Rattle.pm_schema.specs.declared.schema.TableSchema.{TableSchema}
use Rattle.pm_values.specs.declared.column.Column.{Column}
use Rattle.pm_model_history.specs.ColumnValue.{SequenceGroup, group_of, index_of}
use Rattle.pm_model_history.specs.Taken.{is_key}
use Rattle.pm_partial.specs.declared.update.Update.{Update}
use Rattle.pm_partial.specs.declared.update.Update.TheVariants.{Key, Latest, InGroup}

-- a column outside the key is in a sequence group, or has its latest value
abbrev pub update_in : TableSchema → Column → Option SequenceGroup → Update
update_in s c None = Latest c.kind
update_in s c (Some group) = InGroup (index_of s group.0)

-- how the schema keeps the column
abbrev pub update_on : TableSchema → Column → Update
update_on s c = if is_key s c then Key else update_in s c (group_of s c)
