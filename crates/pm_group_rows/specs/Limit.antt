-- Rows whose group has no folder, as the text of a value of their partition is too long.
use Rattle.std.specs.Prelude.{Bool}
use Rattle.std.specs.List.{list_any}
use Rattle.pm_values.specs.Order.{Values}
use Rattle.pm_schema.specs.declared.schema.TableSchema.{TableSchema}
use Rattle.pm_model_following.specs.Groups.{group_of}
use Rattle.pm_partitions.specs.Names.{is_too_long}

-- the text of a value of the row's partition has more bytes than may be
abbrev pub exceeds_partition : TableSchema → Values → Bool
exceeds_partition s row = list_any is_too_long (group_of s row).partition
