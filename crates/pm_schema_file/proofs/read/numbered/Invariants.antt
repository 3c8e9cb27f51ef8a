use Rattle.std.proofs.Common.{◌≡◌, ◌++◌, length, drop}
use Rattle.pm_options.specs.Settings.{views}
use Rattle.pm_schema.specs.ColumnType.{fields_views}
use Rattle.pm_schema.specs.Stated.{numbered}
use Rattle.pm_schema_file.proofs.read.numbered.Given as goal

abbrev pub invariant-loop-index : goal.invariant-loop-index
invariant-loop-index l = record {
  fields : fields_views l.out.items ++ numbered l.index (views (drop l.index l.fields)) ≡ numbered 0 (views l.fields);
  count : length l.out.items ≡ l.index;
}
