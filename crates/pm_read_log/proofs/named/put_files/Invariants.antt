use Rattle.std.proofs.Common.{◌≡◌, ◌++◌, drop}
use Rattle.pm_read_table.specs.View.{HaveGroups}
use Rattle.pm_read_table.specs.Named.{file_paths}
use Rattle.pm_read_log.proofs.named.put_files.Given as goal

abbrev pub invariant-loop-entry : goal.invariant-loop-entry
invariant-loop-entry l = record {
  groups : HaveGroups l.schema (drop l.entry-index l.entries);
  put : l.paths.items ++ file_paths l.schema (drop l.entry-index l.entries) ≡ l.fn.paths.items ++ file_paths l.schema l.entries;
}
