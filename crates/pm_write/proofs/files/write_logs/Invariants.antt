use Rattle.std.proofs.Common.{◌≡◌, ◌+◌, ◌≤◌, ◌^◌, List, ◌++◌, drop, length}
use Rattle.pm_write.specs.Batch.{logs_in}
use Rattle.pm_write.specs.Files.{AreFilesOfLogs, after_names}
use Rattle.pm_write.specs.Held.{all_groups}
use Rattle.pm_write.specs.declared.files.NewFile.{NewFile}
use Rattle.pm_write.proofs.files.write_logs.Given as goal

-- with files for the logs that are left, the files so far are those of all
abbrev pub invariant-loop-held : goal.invariant-loop-held
invariant-loop-held l = record {
  named : l.names ≡ after_names (length l.files.items) l.fn.names;
  room : l.names.count + length (logs_in (all_groups (drop l.held-index l.groups))) ≤ 2 ^ 62;
  files : (more : List NewFile) → AreFilesOfLogs l.schema l.names (logs_in (all_groups (drop l.held-index l.groups))) more
      → AreFilesOfLogs l.schema l.fn.names (logs_in (all_groups l.groups)) (l.files.items ++ more);
}
