use Rattle.std.proofs.Common.{◌≡◌, ◌+◌, List, ◌++◌, drop, map, length}
use Rattle.pm_write.specs.Files.{AreFilesOfRuns, next_run}
use Rattle.pm_write.specs.Held.{all_groups}
use Rattle.pm_write.specs.declared.files.NewFile.{NewFile}
use Rattle.pm_write.proofs.files.write_groups.Given as goal

-- with files for those that are left, the files so far are those of all
abbrev pub invariant-loop-held : goal.invariant-loop-held
invariant-loop-held l = record {
  many : length l.files.items ≡ l.held-index;
  named : l.names ≡ record l.fn.names { count = l.fn.names.count + l.held-index };
  files : (more : List NewFile) → AreFilesOfRuns l.schema l.names (drop l.held-index (map (next_run l.next) (all_groups l.groups))) more
      → AreFilesOfRuns l.schema l.fn.names (map (next_run l.next) (all_groups l.groups)) (l.files.items ++ more);
}
