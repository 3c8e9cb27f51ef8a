use Rattle.std.proofs.Common.{◌≡◌, ◌++◌}
use Rattle.pm_scan_rows.specs.Group.{reads_of, runs_read}
use Rattle.pm_scan_rows.specs.Shown.{groups_of}
use Rattle.pm_group_files.proofs.collected.Collected.into_runs.Given as goal

-- with the runs of the groups that are left, so far all are
abbrev pub invariant-loop-group : goal.invariant-loop-group
invariant-loop-group l = groups_of l.all.items ++ runs_read (reads_of l.group-iterator.rest.items) ≡ runs_read l.fn.self.groups
