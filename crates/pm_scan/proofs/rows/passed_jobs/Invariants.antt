use Rattle.pm_scan.proofs.RowsLemmas.{PassedLeft}
use Rattle.pm_scan.proofs.rows.passed_jobs.Given as goal

-- with the files of the groups that are left, so far all are
abbrev pub invariant-loop-group : goal.invariant-loop-group
invariant-loop-group l = PassedLeft l.fn.schema l.fn.groups.entries l.group-iterator l.jobs.items
