use Rattle.std.proofs.Common.{◌≡◌, false}
use Rattle.pm_cases_runs.proofs.long_run.count_rows.Given as goal

-- the reader isn't over
abbrev pub invariant-loop-count : goal.invariant-loop-count
invariant-loop-count l = l.reader.over ≡ false
