use Rattle.std.proofs.Common.{◌≡◌, false}
use Rattle.pm_cases_runs.proofs.run_file.say_rows.Given as goal

-- the reader isn't over
abbrev pub invariant-loop : goal.invariant-loop
invariant-loop l = l.reader.over ≡ false
