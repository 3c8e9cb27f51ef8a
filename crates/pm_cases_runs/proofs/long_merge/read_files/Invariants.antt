use Rattle.std.proofs.Common.{All}
use Rattle.pm_engine.specs.Covers.{IsRising}
use Rattle.pm_cases_runs.proofs.long_merge.read_files.Given as goal

-- the runs so far rise
abbrev pub invariant-loop-file : goal.invariant-loop-file
invariant-loop-file l = All IsRising l.runs.items
