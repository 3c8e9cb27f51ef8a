use Rattle.std.proofs.Common.{All}
use Rattle.pm_engine.specs.Covers.{IsRising}
use Rattle.pm_merge.specs.Merge.{runs_of}
use Rattle.pm_cases_runs.proofs.merge.read_runs.Given as goal

-- the runs so far rise
abbrev pub invariant-loop-part : goal.invariant-loop-part
invariant-loop-part l = All IsRising (runs_of l.runs.items)
