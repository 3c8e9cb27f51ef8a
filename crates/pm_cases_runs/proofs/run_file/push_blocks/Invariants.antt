use Rattle.std.proofs.Common.{◌≤◌, length}
use Rattle.pm_cases_runs.proofs.run_file.push_blocks.Given as goal

-- the offset is one of the file
abbrev pub invariant-loop : goal.invariant-loop
invariant-loop l = l.offset ≤ length l.reader.opened.file.bytes
