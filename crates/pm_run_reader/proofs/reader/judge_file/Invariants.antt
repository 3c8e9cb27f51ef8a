use Rattle.std.proofs.Common.{◌-◌, ◌≤◌, ℕ, List, length}
use Rattle.pm_run.specs.Rows.{opened_as}
use Rattle.pm_run_reader.proofs.JudgeLemmas.{IsJudged}
use Rattle.pm_run_reader.proofs.reader.judge_file.Given as goal

-- what was judged so far, and what follows it
abbrev pub invariant-loop-offset : goal.invariant-loop-offset
invariant-loop-offset l = record {
  within : l.offset ≤ length l.file.bytes;
  judged : (path : List ℕ) → IsJudged (opened_as path l.rows.form l.rows.changes l.file) l.offset l.before l.last;
}

abbrev pub decreases-loop-offset : goal.decreases-loop-offset
decreases-loop-offset l = length l.file.bytes - l.offset
