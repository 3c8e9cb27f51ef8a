use Rattle.std.proofs.Common.{◌≡◌, ◌++◌}
use Rattle.std.specs.VecDeque.Iter.{deque_iter_rest}
use Rattle.pm_group_files.specs.Jobs.{all_wanted}
use Rattle.pm_plan.specs.Planned.{FitChosen}
use Rattle.pm_compactor.specs.Compactor.{wanted_groups}
use Rattle.pm_compactor.proofs.jobs.wanted_jobs.Given as goal

-- with the files of the groups that are left, so far all are
abbrev pub invariant-loop-one : goal.invariant-loop-one
invariant-loop-one l = record {
  all : l.jobs.items ++ all_wanted l.schema (wanted_groups l.schema (deque_iter_rest l.one-iterator)) ≡ all_wanted l.schema (wanted_groups l.schema l.chosen.items);
  fit : FitChosen l.schema (deque_iter_rest l.one-iterator);
}
