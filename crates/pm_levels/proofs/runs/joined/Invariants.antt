use Rattle.std.proofs.Common.{◌≡◌, [], ◌++◌, map}
use Rattle.std.specs.List.{FoldsTo}
use Rattle.std.specs.Vec.Iter.{into_iter_items}
use Rattle.pm_levels.specs.Runs.{Puts, run_of}
use Rattle.pm_levels.proofs.runs.joined.Given as goal

-- the files so far are in the runs
abbrev pub invariant-loop-file : goal.invariant-loop-file
invariant-loop-file l = record {
  parts : l.yielded ++ into_iter_items l.file-iterator ≡ l.fn.files.items;
  folds : FoldsTo Puts [] l.yielded (map run_of l.runs.items);
}
