use Rattle.std.proofs.Common.{◌≡◌, ◌++◌, map}
use Rattle.std.specs.Vec.Iter.{into_iter_items}
use Rattle.pm_merge.specs.Merge.{runs_of}
use Rattle.pm_merge.specs.Merging.{rests_of}
use Rattle.pm_merge.specs.Source.{rest_in_memory}
use Rattle.pm_merge.proofs.merge.sources_of.Given as goal

-- the sources so far have the runs so far
abbrev pub invariant-loop-run : goal.invariant-loop-run
invariant-loop-run l = record {
  parts : l.yielded ++ into_iter_items l.run-iterator ≡ l.fn.runs.items;
  have : map rest_in_memory l.sources.items ≡ rests_of (runs_of l.yielded);
}
