use Rattle.std.proofs.Common.{◌≡◌, ◌++◌}
use Rattle.std.specs.Vec.Iter.{into_iter_items}
use Rattle.pm_merge.specs.Merge.{without_droppable}
use Rattle.pm_merge.proofs.drops.without_droppable.Given as goal

-- of the rows so far those that aren't droppable are kept
abbrev pub invariant-loop-row : goal.invariant-loop-row
invariant-loop-row g l = record {
  parts : l.yielded ++ into_iter_items l.row-iterator ≡ l.fn.run.items;
  kept : l.kept.items ≡ without_droppable (g.E.MergeEngine.meaning l.engine) l.yielded;
}
