use Rattle.std.proofs.Common.{◌≡◌, ◌≤◌, ◌++◌, length}
use Rattle.std.specs.Vec.Iter.{into_iter_items}
use Rattle.pm_scan_rows.specs.Group.{reads_of}
use Rattle.pm_plan.specs.Planned.{AllRewritten, CanMake}
use Rattle.pm_plan.proofs.planned.Planned.rewrite_groups.Given as goal

-- the groups so far were made, and as many are left at least as are still to be
abbrev pub invariant-loop-read : goal.invariant-loop-read
invariant-loop-read l = record {
  parts : l.yielded ++ into_iter_items l.read-iterator ≡ l.fn.groups.items;
  made : AllRewritten l.fn.self (reads_of l.yielded) l.planned;
  ready : CanMake l.planned;
  few : length (into_iter_items l.read-iterator) ≤ length l.planned.left.items;
}
