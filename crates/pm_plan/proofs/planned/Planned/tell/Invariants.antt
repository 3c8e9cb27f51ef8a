use Rattle.std.proofs.Common.{◌≡◌, ◌++◌, []}
use Rattle.std.specs.List.{FoldsTo}
use Rattle.std.specs.Vec.Iter.{into_iter_items}
use Rattle.pm_plan.specs.Planned.{FitTold, HasRoom, TellsGroup}
use Rattle.pm_plan.proofs.planned.Planned.tell.Given as goal

-- what is told of the groups so far was written, and no log is in the plan any more
abbrev pub invariant-loop-told : goal.invariant-loop-told
invariant-loop-told l = record {
  parts : l.yielded ++ into_iter_items l.told-iterator ≡ l.fn.self.logs.items;
  wrote : FoldsTo TellsGroup (record l.fn.self { logs = l.planned.logs }) l.yielded l.planned;
  none : l.planned.logs.items ≡ [];
  fit : FitTold l.planned.schema (into_iter_items l.told-iterator);
  room : HasRoom l.planned;
}
