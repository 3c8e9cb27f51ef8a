use Rattle.std.proofs.Common.{◌≡◌, ◌++◌, All}
use Rattle.std.specs.List.{AllByRecursion, AllZip}
use Rattle.std.specs.List.Sorted.{IsStrictlySortedBy}
use Rattle.std.specs.Map.{keys_of}
use Rattle.pm_values.specs.GroupOrder.{group_cmp}
use Rattle.pm_values.specs.declared.group.Group.{Group}
use Rattle.pm_engine.specs.Covers.{Run}
use Rattle.pm_engines.specs.TableEngine.{schema_of}
use Rattle.pm_write.specs.Held.{IsHeld, IsHeldOf, IsOwn}
use Rattle.pm_write.proofs.batch.held_groups.Given as goal

-- of the groups some are kept, and the others are left
abbrev pub invariant-loop-group : goal.invariant-loop-group
invariant-loop-group l = record {
  joined : l.yielded ++ l.group-iterator ≡ l.fn.groups.entries;
  left : AllByRecursion (λ (e : Group × Run). IsOwn (schema_of l.engine) e.1) l.group-iterator;
  rows : AllZip (IsHeldOf (schema_of l.engine)) l.yielded l.held.items;
  kept : All IsHeld l.held.items;
  ordered : IsStrictlySortedBy group_cmp (keys_of l.fn.groups.entries);
}
