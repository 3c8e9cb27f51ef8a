use Rattle.std.proofs.Common.{◌≡◌, ◌++◌}
use Rattle.std.specs.Vec.Iter.{into_iter_items}
use Rattle.indexmap.specs.IndexMap.{get}
use Rattle.pm_manifest.specs.FileId.{id_eq}
use Rattle.pm_manifest.specs.Live.{AreInOrder, Leaves}
use Rattle.pm_manifest.proofs.live.fold_entries.Given as goal

abbrev pub invariant-loop-entry : goal.invariant-loop-entry
invariant-loop-entry l = record {
  joined : l.yielded ++ into_iter_items l.entry-iterator ≡ l.fn.entries.items;
  order : AreInOrder (get id_eq l.fn.live) l.yielded;
  left : Leaves (get id_eq l.fn.live) l.yielded (get id_eq l.live);
}
