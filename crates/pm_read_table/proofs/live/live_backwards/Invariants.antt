use Rattle.std.proofs.Common.{◌≡◌, ◌++◌, reverse}
use Rattle.std.specs.Vec.Iter.{into_iter_items}
use Rattle.indexmap.specs.IndexMap.{get}
use Rattle.pm_manifest.specs.FileId.{id_eq}
use Rattle.pm_read_table.specs.View.{HaveIds, live_entries}
use Rattle.pm_read_table.proofs.live.live_backwards.Given as goal

abbrev pub invariant-loop-entry : goal.invariant-loop-entry
invariant-loop-entry l = record {
  joined : l.yielded ++ into_iter_items l.entry-iterator ≡ l.fn.entries.items;
  have : HaveIds (get id_eq l.later) (reverse l.yielded);
  live : live_entries (reverse l.yielded) ≡ reverse l.live.items;
}
