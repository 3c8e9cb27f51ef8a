use Rattle.std.proofs.Common.{◌≡◌, ◌++◌, map}
use Rattle.std.specs.Vec.Iter.{into_iter_items}
use Rattle.pm_avro_data.specs.Datum.{view}
use Rattle.pm_avro_file.specs.Views.{blocks_view}
use Rattle.pm_record.specs.File.{IsSplit}
use Rattle.pm_record.proofs.writing.split_blocks.Given as goal

abbrev pub invariant-loop-datum : goal.invariant-loop-datum
invariant-loop-datum l = record {
  parts : l.yielded ++ into_iter_items l.datum-iterator ≡ l.fn.data.items;
  split : IsSplit l.most (blocks_view l.blocks.items) (map view l.block.items) (map view l.yielded);
}
