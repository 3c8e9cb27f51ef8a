use Rattle.std.proofs.Common.{take}
use Rattle.pm_avro_schema.specs.View as types
use Rattle.pm_avro_file.specs.Views.{blocks_view}
use Rattle.pm_avro_file.specs.Begun.{IsBegun}
use Rattle.pm_avro_file.proofs.writing.write_file.Given as goal

abbrev pub invariant-loop-block : goal.invariant-loop-block
invariant-loop-block l = IsBegun (types.view l.kind) l.marker (blocks_view (take l.block-index l.blocks)) l.out.items
