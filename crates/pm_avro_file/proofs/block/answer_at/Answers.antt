use Rattle.std.proofs.Common.{map, refl}
use Rattle.pm_avro_schema.specs.View as types
use Rattle.pm_avro_data.specs.Datum.{view}
use Rattle.pm_avro_file.proofs.Blocks.{block_offset, block_not_longer}
use Rattle.pm_avro_file.proofs.Typed.{block_typed}
use Rattle.pm_avro_file.proofs.block.answer_at.Goals as goal

pub overflow_sub-result : goal.overflow_sub-result
overflow_sub-result c =
    block_not_longer (types.view c.args.kind.now) c.args.marker.now (map view c.in-Some.data.items) c.args.bytes.now c.args.offset c.in-Some.rest.now (rw (c.in-Some.is, c.split_at.ensures.back) at c.in_ok-data.ensures)

pub returns-in-Some-clause-answers : goal.returns-in-Some-clause-answers
returns-in-Some-clause-answers c =
    block_offset (types.view c.args.kind.now) c.args.marker.now (map view c.in-Some.data.items) c.args.bytes.now c.args.offset c.in-Some.rest.now c.requires (rw (c.in-Some.is, c.split_at.ensures.back) at c.in_ok-data.ensures)

pub returns-in-None-clause-answers : goal.returns-in-None-clause-answers
returns-in-None-clause-answers c = (refl, record { before = c.if-offset-bytes.false; none = rw (c.in-None.is, c.split_at.ensures.back) at c.in_ok-data.ensures })

pub returns-in-Some-clause-typed : goal.returns-in-Some-clause-typed
returns-in-Some-clause-typed c =
    block_typed (types.view c.args.kind.now) (map view c.in-Some.data.items) c.args.marker.now c.split_at.result.1.now c.in-Some.rest.now (rw c.in-Some.is at c.in_ok-data.ensures)
