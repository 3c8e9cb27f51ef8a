use Rattle.std.proofs.Common.{◌∙◌}
use Rattle.pm_avro_schema.specs.View as types
use Rattle.pm_avro_file.proofs.Blocks.{block_sizeless, block_short, block_unmarked, block_dataless}
use Rattle.pm_avro_file.proofs.block.read_block.Goals as goal

pub returns-in_default-2 : goal.returns-in_default-2
returns-in_default-2 c =
    block_sizeless (types.view c.args.kind.now) c.args.marker.now c.in-Some.count c.args.bytes.now c.in-Some.middle.now (rw c.in-Some.is at c.in_ok-count.ensures) (rw c.in_default-2.is at c.in_ok-size.ensures)

pub returns-then-size-count : goal.returns-then-size-count
returns-then-size-count c =
    block_short (types.view c.args.kind.now) c.args.marker.now c.in-Some.count c.args.bytes.now c.in-Some.middle.now (rw c.in-Some.is at c.in_ok-count.ensures)
    c.in-Some-2.size c.in-Some-2.left.now (rw c.in-Some-2.is at c.in_ok-size.ensures) c.then-size-count.either

pub returns-in_default-after_prefix : goal.returns-in_default-after_prefix
returns-in_default-after_prefix c =
    block_unmarked (types.view c.args.kind.now) c.args.marker.now c.in-Some.count c.args.bytes.now c.in-Some.middle.now (rw c.in-Some.is at c.in_ok-count.ensures)
    c.in-Some-2.size c.in-Some-2.left.now (rw c.in-Some-2.is at c.in_ok-size.ensures) (λ rest e. c.in_default-after_prefix.ensures rest (c.split_at.ensures.back ∙ e))

pub returns-in-None : goal.returns-in-None
returns-in-None c =
    block_dataless (types.view c.args.kind.now) c.args.marker.now c.in-Some.count c.args.bytes.now c.in-Some.middle.now (rw c.in-Some.is at c.in_ok-count.ensures)
    c.in-Some-2.size c.in-Some-2.left.now (rw c.in-Some-2.is at c.in_ok-size.ensures) (rw (c.in-None.is, c.split_at.ensures.front) at c.in_ok-data.ensures)
