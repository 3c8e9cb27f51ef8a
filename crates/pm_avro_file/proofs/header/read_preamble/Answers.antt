use Rattle.std.proofs.Common.{map, length, sym, ap, ◌∙◌, arith}
use Rattle.std.proofs.lemmas.List.{length-take}
use Rattle.pm_avro_data.specs.Datum.{view, entry_view}
use Rattle.pm_avro_file.proofs.Preambles.{preamble_mapless, preamble_markerless, preamble_follows, preamble_is}
use Rattle.pm_avro_file.proofs.Parts.{not_longer}
use Rattle.pm_avro_file.proofs.header.read_preamble.Goals as goal

pub returns-in_default-2 : goal.returns-in_default-2
returns-in_default-2 c = preamble_mapless c.args.bytes.now c.in-Some.start.now c.in-Some.ensures (rw (c.in_default-2.is, c.in_ok-kind.ensures) at c.in_ok-metadata.ensures)

pub returns-in_default-split_first_chunk : goal.returns-in_default-split_first_chunk
returns-in_default-split_first_chunk c =
    preamble_markerless c.args.bytes.now c.in-Some.start.now c.in-Some.ensures (view c.in-Some-2.metadata) c.in-Some-2.left.now (rw (c.in-Some-2.is, c.in_ok-kind.ensures) at c.in_ok-metadata.ensures)
    c.in_default-split_first_chunk.ensures.cases

pub overflow_sub-preamble : goal.overflow_sub-preamble
overflow_sub-preamble c =
    not_longer c.args.bytes.now c.in-Some-split_first_chunk.rest.now
    (preamble_follows c.args.bytes.now c.in-Some.start.now c.in-Some.ensures (view c.in-Some-2.metadata) c.in-Some-2.left.now (rw (c.in-Some-2.is, c.in_ok-kind.ensures) at c.in_ok-metadata.ensures)
    c.in-Some-split_first_chunk.rest.now c.in-Some-split_first_chunk.ensures.cases.1)

pub returns : goal.returns
returns c = (
  omega arith,
  preamble_is c.args.bytes.now c.in-Some.start.now c.in-Some.ensures (view c.in-Some-2.metadata) c.in-Some-2.left.now (rw (c.in-Some-2.is, c.in_ok-kind.ensures) at c.in_ok-metadata.ensures)
      (map entry_view c.in-Some-entries_in.entries.items) c.in-Some-split_first_chunk.marker.now c.in-Some-split_first_chunk.rest.now (sym c.in-Some-entries_in.ensures)
      c.in-Some-split_first_chunk.ensures.cases.0 c.in-Some-split_first_chunk.ensures.cases.1
      (ap length c.in-Some-split_first_chunk.ensures.cases.0 ∙ omega (arith, length-take 16 c.in-Some-2.left.now, c.in-Some-split_first_chunk.ensures.cases.2)),
)
