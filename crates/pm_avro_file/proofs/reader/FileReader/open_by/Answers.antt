use Rattle.std.proofs.Common.{drop, refl, inl}
use Rattle.pm_avro_schema.specs.View as types
use Rattle.pm_avro_file.specs.Views.{pairs_view}
use Rattle.pm_avro_file.proofs.Meanings.{kind_header}
use Rattle.pm_avro_file.proofs.reader.FileReader.open_by.Goals as goal

pub returns-in_default : goal.returns-in_default
returns-in_default c = (refl, inl (rw (c.in_default.is, c.as_bytes.ensures) at c.in_ok-preamble.ensures))

pub invariant_of-result : goal.invariant_of-result
invariant_of-result c =
    let preamble = rw (c.in-Some.is, c.as_bytes.ensures) at c.in_ok-preamble.ensures in
    let kind = rw c.deref.ensures.value at c.in_ok-kind.ensures in
    let header = kind_header (types.view c.in_ok-kind.kind) (pairs_view c.in-Some.preamble.entries.items) c.in-Some.preamble.marker c.args.bytes (drop c.in-Some.preamble.size c.args.bytes) preamble.1 kind in
    (preamble.0, preamble.0, header.readable, kind)

pub returns : goal.returns
returns c =
    let preamble = rw (c.in-Some.is, c.as_bytes.ensures) at c.in_ok-preamble.ensures in
    let kind = rw c.deref.ensures.value at c.in_ok-kind.ensures in
    record {
      same = refl;
      within = preamble.0;
      header = kind_header (types.view c.in_ok-kind.kind) (pairs_view c.in-Some.preamble.entries.items) c.in-Some.preamble.marker c.args.bytes (drop c.in-Some.preamble.size c.args.bytes) preamble.1 kind;
      before = refl;
      reads = refl;
    }
