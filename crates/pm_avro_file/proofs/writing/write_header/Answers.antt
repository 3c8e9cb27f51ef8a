use Rattle.std.proofs.Common.{◌≡◌, List, ℕ, ◌++◌, ap, ◌∙◌, arith}
use Rattle.pm_avro_schema.specs.View as types
use Rattle.pm_avro_file.specs.Container.{magic}
use Rattle.pm_avro_file.proofs.Writes.{written_header}
use Rattle.pm_avro_file.proofs.writing.write_header.Goals as goal

pub returns-clause-header : goal.returns-clause-header
returns-clause-header c =
    let out : c.extend_from_slice-2.new.self.items ≡ (magic ++ c.in_ok-pairs.pairs.items) ++ c.args.marker.now =
    c.in_ok-extend_from_slice-2.ensures.items ∙ ap (λ (x : List ℕ). x ++ c.args.marker.now) (rw (c.in_ok-out.ensures.items, c.deref.ensures.value) at c.in_ok-extend_from_slice.ensures.items) in
    written_header (types.view c.args.kind.now) c.args.marker.now c.in_ok-pairs.pairs.items c.extend_from_slice-2.new.self.items (omega arith) c.in_ok-pairs.ensures.read c.in_ok-pairs.ensures.schema out
