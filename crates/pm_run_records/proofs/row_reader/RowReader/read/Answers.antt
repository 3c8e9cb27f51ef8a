use Rattle.std.proofs.Common.{refl}
use Rattle.pm_avro_schema.specs.View as types
use Rattle.pm_run.specs.Form.{row_fields}
use Rattle.pm_run_records.proofs.ReadRowsLemmas.{reader_parts}
use Rattle.pm_run_records.proofs.row_reader.RowReader.read.Goals as goal

pub returns-in-Some : goal.returns-in-Some
returns-in-Some c =
    let p = reader_parts c.args.self.now (types.view c.args.kind.now) c.requires.of_kind in
    let found = rw c.in-Some.is at (c.in_ok-values.ensures (row_fields c.args.self.now.form) p.fields) in
    rw (← found, p.columns, p.keys) c.read_row.ensures

pub returns-in-None : goal.returns-in-None
returns-in-None c =
    let p = reader_parts c.args.self.now (types.view c.args.kind.now) c.requires.of_kind in
    let found = rw c.in-None.is at (c.in_ok-values.ensures (row_fields c.args.self.now.form) p.fields) in
    rw (← found) refl

pub read-requires-clause-of_kind : goal.read-requires-clause-of_kind
read-requires-clause-of_kind c =
    let p = reader_parts c.args.self.now (types.view c.args.kind.now) c.requires.of_kind in
    (row_fields c.args.self.now.form, p.fields)
