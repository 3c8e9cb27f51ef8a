use Rattle.std.proofs.Common.{subst, sym}
use Rattle.pm_avro_schema.specs.View as types
use Rattle.pm_run_bytes.specs.Direct.{IsDirectOr}
use Rattle.pm_run.specs.Rows.{AreBytes}
use Rattle.pm_run_reader.proofs.FindLemmas.{lacking_refused}
use Rattle.pm_run_records.proofs.ReadRowsLemmas.{no_reader, reader_again, reader_of}
use Rattle.pm_run_reader.proofs.reader.RunReader.open.Goals as goal

pub before_first-requires-clause-of_kind : goal.before_first-requires-clause-of_kind
before_first-requires-clause-of_kind c =
    let found = rw c.in-Some.is at c.in_ok-rows.ensures in
    reader_again c.in-Some.rows c.in_ok-form.form c.args.changes (types.view c.kind.result.now) c.in_ok-file.file.kind found c.kind.ensures.kind

pub before_first-requires-clause-direct : goal.before_first-requires-clause-direct
before_first-requires-clause-direct c =
    let found = rw c.in-Some.is at c.in_ok-rows.ensures in
    let p = reader_of c.in-Some.rows c.in_ok-form.form c.args.changes (types.view c.kind.result.now) found in
    subst (λ f. IsDirectOr c.in_ok-direct.direct f c.in_ok-file.file) (sym p.form) c.in_ok-direct.ensures

pub returns-in_ok-before_first-in-Some-clause-opens : goal.returns-in_ok-before_first-in-Some-clause-opens
returns-in_ok-before_first-in-Some-clause-opens c =
    let found = rw c.in-Some.is at c.in_ok-rows.ensures in
    let p = reader_of c.in-Some.rows c.in_ok-form.form c.args.changes (types.view c.kind.result.now) found in (
      c.if-schema_id-schema.false,
      c.in_ok-file.file,
      c.in_ok-file.ensures,
      rw (c.in_ok-form.ensures, c.kind.ensures.kind) at p.has,
      rw (p.form, c.in_ok-form.ensures, p.changed) at c.in_ok-before_first-in-Some.ensures,
    )

pub returns-in_ok-before_first-in-Some-clause-bytes : goal.returns-in_ok-before_first-in-Some-clause-bytes
returns-in_ok-before_first-in-Some-clause-bytes c = subst AreBytes c.as_bytes.ensures c.known_bytes.ensures

pub returns-in-None-clause-opens : goal.returns-in-None-clause-opens
returns-in-None-clause-opens c =
    let found = rw c.in-None.is at c.in_ok-rows.ensures in
    let lacks = no_reader c.in_ok-form.form c.args.changes (types.view c.kind.result.now) found in
    lacking_refused c.args.schema.now c.args.schema_id c.args.path.now c.args.bytes c.damaged.result c.in_ok-file.file c.damaged.ensures c.if-schema_id-schema.false c.in_ok-file.ensures
    (rw (c.in_ok-form.ensures, c.kind.ensures.kind) at lacks)
