use Rattle.std.proofs.lemmas.Result.{err_from_is_err_and}
use Rattle.pm_avro_schema.specs.View as types
use Rattle.pm_avro_data.specs.Datum.{view}
use Rattle.pm_avro_data.proofs.Readings.{datum_shrinks, datum_takes}
use Rattle.pm_avro_data.proofs.Types.{datum_typed}
use Rattle.pm_avro_data.proofs.Prefixes.{prefix_found, prefix_only, fault_cause, fault_only}
use Rattle.pm_avro_data.proofs.reading.decode_in.Goals as goal

pub overflow_sub-result : goal.overflow_sub-result
overflow_sub-result c = datum_shrinks (types.view c.args.kind.now) c.args.bytes.now (view c.in_ok-datum.datum) c.in_ok-datum.rest.now c.in_ok-datum.ensures

pub returns-clause-found : goal.returns-clause-found
returns-clause-found c = prefix_found (types.view c.args.kind.now) c.args.bytes.now (view c.in_ok-datum.datum) c.in_ok-datum.rest.now c.in_ok-datum.ensures

pub returns-clause-only : goal.returns-clause-only
returns-clause-only c = λ d n b. prefix_only (types.view c.args.kind.now) c.args.bytes.now (view c.in_ok-datum.datum) c.in_ok-datum.rest.now d n c.in_ok-datum.ensures b

pub returns-in_err-datum-clause-only : goal.returns-in_err-datum-clause-only
returns-in_err-datum-clause-only c = λ d n b.
    let p = err_from_is_err_and c.from_residual.result c.from_residual.ensures.1 in
    rw (p.1, p.2) (fault_only (types.view c.args.kind.now) c.args.bytes.now c.in_err-datum.field-0.0 d n c.in_err-datum.ensures b)

pub returns-in_err-datum-clause-bad : goal.returns-in_err-datum-clause-bad
returns-in_err-datum-clause-bad c =
    let p = err_from_is_err_and c.from_residual.result c.from_residual.ensures.1 in
    rw (p.1, p.2) (fault_cause (types.view c.args.kind.now) c.args.bytes.now c.in_err-datum.field-0.0 c.in_err-datum.ensures)

pub returns-clause-typed : goal.returns-clause-typed
returns-clause-typed c =
    datum_typed (types.view c.args.kind.now) (view c.in_ok-datum.datum) c.args.bytes.now c.in_ok-datum.rest.now
    (datum_takes (types.view c.args.kind.now) c.args.bytes.now (view c.in_ok-datum.datum) c.in_ok-datum.rest.now c.in_ok-datum.ensures)
