use Rattle.std.proofs.Common.{ap, sym, ◌∙◌, Ok}
use Rattle.std.proofs.lemmas.Result.{err_from_is_err_and}
use Rattle.std.specs.Vec.Iter.{into_iter_items}
use Rattle.pm_avro_schema.specs.View as types
use Rattle.pm_record.specs.File.{misfit_of}
use Rattle.pm_record.proofs.ReadLemmas.{one_more, one_done, one_typed, one_fails}
use Rattle.pm_record.proofs.reading.read_data.Goals as goal

pub read-requires-clause-of_type : goal.read-requires-clause-of_type
read-requires-clause-of_type g c =
    one_typed c.args.data.items c.loop-datum.yielded (into_iter_items c.loop-datum.datum-iterator) (into_iter_items c.next.new.self) c.in-Some.datum c.loop-datum.invariant.parts
    c.in-Some.ensures.steps.0 (types.view c.args.kind.now) c.requires.of_type

pub returns-in_err-read-2 : goal.returns-in_err-read-2
returns-in_err-read-2 g c =
    let p = err_from_is_err_and c.from_residual-in_err-read-2.result c.from_residual-in_err-read-2.ensures.1 in
    rw (p.1, p.2)
    (one_fails c.args.data.items c.loop-datum.yielded (into_iter_items c.loop-datum.datum-iterator) (into_iter_items c.next.new.self) c.in-Some.datum c.loop-datum.invariant.parts
    c.in-Some.ensures.steps.0 (g.R.ReadRecord.reads c.args.records.now (types.view c.args.kind.now)) (misfit_of c.in_err-read-2.field-0.0) c.loop-datum.read.items
    c.loop-datum.invariant.done c.in_err-read-2.ensures)

pub loop-datum-preserved : goal.loop-datum-preserved
loop-datum-preserved g c = record {
  parts = one_done c.args.data.items c.loop-datum.yielded (into_iter_items c.loop-datum.datum-iterator) (into_iter_items c.next.new.self) c.in-Some.datum c.loop-datum.invariant.parts
      c.in-Some.ensures.steps.0;
  done = one_more (g.R.ReadRecord.reads c.args.records.now (types.view c.args.kind.now)) c.loop-datum.yielded c.in-Some.datum c.loop-datum.read.items c.in_ok-read-2.field-0
      c.loop-datum.invariant.done c.in_ok-read-2.ensures
      ∙ ap Ok (sym c.in_ok-push.ensures.items);
}
