use Rattle.std.proofs.Common.{sym, ap, ◌∙◌}
use Rattle.std.specs.Vec.Iter.{into_iter_items}
use Rattle.pm_avro_schema.specs.View as types
use Rattle.pm_record.specs.File.{misfit_refusal}
use Rattle.pm_run.specs.Rows.{all_judged, then_refused}
use Rattle.pm_run_records.proofs.ReadRowsLemmas.{one_done, one_typed, read_push, read_refused}
use Rattle.pm_run_records.proofs.row_reader.RowReader.read_rows.Goals as goal

pub read_next-requires-clause-of_type : goal.read_next-requires-clause-of_type
read_next-requires-clause-of_type c =
    one_typed c.args.data.items c.loop-datum.yielded (into_iter_items c.loop-datum.datum-iterator) (into_iter_items c.next.new.self) c.in-Some.datum c.loop-datum.invariant.parts
    c.in-Some.ensures.steps.0 (types.view c.args.kind.now) c.requires.of_type

pub loop-datum-preserved : goal.loop-datum-preserved
loop-datum-preserved c =
    let read = rw c.deref.ensures.value at c.in-Ok.ensures in
    record {
      parts = one_done c.args.data.items c.loop-datum.yielded (into_iter_items c.loop-datum.datum-iterator) (into_iter_items c.next.new.self) c.in-Some.datum c.loop-datum.invariant.parts
          c.in-Some.ensures.steps.0;
      done = λ o form changes kind.
          read_push c.args.data.items c.loop-datum.yielded (into_iter_items c.loop-datum.datum-iterator) (into_iter_items c.next.new.self) c.in-Some.datum c.loop-datum.invariant.parts
          c.in-Some.ensures.steps.0 o c.args.before.now c.args.offset c.loop-datum.rows.items c.args.self.now.form c.args.self.now.changes (types.view c.args.kind.now) c.in-Ok.row form changes kind
          (c.loop-datum.invariant.done o form changes kind) read
          ∙ ap all_judged (sym c.in_ok-push-in-Ok.ensures.items);
    }

pub returns-in-Err : goal.returns-in-Err
returns-in-Err c = λ o path form changes kind.
    let fails = rw c.in_ok-refusal_of-in-Err.ensures.some at c.in-Err.ensures in
    let read = rw c.deref.ensures.value at fails in
    let refusal = ap (λ p. misfit_refusal p c.args.offset c.in-Err.misfit) path ∙ sym c.in_ok-refusal_of-in-Err.ensures.refusal in
    read_refused c.args.data.items c.loop-datum.yielded (into_iter_items c.loop-datum.datum-iterator) (into_iter_items c.next.new.self) c.in-Some.datum c.loop-datum.invariant.parts
    c.in-Some.ensures.steps.0 o c.args.before.now c.args.offset c.loop-datum.rows.items c.args.self.now.form c.args.self.now.changes (types.view c.args.kind.now) c.in-Err.misfit form changes kind
    (c.loop-datum.invariant.done o form changes kind) read
    ∙ ap (then_refused c.loop-datum.rows.items) refusal
