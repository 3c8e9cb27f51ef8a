use Rattle.std.proofs.Common.{◌≡◌, List, take, sym, subst}
use Rattle.std.specs.List.{AllByRecursion}
use Rattle.std.proofs.lemmas.List.{take_all}
use Rattle.pm_values.specs.declared.record.Stamped.{Stamped}
use Rattle.pm_run.specs.Typed.{IsWritable}
use Rattle.pm_run_form.proofs.LoopLemmas.{take_next}
use Rattle.pm_run_writer.specs.Begun.{HasBegun}
use Rattle.pm_run_writer.proofs.TypeLemmas.{run_readable, run_takes}
use Rattle.pm_run_writer.proofs.begun_file.write_rows.Goals as goal

pub begin-requires-clause-readable : goal.begin-requires-clause-readable
begin-requires-clause-readable c = rw c.requires.kind (run_readable c.args.form.now c.requires.differ)

pub begin-requires-clause-some : goal.begin-requires-clause-some
begin-requires-clause-some c = rw c.requires.kind (run_takes c.args.form.now)

pub loop-row-init : goal.loop-row-init
loop-row-init c = record {
  begun = c.in_ok-file.ensures.begun c.args.form.now c.requires.kind;
  within = c.in_ok-file.ensures.room;
}

pub loop-row-preserved : goal.loop-row-preserved
loop-row-preserved c =
    let rows = c.args.rows.now in
    let i = c.loop-row.row-index in
    record {
      begun = subst (λ (xs : List Stamped). HasBegun c.args.form.now c.args.marker xs c.add.new.self) (sym (take_next rows i c.row-item.result c.loop-row-test.true c.row-item.is))
          (c.in_ok-add.ensures.begun c.args.marker (take i rows) c.loop-row.invariant.begun);
      within = c.in_ok-add.ensures.within;
    }

pub returns-clause-file : goal.returns-clause-file
returns-clause-file c =
    let rows = c.args.rows.now in
    let all : take c.loop-row.row-index rows ≡ rows = take_all c.loop-row.row-index rows c.loop-row-test.false in
    c.in_ok-bytes.ensures c.args.form.now c.args.marker rows (subst (λ (xs : List Stamped). HasBegun c.args.form.now c.args.marker xs c.loop-row.file) all c.loop-row.invariant.begun)

pub returns-clause-writable : goal.returns-clause-writable
returns-clause-writable c =
    let rows = c.args.rows.now in
    subst (AllByRecursion (IsWritable c.args.form.now)) (take_all c.loop-row.row-index rows c.loop-row-test.false) c.loop-row.invariant.begun.writable
