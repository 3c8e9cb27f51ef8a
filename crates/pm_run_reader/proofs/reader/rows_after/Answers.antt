use Rattle.std.proofs.Common.{sym, subst, arith}
use Rattle.std.proofs.lemmas.Result.{err_from_is_err_and}
use Rattle.pm_run.specs.Rows.{opened_as}
use Rattle.pm_run_reader.proofs.AppendLemmas.{IsRead, read-block, read-end, read-none, read-refused, read-stopped}
use Rattle.pm_run_reader.proofs.FindLemmas.{read_further}
use Rattle.pm_run_reader.proofs.reader.rows_after.Goals as goal

pub loop-last-init : goal.loop-last-init
loop-last-init c =
    let o = opened_as c.args.path.now c.args.reader.now.form c.args.reader.now.changes c.args.file.now in
    record {
      within = c.first-offset.ensures.within;
      read = subst (λ n. IsRead o n c.args.before.now c.new-rows.result.items c.in_ok-last.last) (sym c.first-offset.ensures.first)
          (read-none o c.args.before.now c.in_ok-last.last c.new-rows.result.items c.new-rows.ensures.items c.in_ok-last.ensures);
    }

pub returns-in_err-read-clause-refuses : goal.returns-in_err-read-clause-refuses
returns-in_err-read-clause-refuses c =
    let o = opened_as c.args.path.now c.args.reader.now.form c.args.reader.now.changes c.args.file.now in
    let p = err_from_is_err_and c.from_residual-in_err-read.result c.from_residual-in_err-read.ensures.1 in
    rw (p.1, p.2) (read-stopped o c.loop-last.offset c.args.before.now c.loop-last.rows.items c.loop-last.last c.loop-last.invariant.read c.in_err-read.field-0.0 c.in_err-read.ensures)

pub returns-in-Some-refusal-clause-refuses : goal.returns-in-Some-refusal-clause-refuses
returns-in-Some-refusal-clause-refuses c =
    let o = opened_as c.args.path.now c.args.reader.now.form c.args.reader.now.changes c.args.file.now in
    let got = rw c.in-Some.is at c.in_ok-read.ensures in
    read-refused o c.loop-last.offset c.args.before.now c.loop-last.rows.items c.loop-last.last c.loop-last.invariant.read (c.in-Some.read, c.in-Some.after) c.in-Some-refusal.refusal got c.in-Some-refusal.is

pub loop-last-smaller : goal.loop-last-smaller
loop-last-smaller c =
    let o = opened_as c.args.path.now c.args.reader.now.form c.args.reader.now.changes c.args.file.now in
    let got = rw c.in-Some.is at c.in_ok-read.ensures in
    omega (arith, read_further o c.loop-last.offset _ (c.in-Some.read, c.in-Some.after) got)

pub loop-last-preserved : goal.loop-last-preserved
loop-last-preserved c =
    let o = opened_as c.args.path.now c.args.reader.now.form c.args.reader.now.changes c.args.file.now in
    let got = rw c.in-Some.is at c.in_ok-read.ensures in
    let read = read-block o c.loop-last.offset c.args.before.now c.loop-last.rows.items c.loop-last.last c.loop-last.invariant.read (c.in-Some.read, c.in-Some.after) c.in_ok-last-2.last got
    c.in_default-refusal.is (rw c.deref.ensures.value at c.in_ok-last-2.ensures) in
    record {
      within = (read_further o c.loop-last.offset _ (c.in-Some.read, c.in-Some.after) got).1;
      read = rw c.in_ok-append.ensures.items read;
    }

pub returns-clause-follow : goal.returns-clause-follow
returns-clause-follow c =
    let o = opened_as c.args.path.now c.args.reader.now.form c.args.reader.now.changes c.args.file.now in
    let got = rw c.in_default.is at c.in_ok-read.ensures in
    read-end o c.loop-last.offset c.args.before.now c.loop-last.rows.items c.loop-last.last c.loop-last.invariant.read got
