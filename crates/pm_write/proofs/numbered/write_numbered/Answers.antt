use Rattle.std.proofs.Common.{◌≡◌, ℕ, ◌≤◌, [], ◌<◌, get_or, take, length, Option, Some, sym, ap, subst, arith}
use Rattle.std.proofs.lemmas.List.{take_all}
use Rattle.pm_engine.specs.Covers.{Run}
use Rattle.pm_run.specs.Form.{form_of}
use Rattle.pm_run_bytes.specs.Lying.{HasContentOf}
use Rattle.pm_run.specs.declared.run.RunFile.{RunFile}
use Rattle.pm_run_writer.specs.Written.{HasFinished, HasInHand}
use Rattle.pm_write.specs.Batch.{numbered}
use Rattle.pm_write.specs.Held.{counted_from}
use Rattle.pm_write.proofs.FileOfRunLemmas.{blank, numbered_more, only_file}
use Rattle.pm_write.proofs.numbered.write_numbered.Goals as goal

abbrev limit : ℕ
limit = 18446744073709551615

pub loop-index-init : goal.loop-index-init
loop-index-init c = record {
  ready = c.reserve.ensures.ready c.in_ok-writer.ensures.ready;
  hand = c.reserve.ensures.kept c.args.schema.now limit 0 c.args.names.now.session [] c.in_ok-writer.ensures.none;
}

pub loop-index-preserved : goal.loop-index-preserved
loop-index-preserved c =
    let s = c.args.schema.now in
    let session = c.args.names.now.session in
    let rows = c.args.rows.now in
    let i = c.loop-index.index in
    let first = c.args.first in
    let inside : i < length rows = omega (arith, c.loop-index-test.true, c.loop-index.auto, c.len-index-end.ensures) in
    let x = counted_from first (get_or rows i blank) in
    record {
      ready = c.in_ok-full.ensures.room c.if-full.false;
      hand = subst (λ (rs : Run). HasInHand s limit 0 session rs c.put.new.self) (numbered_more first rows i inside)
          (c.in_ok-full.ensures.more s limit 0 session (numbered first (take i rows)) x (c.in_ok-lend_counted.ensures.row blank)
          (subst (HasContentOf (form_of s) (Some x)) (sym c.in_ok-lend_counted.ensures.alone) tt) c.loop-index.invariant.hand);
    }

pub returns-in-Some-clause-file : goal.returns-in-Some-clause-file
returns-in-Some-clause-file c =
    let s = c.args.schema.now in
    let names = c.args.names.now in
    let rows = c.args.rows.now in
    let i = c.loop-index.index in
    let first = c.args.first in
    let past : length rows ≤ i = omega (arith, c.loop-index.auto, c.len-index-end.ensures) in
    let all : numbered first (take i rows) ≡ numbered first rows = ap (numbered first) (take_all i rows past) in
    let hand : HasInHand s limit 0 names.session (numbered first rows) c.loop-index.writer = subst (λ (rs : Run). HasInHand s limit 0 names.session rs c.loop-index.writer) all c.loop-index.invariant.hand in
    let finished : HasFinished s limit 0 names (numbered first rows) (Some c.in-Some.file) c.finish.new.self =
    subst (λ (f : Option RunFile). HasFinished s limit 0 names (numbered first rows) f c.finish.new.self) c.in-Some.is (c.in_ok-file.ensures.finished s limit 0 (numbered first rows) hand) in
    only_file s limit names first rows c.in-Some.file c.files_law.ensures hand.names (omega arith) hand.within finished.0 c.requires.rising finished.1.file
