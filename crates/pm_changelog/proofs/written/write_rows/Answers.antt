use Rattle.std.proofs.Common.{◌≡◌, ℕ, ◌<◌, ◌≤◌, List, get_or, take, length, Some, sym, ap, subst, arith}
use Rattle.std.proofs.lemmas.List.{take_all}
use Rattle.pm_values.specs.declared.record.Stamped.{Stamped}
use Rattle.pm_run.specs.Form.{form_of}
use Rattle.pm_run_bytes.specs.Lying.{HasContentOf}
use Rattle.pm_run_writer.specs.Written.{HasInHand}
use Rattle.pm_changelog.specs.GroupLog.{stamped_from, with_number, without_numbers}
use Rattle.pm_changelog.proofs.LogLemmas.{written-log}
use Rattle.pm_changelog.proofs.NumberLemmas.{blank, stamped-next}
use Rattle.pm_changelog.proofs.written.write_rows.Goals as goal

abbrev limit : ℕ
limit = 18446744073709551615

pub loop-index-preserved : goal.loop-index-preserved
loop-index-preserved c =
    let s = c.args.schema.now in
    let session = c.args.names.now.session in
    let rows = c.args.rows.now in
    let i = c.loop-index.index in
    let inside : i < length rows = omega (arith, c.loop-index-test.true, c.loop-index.auto, c.len-index-end.ensures) in
    let x = with_number i (get_or rows i blank) in
    record {
      ready = c.in_ok-put.ensures.room c.if-branch.false;
      hand = subst (λ (rs : List Stamped). HasInHand s limit 0 session rs c.put.new.self) (stamped-next rows i inside)
          (c.in_ok-put.ensures.more s limit 0 session (stamped_from 0 (without_numbers (take i rows))) x (c.in_ok-lend_numbered.ensures.row blank)
          (subst (HasContentOf (form_of s) (Some x)) (sym c.in_ok-lend_numbered.ensures.alone) tt) c.loop-index.invariant.hand);
    }

pub returns-clause-file : goal.returns-clause-file
returns-clause-file c =
    let s = c.args.schema.now in
    let names = c.args.names.now in
    let rows = c.args.rows.now in
    let i = c.loop-index.index in
    let past : length rows ≤ i = omega (arith, c.loop-index.auto, c.len-index-end.ensures) in
    let all : stamped_from 0 (without_numbers (take i rows)) ≡ stamped_from 0 (without_numbers rows) = ap (λ (rs : List Stamped). stamped_from 0 (without_numbers rs)) (take_all i rows past) in
    let hand : HasInHand s limit 0 names.session (stamped_from 0 (without_numbers rows)) c.loop-index.writer = subst (λ (rs : List Stamped). HasInHand s limit 0 names.session rs c.loop-index.writer) all c.loop-index.invariant.hand in
    written-log c.changes_law.ensures s names rows c.in_ok-file.file hand.names c.requires.order
    (c.in_ok-file.ensures.finished s limit 0 (stamped_from 0 (without_numbers rows)) hand)
