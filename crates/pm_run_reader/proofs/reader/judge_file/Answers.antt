use Rattle.std.proofs.Common.{◌≡◌, ℕ, List, [], length, refl, sym, ap, subst, arith}
use Rattle.pm_run_bytes.specs.Direct.{IsDirect, IsDirectOr}
use Rattle.pm_run_bytes.specs.Block.{JudgesBlock}
use Rattle.pm_run.specs.Rows.{Opened, opened_as}
use Rattle.pm_run_reader.proofs.JudgeLemmas.{judge_further, judged-block, judged-end}
use Rattle.pm_run_reader.proofs.reader.judge_file.Goals as goal

pub loop-offset-smaller : goal.loop-offset-smaller
loop-offset-smaller c =
    let o : Opened = opened_as [] c.args.rows.now.form c.args.rows.now.changes c.args.file.now in
    let direct : IsDirect c.in-Some.direct o.form o.file = subst (λ p. IsDirectOr p o.form o.file) c.in-Some.is c.requires in
    omega (arith, judge_further o c.loop-offset.offset c.loop-offset.last c.in_ok-key.key c.in_ok-key.end (c.in_ok-key.ensures o refl refl (sym c.bytes-bytes.ensures) direct))

pub loop-offset-preserved : goal.loop-offset-preserved
loop-offset-preserved c =
    let form = c.args.rows.now.form in
    let changes = c.args.rows.now.changes in
    let file = c.args.file.now in
    let o = λ (path : List ℕ). opened_as path form changes file in
    let direct : IsDirect c.in-Some.direct form file = subst (λ p. IsDirectOr p form file) c.in-Some.is c.requires in
    let found : (path : List ℕ) → JudgesBlock (o path) c.loop-offset.offset c.loop-offset.last c.in_ok-key.key c.in_ok-key.end = λ path. c.in_ok-key.ensures (o path) refl refl (sym c.bytes-bytes.ensures) direct in
    record {
      within = (judge_further (o []) c.loop-offset.offset c.loop-offset.last c.in_ok-key.key c.in_ok-key.end (found [])).1;
      judged = λ path. judged-block (o path) c.loop-offset.offset c.args.before.now c.loop-offset.last (c.loop-offset.invariant.judged path) c.in_ok-key.key c.in_ok-key.end (found path);
    }

pub returns : goal.returns
returns c = λ path.
    let o : Opened = opened_as path c.args.rows.now.form c.args.rows.now.changes c.args.file.now in
    let bytes : length c.bytes-bytes.result.now ≡ length o.file.bytes = ap length c.bytes-bytes.ensures in
    let end : c.loop-offset.offset ≡ length o.file.bytes = omega (arith, bytes) in
    judged-end o c.loop-offset.offset c.args.before.now c.loop-offset.last (c.loop-offset.invariant.judged path) end
