use Rattle.std.proofs.Common.{◌≢◌, [], length, ap, arith}
use Rattle.pm_run_bytes.proofs.DirectLemmas.{block_rows}
use Rattle.pm_run_bytes.proofs.direct.Direct.judge_block.Goals as goal

pub returns : goal.returns
returns c = λ o form changes same direct.
    let (rows, are, many, last) = c.in_ok-last.ensures in
    let (ds, has, judged) = block_rows c.args.self.now c.args.bytes.now c.args.offset c.in_ok-count.count c.in_ok-count.content.now c.in_ok-count.next c.in_ok-count.ensures.content o c.args.form.now c.args.changes
    c.args.before.now rows form changes same direct are many in
    let some : rows ≢ [] = λ none. absurd (omega (arith, many, ap length none, c.in_ok-count.ensures.some)) in
    (ds, rows, has, judged, last, some)
