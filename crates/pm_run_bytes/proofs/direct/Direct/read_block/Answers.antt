use Rattle.pm_run_bytes.proofs.DirectLemmas.{block_rows}
use Rattle.pm_run_bytes.proofs.direct.Direct.read_block.Goals as goal

pub returns : goal.returns
returns c = λ o form changes same direct.
    block_rows c.args.self.now c.args.bytes.now c.args.offset c.in_ok-count.count c.in_ok-count.content.now c.in_ok-count.next c.in_ok-count.ensures o c.args.form.now c.args.changes c.args.before.now
    c.in_ok-rows.rows.items form changes same direct c.in_ok-rows.ensures.rows c.in_ok-rows.ensures.many
