use Rattle.pm_compaction_log.proofs.UponLemmas.{upon-both, upon-copy, upon-newer, upon-older}
use Rattle.pm_compaction_log.proofs.told.upon_one.Goals as goal

pub returns-in-Newer : goal.returns-in-Newer
returns-in-Newer g c = upon-newer (g.E.MergeEngine.meaning c.args.engine.now) c.args.older.now c.args.newer c.in-Newer.ensures

pub returns-in-Older : goal.returns-in-Older
returns-in-Older g c =
    let m = g.E.MergeEngine.meaning c.args.engine.now in
    upon-copy m c.args.older.now c.args.newer c.copied.result c.copied.ensures (upon-older m c.args.older.now c.args.newer c.in-Older.ensures)

pub returns-in_ok-copy-in-Both : goal.returns-in_ok-copy-in-Both
returns-in_ok-copy-in-Both g c =
    upon-both (g.E.MergeEngine.meaning c.args.engine.now) c.args.older.now c.args.newer c.combine.result (rw c.in_ok-copy-in-Both.ensures at c.combine.ensures.combines)
