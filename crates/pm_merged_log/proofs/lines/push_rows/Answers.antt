use Rattle.std.proofs.Common.{◌++◌, true, false, rules}
use Rattle.pm_scan_rows.specs.Stored.{run_left}
use Rattle.pm_merged_log.specs.Merged.{GivesLine, lines_of}
use Rattle.pm_merged_log.proofs.LineLemmas.{line_given, lines_end}
use Rattle.pm_merged_log.proofs.lines.push_rows.Goals as goal

-- a line more
pub loop-slot-preserved : goal.loop-slot-preserved
loop-slot-preserved c =
    let next : GivesLine true (run_left c.loop-slot.rows) (run_left c.push_next.new.rows) c.loop-slot.text.items c.push_next.new.text.items = search rules in
    line_given (run_left c.loop-slot.rows) (run_left c.push_next.new.rows) c.loop-slot.text.items c.push_next.new.text.items (c.args.text.now.items ++ lines_of c.args.run.now)
    next c.loop-slot.invariant

-- all rows were printed
pub returns : goal.returns
returns c =
    let next : GivesLine false (run_left c.loop-slot.rows) (run_left c.push_next.new.rows) c.loop-slot.text.items c.push_next.new.text.items = search rules in
    lines_end (run_left c.loop-slot.rows) (run_left c.push_next.new.rows) c.loop-slot.text.items c.push_next.new.text.items (c.args.text.now.items ++ lines_of c.args.run.now)
    next c.loop-slot.invariant
