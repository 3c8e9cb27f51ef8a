use Rattle.std.proofs.Common.{◌++◌}
use Rattle.pm_merged_log.proofs.MergeLemmas.{merged_lines}
use Rattle.pm_merged_log.proofs.merge.push_merged.Goals as goal

pub returns : goal.returns
returns c =
    merged_lines c.by_key_law.ensures.only c.push_packed.result (c.args.rows ++ c.args.last.now) c.pack_rows.new.rows c.sort.new.self c.args.text.now.items c.push_packed.new.text.items
    c.in_ok-pack_rows.ensures c.in_ok-sort.ensures.sorted c.in_ok-sort.ensures.stable c.sort.ensures.same c.push_packed.ensures
