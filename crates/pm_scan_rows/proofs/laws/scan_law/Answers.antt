use Rattle.pm_scan_rows.proofs.TextLemmas.{printed-scan}
use Rattle.pm_scan_rows.proofs.laws.scan_law.Goals as goal

pub returns : goal.returns
returns c = printed-scan c.covers_law.ensures.worth c.covers_law.ensures.hidden c.merged_table_law.ensures
