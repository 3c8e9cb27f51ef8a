use Rattle.pm_merge.specs.Merging.{rows_left}
use Rattle.pm_scan_rows.specs.Stored.{rest_of}
use Rattle.pm_scan_rows.specs.Next.{held}
use Rattle.pm_scan_rows.proofs.GivenLemmas.{Printed}
use Rattle.pm_scan_rows.proofs.print.print_all.Given as goal

-- the text so far is the lines of the rows that show of the ones that were given
abbrev pub invariant-loop-text : goal.invariant-loop-text
invariant-loop-text g l = Printed (g.E.MergeEngine.meaning l.engine) l.groups l.merging l.text.items

abbrev pub decreases-loop-text : goal.decreases-loop-text
decreases-loop-text g l = rows_left held rest_of l.merging
