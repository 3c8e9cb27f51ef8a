use Rattle.pm_scan_rows.specs.Group.{reads_of, runs_read}
use Rattle.pm_scan_rows.specs.Shown.{groups_of}
use Rattle.pm_group_files.specs.Collected.{collected_of}
use Rattle.pm_group_files.proofs.RowLemmas.{rising_of}
use Rattle.pm_group_files.proofs.collected.Collected.into_runs.Goals as goal

pub returns-clause-rising : goal.returns-clause-rising
returns-clause-rising c =
    rising_of (groups_of c.loop-group.all.items) (runs_read (reads_of c.loop-group.group-iterator.rest.items))
    (collected_of c.self.inside.schema (reads_of c.self.inside.groups.items) c.self.inside.runs.items c.self.inside.kept.items c.self.inside.run)
    c.args.self c.self.view_is c.loop-group.invariant c.self.invariant.groups
