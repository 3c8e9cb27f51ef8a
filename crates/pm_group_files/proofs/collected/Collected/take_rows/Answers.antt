use Rattle.std.proofs.Common.{sym, subst, ◌∙◌}
use Rattle.pm_engine.specs.Covers.{IsRising}
use Rattle.pm_scan_rows.specs.Group.{reads_of}
use Rattle.pm_group_files.specs.Collected.{collected_of}
use Rattle.pm_group_files.proofs.RowLemmas.{rising_none, rows_from}
use Rattle.pm_group_files.proofs.collected.Collected.take_rows.Goals as goal

pub invariant_of-self : goal.invariant_of-self
invariant_of-self c = record {
  groups = c.self.invariant.groups;
  runs = c.self.invariant.runs;
  rows = subst IsRising (sym (c.replace-before.ensures.after ∙ c.new.ensures)) rising_none;
}

pub returns-clause-takes : goal.returns-clause-takes
returns-clause-takes c =
    rows_from c.args.job.now c.args.bytes c.args.self.now _
    (collected_of c.self.inside.schema (reads_of c.self.inside.groups.items) c.self.inside.runs.items c.self.inside.kept.items c.self.inside.run)
    c.replace-before.result c.in_ok-self-inside.field-0 c.self.view_is c.replace-before.ensures.value c.in_ok-self-inside.ensures.more c.in_ok-close.ensures
