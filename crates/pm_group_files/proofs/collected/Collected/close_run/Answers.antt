use Rattle.std.proofs.Common.{sym, subst, ◌∙◌}
use Rattle.std.specs.List.{All}
use Rattle.pm_engine.specs.Covers.{IsRising}
use Rattle.pm_group_files.proofs.RowLemmas.{rising_none, rising_push}
use Rattle.pm_group_files.proofs.collected.Collected.close_run.Goals as goal

pub invariant_of-self : goal.invariant_of-self
invariant_of-self c = record {
  groups = c.self.invariant.groups;
  runs = subst (All IsRising) (sym c.in_err-push.ensures.items) c.self.invariant.runs;
  rows = subst IsRising (sym (c.replace-run.ensures.after ∙ c.new.ensures)) rising_none;
}

pub invariant_of-self-2 : goal.invariant_of-self-2
invariant_of-self-2 c = record {
  groups = c.self.invariant.groups;
  runs = rising_push c.self.inside.runs.items c.push.new.self.items c.replace-run.result c.in_ok-push.ensures.items c.self.invariant.runs
      (subst IsRising (sym c.replace-run.ensures.value) c.self.invariant.rows);
  rows = subst IsRising (sym (c.replace-run.ensures.after ∙ c.new.ensures)) rising_none;
}
