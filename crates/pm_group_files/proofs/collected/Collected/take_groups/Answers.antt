use Rattle.std.proofs.Common.{Vec, ap, ◌∙◌}
use Rattle.std.specs.Global.{Global}
use Rattle.pm_scan_rows.specs.declared.read_group.ReadGroup.{ReadGroup}
use Rattle.pm_group_files.proofs.RowLemmas.{no_groups}
use Rattle.pm_group_files.proofs.collected.Collected.take_groups.Goals as goal

pub invariant_of-self : goal.invariant_of-self
invariant_of-self c = record {
  groups = no_groups c.replace.new.dest.items (ap (λ (v : Vec ReadGroup Global). v.items) c.replace.ensures.after ∙ c.new.ensures.items);
  runs = c.self.invariant.runs;
  rows = c.self.invariant.rows;
}
