use Rattle.std.proofs.Common.{sym, subst}
use Rattle.std.specs.List.{All}
use Rattle.pm_engine.specs.Covers.{IsRising}
use Rattle.pm_group_files.proofs.RowLemmas.{no_groups, none_rising, rising_none}
use Rattle.pm_group_files.proofs.collected.Collected.new.Goals as goal

pub invariant_of-result : goal.invariant_of-result
invariant_of-result c = record {
  groups = no_groups c.new.result.items c.new.ensures.items;
  runs = subst (All IsRising) (sym c.new-2.ensures.items) none_rising;
  rows = subst IsRising (sym c.new-4.ensures) rising_none;
}
