use Rattle.std.proofs.Common.{◌↔◌, drop}
use Rattle.std.specs.List.{AllByRecursion}
use Rattle.pm_model_contents.specs.Lists.{IsChangelogEntry}
use Rattle.pm_read_log.proofs.log_after.are_changes.Given as goal

abbrev pub invariant-loop-entry : goal.invariant-loop-entry
invariant-loop-entry l =
    AllByRecursion IsChangelogEntry (drop l.entry-index l.entries) ↔ AllByRecursion IsChangelogEntry l.entries
