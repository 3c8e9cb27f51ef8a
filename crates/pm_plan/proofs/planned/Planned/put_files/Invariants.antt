use Rattle.std.proofs.Common.{◌≡◌, ◌++◌, map}
use Rattle.std.specs.Vec.Iter.{into_iter_items}
use Rattle.pm_run.specs.declared.run.RunFile.{RunFile}
use Rattle.pm_choice.specs.Choice.{live_entry}
use Rattle.pm_compaction.specs.Plan.{group_file}
use Rattle.pm_plan.proofs.planned.Planned.put_files.Given as goal

-- the entries and the files so far, and those that are left
abbrev pub invariant-loop-file : goal.invariant-loop-file
invariant-loop-file l = record {
  added : l.self.added.items ++ map (λ (x : RunFile). live_entry l.fn.self.schema l.group x.meta) (into_iter_items l.file-iterator)
      ≡ l.fn.self.added.items ++ map (λ (x : RunFile). live_entry l.fn.self.schema l.group x.meta) l.fn.made.items;
  files : l.self.files.items ++ map (group_file l.fn.self.schema l.group) (into_iter_items l.file-iterator)
      ≡ l.fn.self.files.items ++ map (group_file l.fn.self.schema l.group) l.fn.made.items;
  same : l.self ≡ record l.fn.self { added = l.self.added; files = l.self.files };
}
