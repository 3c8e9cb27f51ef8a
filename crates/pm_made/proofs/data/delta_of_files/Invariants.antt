use Rattle.std.proofs.Common.{◌≡◌, ◌++◌, map}
use Rattle.std.specs.List.{AllByRecursion}
use Rattle.pm_schema.specs.Folder.{FitsPartition}
use Rattle.pm_write.specs.declared.files.NewFile.{NewFile}
use Rattle.pm_made.specs.Delta.{added_entry}
use Rattle.pm_made.specs.Files.{changes_of, data_file, data_of}
use Rattle.pm_made.proofs.data.delta_of_files.Given as goal

-- the entries and the files so far, and those that are left
abbrev pub invariant-loop-file : goal.invariant-loop-file
invariant-loop-file l = record {
  entries : l.entries.items ++ map (added_entry l.schema) (data_of l.file-iterator.rest.items) ≡ map (added_entry l.schema) (data_of l.fn.new_files.items);
  changes : l.changes.items ++ map (added_entry l.schema) (changes_of l.file-iterator.rest.items) ≡ map (added_entry l.schema) (changes_of l.fn.new_files.items);
  files : l.files.items ++ map (data_file l.schema) l.file-iterator.rest.items ≡ map (data_file l.schema) l.fn.new_files.items;
  folders : AllByRecursion (λ (x : NewFile). FitsPartition l.schema x.group) l.file-iterator.rest.items;
}
