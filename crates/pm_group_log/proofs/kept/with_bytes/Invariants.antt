use Rattle.std.proofs.Common.{◌≡◌, ◌≤◌, ◌++◌, drop, length, map}
use Rattle.pm_values.specs.declared.group.Group.{Group as GroupView}
use Rattle.pm_schema.specs.Folder.{folder_text}
use Rattle.pm_schema.specs.declared.schema.TableSchema.{TableSchema as SchemaView}
use Rattle.pm_lookup.specs.Lookup.{file_in}
use Rattle.pm_group_log.specs.Told.{files_with}
use Rattle.pm_group_log.proofs.kept.with_bytes.Given as goal

-- the files so far have the first bytes, and those that are left the others
abbrev pub invariant-loop-file : goal.invariant-loop-file
invariant-loop-file l = record {
  files : (s : SchemaView) (g : GroupView) → map (file_in (folder_text s g)) l.paired.items ++ files_with s g (drop l.file-index l.files) l.bytes.items
      ≡ files_with s g l.files l.fn.bytes.items;
  left : l.bytes.items ≡ drop l.file-index l.fn.bytes.items;
  within : l.file-index ≤ length l.files;
}
