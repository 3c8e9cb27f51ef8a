-- The snapshot of a commit that appends rows.
use Rattle.std.specs.Prelude.{◌+◌, pos, List, ◌++◌, Some}
use Rattle.pm_schema.specs.declared.schema.TableSchema.{TableSchema}
use Rattle.pm_snapshot.specs.declared.commit_kind.CommitKind.TheVariants as kinds
use Rattle.pm_snapshot.specs.declared.snapshot.Snapshot.{Snapshot}
use Rattle.pm_manifest.specs.declared.entry.Entry.{Entry}
use Rattle.pm_model_folder.specs.Entries.{rows_in_files}
use Rattle.pm_made.specs.Refusals.{fence_of}
use Rattle.pm_made.specs.Snapshot.{appends_of, full_of, watermark_of}
use Rattle.pm_made.specs.declared.newest.Author.{Author}
use Rattle.pm_made.specs.declared.newest.Newest.{Newest}
use Rattle.pm_made.specs.declared.snapshot.ListNames.{ListNames}

-- The snapshot after the newest that appends rows with these new files and these changelog files: no file goes.
abbrev pub append_snapshot : TableSchema → Newest → Author → List Entry → List Entry → ListNames → Snapshot
append_snapshot s newest author added changes names = record {
  id = newest.id + 1;
  schema_id = s.id;
  base_list = names.base;
  delta_list = names.delta;
  changelog_list = names.changes;
  user = author.user;
  ident = author.identifier;
  kind = kinds.Append;
  time = author.time;
  total = pos (rows_in_files (newest.live.items ++ added));
  delta = pos (rows_in_files added);
  changelog = Some (pos (rows_in_files changes));
  watermark = watermark_of newest.snapshot;
  base = author.base;
  fence = fence_of newest.snapshot;
  appends = appends_of newest.snapshot + 1;
  full = full_of newest.snapshot;
}
