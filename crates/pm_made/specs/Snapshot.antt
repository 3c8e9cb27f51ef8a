-- The snapshot of a commit.
use Rattle.std.specs.Prelude.{ℕ, ◌+◌, ℤ, pos, ◌++◌, Option, Some, None, unwrap_or}
use Rattle.pm_schema.specs.declared.schema.TableSchema.{TableSchema}
use Rattle.pm_snapshot.specs.declared.commit_kind.CommitKind.{CommitKind}
use Rattle.pm_snapshot.specs.declared.commit_kind.CommitKind.TheVariants as kinds
use Rattle.pm_snapshot.specs.declared.snapshot.Snapshot.{Snapshot}
use Rattle.pm_model_folder.specs.Entries.{rows_added, rows_in_files}
use Rattle.pm_made.specs.Delta.{Delta, entries_of, left_of}
use Rattle.pm_made.specs.Refusals.{fence_of}
use Rattle.pm_made.specs.declared.intent.Intent.{Intent}
use Rattle.pm_made.specs.declared.intent.Intent.TheVariants as intents
use Rattle.pm_made.specs.declared.newest.Author.{Author}
use Rattle.pm_made.specs.declared.newest.Newest.{Newest}
use Rattle.pm_made.specs.declared.snapshot.ListNames.{ListNames}

-- ---- of the newest

-- how many commits appended rows up to a snapshot, and up to the view of the last compaction that was asked in full
abbrev pub appends_of : Option Snapshot → ℕ
appends_of None = 0
appends_of (Some x) = x.appends

abbrev pub full_of : Option Snapshot → ℕ
full_of None = 0
full_of (Some x) = x.full

abbrev pub watermark_of : Option Snapshot → Option ℤ
watermark_of None = None
watermark_of (Some x) = x.watermark

-- ---- of the next, by what it is for

abbrev pub kind_of : Intent → CommitKind
kind_of (intents.Append batch) = kinds.Append
kind_of other = kinds.Compact

abbrev pub appends_after : Option Snapshot → Intent → ℕ
appends_after o (intents.Append batch) = appends_of o + 1
appends_after o other = appends_of o

-- a compaction that was asked in full bears the appends of its view
abbrev pub full_after : Option Snapshot → Intent → ℕ
full_after o (intents.Compact plan) = unwrap_or plan.full (full_of o)
full_after o other = full_of o

abbrev pub fence_after : Option Snapshot → Intent → ℤ
fence_after o (intents.Fence number) = number
fence_after o other = fence_of o

-- the snapshot after the newest, with this delta
abbrev pub new_snapshot : TableSchema → Newest → Author → Intent → Delta → ListNames → Snapshot
new_snapshot s newest author intent d names = record {
  id = newest.id + 1;
  schema_id = s.id;
  base_list = names.base;
  delta_list = names.delta;
  changelog_list = names.changes;
  user = author.user;
  ident = author.identifier;
  kind = kind_of intent;
  time = author.time;
  total = pos (rows_in_files (left_of d.removed newest.live.items ++ d.added));
  delta = rows_added (entries_of d);
  changelog = Some (pos (rows_in_files d.changes));
  watermark = watermark_of newest.snapshot;
  base = author.base;
  fence = fence_after newest.snapshot intent;
  appends = appends_after newest.snapshot intent;
  full = full_after newest.snapshot intent;
}
