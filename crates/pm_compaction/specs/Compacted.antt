-- What the folder has once a compaction is published.
use Rattle.std.specs.Prelude.{◌≡◌, suc, ◌+◌, ◌≤◌, List, [], length, map, true, false, None}
use Rattle.std.specs.List.{AllByRecursion}
use Rattle.pm_store.specs.Files.{Files}
use Rattle.pm_values.specs.declared.group.Group.{Group}
use Rattle.pm_schema.specs.declared.schema.TableSchema.{TableSchema}
use Rattle.pm_model_history.specs.History.{Entry}
use Rattle.pm_manifest.specs.declared.entry.Entry as files
use Rattle.pm_model_contents.specs.Lists.{HaveEntries}
use Rattle.pm_model_contents.specs.Named.{Contents}
use Rattle.pm_runs.specs.Succession.{Follows, KnownRun}
use Rattle.pm_model_folder.specs.Commits.{HasCommit}
use Rattle.pm_model_folder.specs.Ledger.{Past}
use Rattle.pm_model_folder.specs.Runs.{AreInFiles}
use Rattle.pm_made.specs.Delta.{adding, entries_of, is_of_any}
use Rattle.pm_made.specs.Files.{delta_of_plan, merges}
use Rattle.pm_made.specs.Snapshot.{new_snapshot}
use Rattle.pm_made.specs.declared.intent.Intent.TheVariants as intents
use Rattle.pm_made.specs.declared.intent.Plan.{Plan}
use Rattle.pm_made.specs.declared.newest.Author.{Author}
use Rattle.pm_made.specs.declared.newest.Newest.{Newest}
use Rattle.pm_made.specs.declared.snapshot.ListNames.{ListNames}

-- ---- what becomes of a group's runs

-- a group's runs at the snapshot of an entry that comes after these: those that its files have, and they follow by the
-- entry those that are known of the snapshot before
pub record GoesOnWith (after : Files) (s : TableSchema) (entries : List Entry) (e : Entry) (p : Past) (g : Group)
    : Type 0 where
  pub runs : List KnownRun
  pub are : AreInFiles after s (suc (length entries)) g runs
  pub follow : Follows s g p.since (λ n. p.runs n g) (length entries) e runs

-- ---- what the snapshot is

-- The snapshot after the newest is there, and to its last field the one of a compaction by the plan. Its base list has
-- the manifests of the newest one, or one with the entries of all files that were live, if there were any; its delta
-- takes the plan's files away, each of which was live, and then adds those that were made; its changelog has the plan's
-- changelog files, and where there are none it has no list.
pub record HasCompacted (f : Files) (s : TableSchema) (newest : Newest) (author : Author) (plan : Plan) : Type 0 where
  pub lists : ListNames
  pub contents : Contents
  pub commit : HasCommit f s (newest.id + 1)
      (new_snapshot s newest author (intents.Compact plan) (delta_of_plan plan) lists) contents
  pub kept : merges s newest.manifests.items ≡ false → contents.base ≡ newest.manifests.items
  pub merged : merges s newest.manifests.items ≡ true
      → HaveEntries f s contents.base newest.live.items × (length contents.base ≤ 1)
  pub delta : HaveEntries f s contents.delta (entries_of (delta_of_plan plan))
  pub live : AllByRecursion (λ (e : files.Entry). is_of_any newest.live.items e ≡ true) plan.removed.items
  pub tells : contents.changes ≡ map adding plan.changes.items
  pub unlisted : plan.changes.items ≡ [] → lists.changes ≡ None
