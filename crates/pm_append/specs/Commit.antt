-- When a try of `pm_made` to append a batch adds its entry to the history, once it is published.
use Rattle.std.specs.Prelude.{◌≡◌, ◌≢◌, ℕ, suc, ◌+◌, ◌≤◌, List, [], ◌∷◌, length, Contains}
use Rattle.std.specs.Prelude.{Bool, true, false, None}
use Rattle.std.specs.List.{AllByRecursion}
use Rattle.pm_store.specs.Files.{Files}
use Rattle.pm_values.specs.Names.{Naming}
use Rattle.pm_values.specs.declared.file_meta.FileMeta.{FileMeta}
use Rattle.pm_values.specs.declared.group.Group.{Group}
use Rattle.pm_model_history.specs.History.{Entry, append}
use Rattle.pm_model_history.specs.Merge.{HistoryRow}
use Rattle.pm_engine.specs.Covers.{CoversAll}
use Rattle.pm_engine.specs.OfSchema.{meaning_of}
use Rattle.pm_options.specs.declared.kinds.Producer.{Producer}
use Rattle.pm_options.specs.declared.kinds.Producer.TheVariants as producers
use Rattle.pm_schema.specs.Again.{IsDeclared}
use Rattle.pm_schema.specs.declared.schema.TableSchema.{TableSchema}
use Rattle.pm_model_following.specs.Groups.{rows_in}
use Rattle.pm_levels.specs.Runs.{RunView}
use Rattle.pm_manifest.specs.declared.entry.Entry as files
use Rattle.pm_manifest.specs.declared.entry.ManifestMeta.{ManifestMeta}
use Rattle.pm_model_contents.specs.Lists.{HaveEntries, IsManifest}
use Rattle.pm_model_contents.specs.Named.{Contents}
use Rattle.pm_model_contents.specs.Runs.{data_path}
use Rattle.pm_model_folder.specs.Changes.{Actor, IsNamedBy}
use Rattle.pm_model_folder.specs.Commits.{HasCommit, Names}
use Rattle.pm_model_folder.specs.Entries.{rows_in_files}
use Rattle.pm_model_folder.specs.Folder.{HasTable}
use Rattle.pm_model_folder.specs.Runs.{AreRunsAt, view_of}
use Rattle.pm_model_folder.specs.Stored.{HasRun}
use Rattle.pm_put.specs.Meaning.{IsPut}
use Rattle.pm_runs.specs.Succession.{KnownRun, without_files}
use Rattle.pm_write.specs.Batch.{Groups, IsBatchOf}
use Rattle.pm_made.specs.Commit.{Attempt, IsNewestOf, MakesNames}
use Rattle.pm_made.specs.Files.{IsMadeOf, merges}
use Rattle.pm_made.specs.Refusals.{refusal_of}
use Rattle.pm_made.specs.declared.intent.Intent.TheVariants as intents
use Rattle.pm_made.specs.declared.newest.Author.{Author}
use Rattle.pm_made.specs.declared.newest.Made.{Made}
use Rattle.pm_made.specs.declared.newest.Newest.{Newest}
use Rattle.pm_made.specs.declared.snapshot.ListNames.{ListNames}
use Rattle.pm_append.specs.Snapshot.{append_snapshot}

-- one try to append: the rows and their batch, who commits them, the newest snapshot as it was found, the maker of
-- names before it named the files, and what was made
pub record Try : Type 0 where
  pub rows : List HistoryRow
  pub batch : Groups
  pub author : Author
  pub newest : Newest
  pub names : Naming
  pub made : Made

-- the try of a commit, whose intent is to append the batch
abbrev pub attempt_of : Try → Attempt
attempt_of t = record {
  intent = intents.Append t.batch;
  author = t.author;
  newest = t.newest;
  names = t.names;
  made = t.made;
}

-- the entry that it adds
abbrev pub entry_of : Try → Entry
entry_of t = append t.author.user t.author.identifier t.rows

-- The try can be published by an actor while the newest snapshot stands: its files are in place, and no snapshot names
-- a file that the actor named.
pub record IsReady (me : Actor) (f : Files) (s : TableSchema) (entries : List Entry) (t : Try) : Type 0 where
  pub folder : HasTable f s entries
  pub declared : IsDeclared s
  pub newest : IsNewestOf f s entries t.newest
  pub batch : IsBatchOf s t.rows t.batch
  pub made : IsMadeOf s t.newest t.author (intents.Append t.batch) t.names t.made
  pub allowed : refusal_of t.newest t.author (intents.Append t.batch) ≡ None
  pub base : t.author.base ≤ t.newest.id
  pub maker : MakesNames me (attempt_of t)
  pub there : AllByRecursion (IsPut f) t.made.files.items
  pub unnamed : (id : ℕ) (path : List ℕ) → 1 ≤ id → id ≤ length entries → Names f s id path → IsNamedBy me path → ⊥

-- ---- what the folder has then

-- one manifest has the entries of all files that are live at the newest snapshot; or none where no file is live
abbrev pub AreMerged : Files → TableSchema → Newest → List ManifestMeta → Type 0
AreMerged f s newest [] = newest.live.items ≡ []
AreMerged f s newest (meta ∷ []) = (newest.live.items ≢ []) × IsManifest f s meta.name newest.live.items
AreMerged f s newest metas = ⊥

-- the manifests of the base list after the newest snapshot: those of its two lists, or what they are merged into where
-- they are so many
abbrev pub AreBaseIf : Bool → Files → TableSchema → Newest → List ManifestMeta → Type 0
AreBaseIf false f s newest metas = metas ≡ newest.manifests.items
AreBaseIf true f s newest metas = AreMerged f s newest metas

abbrev pub AreBase : Files → TableSchema → Newest → List ManifestMeta → Type 0
AreBase f s newest metas = AreBaseIf (merges s newest.manifests.items) f s newest metas

-- the entry adds a file at level 0
pub record AddsAtZero (e : files.Entry) : Type 0 where
  pub add : e.add ≡ true
  pub level : e.file.level ≡ 0

-- how many rows are told of so many that are appended: with the producer of inputs each of them, with others none
abbrev pub told_count : Producer → ℕ → ℕ
told_count producers.Input count = count
told_count producer count = 0

-- The snapshot after the newest is there, and to its last field the one that appends so many rows: its base list has
-- the manifests of the newest one, or what they are merged into; its delta adds files at level 0 and nothing else, and
-- these have at most so many rows. Its changelog files tell each row once, where the table passes its input on; where
-- they tell none it has no changelog list.
pub record HasAppended (f : Files) (s : TableSchema) (newest : Newest) (author : Author) (count : ℕ) : Type 0 where
  pub added : List files.Entry
  pub lists : ListNames
  pub contents : Contents
  pub commit : HasCommit f s (newest.id + 1) (append_snapshot s newest author added contents.changes lists) contents
  pub base : AreBase f s newest contents.base
  pub delta : HaveEntries f s contents.delta added
  pub adds : AllByRecursion AddsAtZero added
  pub few : rows_in_files added ≤ count
  pub tells : rows_in_files contents.changes ≡ told_count s.options.producer count
  pub quiet : told_count s.options.producer count ≡ 0 → lists.changes ≡ None

-- ---- what becomes of a group's runs

-- What a commit that appends rows makes of a group's runs. They stay where it has no row of the group. Else one run
-- comes before them, at level 0 and of files that the actor named, and covers these rows.
pub data Grows (me : Actor) (f after : Files) (s : TableSchema) (n : ℕ) (g : Group) (rows : List HistoryRow) : Type 0
  where
    stays : rows_in s g rows ≡ []
        → ((runs : List RunView) → AreRunsAt f s n g runs → AreRunsAt after s (suc n) g runs)
        → Grows me f after s n g rows
    grows : (run : KnownRun) → run.level ≡ 0 → run.newest ≡ suc n → run.files ≢ []
        → ((file : FileMeta) → Contains run.files file → IsNamedBy me (data_path s g file.name))
        → HasRun after s g (view_of run) (without_files run) → rows_in s g rows ≢ []
        → CoversAll (meaning_of s) (run.rows ∷ []) (rows_in s g rows)
        → ((runs : List RunView) → AreRunsAt f s n g runs → AreRunsAt after s (suc n) g (view_of run ∷ runs))
        → Grows me f after s n g rows
