-- What a commit is for, and which entry it adds.
use Rattle.std.specs.Prelude.{◌≡◌, ℕ, zero, suc, ◌+◌, ℤ, List, [], ◌++◌, length}
use Rattle.std.specs.List.{AllByRecursion}
use Rattle.pm_values.specs.declared.group.Group.{Group}
use Rattle.pm_model_history.specs.History.{Entry, append, compaction, entry_rows, fence}
use Rattle.pm_schema.specs.Folder.{FitsPartition}
use Rattle.pm_schema.specs.declared.schema.TableSchema.{TableSchema}
use Rattle.pm_manifest.specs.declared.entry.Entry as files
use Rattle.pm_model_folder.specs.Folder.{IsRowOf}
use Rattle.pm_write.specs.Batch.{GroupRows, Groups, IsBatchOf, logs_in}
use Rattle.pm_made.specs.declared.intent.Intent.{Intent}
use Rattle.pm_made.specs.declared.intent.Intent.TheVariants as intents
use Rattle.pm_made.specs.declared.newest.Author.{Author}

-- ---- its parts

-- the batch whose rows are appended; of others an empty one
abbrev pub batch_of : Intent → Groups
batch_of (intents.Append batch) = batch
batch_of other = []

-- the live files that are to go
abbrev pub removed_of : Intent → List files.Entry
removed_of (intents.Compact plan) = plan.removed.items
removed_of other = []

-- the entries of the files of rows that were made, named and created before any try: data files first
abbrev pub given_files : Intent → List files.Entry
given_files (intents.Compact plan) = plan.added.items ++ plan.changes.items
given_files other = []

-- the groups of its batch fit the table
abbrev pub FitsGroups : TableSchema → Intent → Type 0
FitsGroups s intent = AllByRecursion (λ (e : Group × GroupRows). FitsPartition s e.0) (batch_of intent)

-- how many files so many changelog files take: where there are some, their manifest and the list of it, too
abbrev pub changelog_files : ℕ → ℕ
changelog_files zero = 0
changelog_files (suc n) = suc n + 2

-- How many files a try creates at most. An append makes a data file of each group of its batch and a changelog file of
-- each that has a log, the merged manifest, that of its delta, and two lists; another has a manifest and a list of
-- changelog files, too.
abbrev pub most_files : Intent → ℕ
most_files (intents.Append batch) = length batch + 4 + changelog_files (length (logs_in batch))
most_files other = 6

-- commits are made of appends and compactions; of fences they aren't made yet
abbrev pub IsMadeFor : Intent → Type 0
IsMadeFor (intents.Fence number) = ⊥
IsMadeFor other = Unit {0}

-- ---- the entry

-- the entry appends rows, for a user with an identifier
abbrev pub IsAppendFor : List ℕ → ℤ → Entry → Type 0
IsAppendFor user identifier e = e ≡ append user identifier (entry_rows e)

-- the entry appends rows of the table, for a user with an identifier, and this is their batch
pub record AppendsBatch (s : TableSchema) (user : List ℕ) (identifier : ℤ) (batch : Groups) (e : Entry) : Type 0 where
  pub is : IsAppendFor user identifier e
  pub fit : AllByRecursion (IsRowOf s) (entry_rows e)
  pub groups : IsBatchOf s (entry_rows e) batch

-- a commit for this adds such an entry, by its author; which rows are appended is left open
abbrev pub IsEntryFor : Author → Intent → Entry → Type 0
IsEntryFor author (intents.Append batch) e = IsAppendFor author.user author.identifier e
IsEntryFor author (intents.Compact plan) e = e ≡ compaction author.base plan.groups.items
IsEntryFor author (intents.Fence number) e = e ≡ fence number

-- the entry is the one that a commit adds, by its author and by what it is for
abbrev pub Means : TableSchema → Author → Intent → Entry → Type 0
Means s author (intents.Append batch) e = AppendsBatch s author.user author.identifier batch e
Means s author (intents.Compact plan) e = IsEntryFor author (intents.Compact plan) e
Means s author (intents.Fence number) e = IsEntryFor author (intents.Fence number) e
