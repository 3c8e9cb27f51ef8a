-- The files of the run that a group's runs become.
use Rattle.std.specs.Prelude.{◌≡◌, ℕ, ◌≤◌, List, [], ◌∷◌, take, drop, Bool, true, false, None, Some}
use Rattle.std.specs.List.{AllByRecursion}
use Rattle.pm_schema.specs.declared.schema.TableSchema.{TableSchema}
use Rattle.pm_values.specs.Names.{Naming}
use Rattle.pm_values.specs.Order.{Values}
use Rattle.pm_values.specs.declared.kind.Kind.{Kind}
use Rattle.pm_values.specs.declared.record.Stamped.{Stamped}
use Rattle.pm_values.specs.declared.refusal.Refusal.{Refusal}
use Rattle.pm_engine.specs.Covers.{Run}
use Rattle.pm_engine.specs.Meaning.{Meaning}
use Rattle.pm_engine.specs.OfSchema.{meaning_of}
use Rattle.pm_merge.specs.Merge.{AreStored, IsMerge, all_rows, without_droppable}
use Rattle.pm_merge.specs.Merging.{GivesAll, HaveNoRow, first_refusal, runs_in}
use Rattle.pm_merge.specs.Source.{Rest}
use Rattle.pm_run.specs.Row.{most_sequence}
use Rattle.pm_run.specs.Rows.{HasRows}
use Rattle.pm_run.specs.Writing.{AreFilesOf, IsRun, bytes_of}
use Rattle.pm_run.specs.declared.run.RunFile.{RunFile}

-- how many rows a compacted file has at most
abbrev pub most_in_file : ℕ
most_in_file = 65536

-- whether a stored row is left out where nothing older is left depends on its kind alone
abbrev pub DropsByKind : Meaning → Type 0
DropsByKind m = (kind : Kind) (row other : Values) → m.drops (kind, row) ≡ m.drops (kind, other)

-- the rows that are kept of a run: without the droppable ones where these are left out
abbrev pub kept_rows : Meaning → Bool → Run → Run
kept_rows m true run = without_droppable m run
kept_rows m false run = run

-- the run that runs become, the oldest first: the rows that are kept of what they are merged into
abbrev pub IsRewritten : Meaning → Bool → List Run → Run → Type 0
IsRewritten m drop runs run = (merged : Run) × IsMerge m runs merged × (run ≡ kept_rows m drop merged)

-- rows of runs whose numbers are ones that files can have
abbrev pub HaveFileNumbers : List Run → Type 0
HaveFileNumbers runs = AllByRecursion (λ (x : Stamped). x.seq ≤ most_sequence) (all_rows runs)

-- all rows of the rests were given, and none of them had a refusal
abbrev pub EndsWell : Meaning → List Rest → Type 0
EndsWell m rests = (run : Run) × (last : List Rest) × GivesAll m rests run last × HaveNoRow last
    × (first_refusal last ≡ None)

-- rows of the rests were given, and then this refusal came, which stands after those of one of them
abbrev pub RefusesAfter : Meaning → List Rest → Refusal → Type 0
RefusesAfter m rests e = (run : Run) × (last : List Rest) × GivesAll m rests run last × (first_refusal last ≡ Some e)

-- each file is read as the next rows of a run: as many as a file may have, or all that are left
abbrev pub HaveOwnRows : TableSchema → List RunFile → Run → Type 0
HaveOwnRows s [] rows = rows ≡ []
HaveOwnRows s (f ∷ files) rows =
    HasRows s false f.bytes (take most_in_file rows) × HaveOwnRows s files (drop most_in_file rows)

-- The files of the run that the rests become, the oldest first, of a table at a level, with names from the next on. No
-- rest had a refusal. Where the runs were of stored rows of the table, the files are read as that run, each of them as
-- its own rows.
pub record AreRewritten (s : TableSchema) (m : Meaning) (drop : Bool) (level : ℕ) (names : Naming)
    (rests : List Rest) (made : List RunFile) : Type 0 where
  pub run : Run
  pub is : IsRewritten m drop (runs_in rests) run
  pub files : AreFilesOf s most_in_file level names run made
  pub again : m ≡ meaning_of s → AreStored m (runs_in rests) → HaveFileNumbers (runs_in rests)
      → IsRun s (bytes_of made) run × HaveOwnRows s made run
  pub ends : EndsWell m rests
