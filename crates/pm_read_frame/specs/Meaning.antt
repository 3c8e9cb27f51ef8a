-- What a reader of a frame knows of the snapshots, and what its steps mean for the files.
use Rattle.std.specs.Prelude.{◌≡◌, ◌≢◌, ℕ, List, [], ◌∷◌, ◌++◌}
use Rattle.pm_values.specs.declared.record.Stamped.{Stamped}
use Rattle.pm_store.specs.Files.{Files}
use Rattle.pm_options.specs.declared.kinds.Producer.TheVariants as producers
use Rattle.pm_schema.specs.declared.schema.TableSchema.{TableSchema}
use Rattle.pm_model_history.specs.History.{Entry, table}
use Rattle.pm_model_following.specs.Following.{frame}
use Rattle.pm_model_folder.specs.Ledger.{IsKnown, Past}
use Rattle.pm_read_table.specs.Meaning.{HasGone}
use Rattle.pm_read_log.specs.LogMeaning as log
use Rattle.pm_read_log.specs.LogMeaning.{IsLogIn}
use Rattle.pm_read_log.specs.declared.log.Log.{Log}
use Rattle.pm_read_frame.specs.Taken.{HaveTaken, files_of}
use Rattle.pm_read_frame.specs.declared.file.ChangesFile.{ChangesFile}
use Rattle.pm_read_frame.specs.declared.phase.Phase.{Phase}
use Rattle.pm_read_frame.specs.declared.phase.Phase.TheVariants as phases

-- the table has a producer, so that its snapshots tell what they change
abbrev pub HasProducer : TableSchema → Type 0
HasProducer s = s.options.producer ≢ producers.None

-- the text is the frame of a snapshot of the table, whether or not that has gone
pub record IsFrame (p : Past) (id : ℕ) (text : List ℕ) : Type 0 where
  pub schema : TableSchema
  pub entries : List Entry
  pub is_table : p.history ≡ table schema entries
  pub known : IsKnown p id
  pub is_text : HasProducer schema → text ≡ frame schema entries id

-- The changelog is that of the table's snapshot as it stood. Its files are those that were read and those that are
-- left, and the rows are those of the first, as they stood at the snapshot.
pub record HasTaken (p : Past) (l : Log) (rows : List Stamped) (left : List ChangesFile) : Type 0 where
  pub is_log : IsLogIn p l
  pub done : List ChangesFile
  pub parts : files_of l.schema l.changes.items ≡ done ++ left
  pub taken : HaveTaken (p.stood l.snapshot.id) l.schema done [] rows

-- What it knows in each phase, whatever others do: what the reader of the changelog knows; that its rows are of what
-- stood at the snapshot; once a file that the snapshot names is absent, that the snapshot has gone; and in the end that
-- its text is the snapshot's frame.
abbrev pub Knows : Phase → Files → Past → Type 0
Knows (phases.Log m) f p = log.Knows m f p
Knows (phases.Files r) f p =
    (l : Log) × (r.schema ≡ l.schema) × (r.id ≡ l.snapshot.id) × HasTaken p l r.rows (r.next ∷ r.rest)
Knows (phases.Again id path) f p = (s : TableSchema) × HasGone f p s id
Knows (phases.Ready id text) f p = IsFrame p id text.items
Knows phases.Over f p = Unit {0}
