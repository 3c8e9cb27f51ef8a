-- The files of a run that is written row by row, each handed out where it ends.
use Rattle.std.specs.Prelude.{◌≡◌, ℕ, ◌<◌, ◌≤◌, ◌^◌, List, [], length, true, Option, None, Some, option_map}
use Rattle.pm_avro_schema.specs.View as types
use Rattle.pm_record.specs.Record.{all_differ}
use Rattle.pm_schema.specs.declared.schema.TableSchema.{TableSchema}
use Rattle.pm_values.specs.Names.{Naming, name_of}
use Rattle.pm_values.specs.declared.record.Stamped.{Stamped}
use Rattle.pm_run.specs.Form.{form_of, written_fields}
use Rattle.pm_run.specs.Kinds.{run_type}
use Rattle.pm_run.specs.Order.{last_key}
use Rattle.pm_run.specs.Writing.{IsFileWith, changes_prefix, data_prefix, suffix}
use Rattle.pm_run.specs.declared.run.RunFile.{RunFile}
use Rattle.pm_run_writer.specs.Begun.{HasBegun}
use Rattle.pm_run_writer.specs.Summary.{IsSummary}
use Rattle.pm_run_writer.specs.declared.run_writer.RunWriter.{RunWriter}
use Rattle.pm_run_writer.specs.declared.writer.FileWriter.{FileWriter}

-- Private: it writes files of a table of the schema
pub record IsWriterOf (s : TableSchema) (w : FileWriter) : Type 0 where
  pub form : w.form ≡ form_of s
  pub id : w.schema_id ≡ s.id

-- names of the fields that a table's files are written with differ, as each schema's rules have it
abbrev pub HasNames : TableSchema → Type 0
HasNames s = all_differ (written_fields (form_of s)) ≡ true

-- Private: what a writer's files are written by is that of a table, whichever it is
pub record CanWrite (w : FileWriter) : Type 0 where
  pub kind : types.view w.kind ≡ run_type w.form
  pub differ : all_differ (written_fields w.form) ≡ true

-- Private: in the place stands the last of the rows, if there is one, as far as its key tells
abbrev pub IsLastOf : List Stamped → Option Stamped → Type 0
IsLastOf rows last = option_map (λ (x : Stamped). x.key) last ≡ last_key None rows

-- a writer can end its file: it was begun, and no call of it was refused
pub record CanEnd (w : RunWriter) : Type 0 where
  pub writer : CanWrite w.writer
  pub within : w.file.count ≤ 1024
  pub positive : 1 ≤ w.limit
  pub bits : w.limit < 2 ^ 64

-- a writer can take a row: it was begun, no call of it was refused, and the file in hand has room
pub record IsWriting (w : RunWriter) : Type 0 where
  pub begun : CanEnd w
  pub room : w.summary.count < w.limit

-- These rows are in the file in hand of a writer of a table's files, each of at most so many rows, at a level, with the
-- marker.
pub record HasInHand (s : TableSchema) (limit level : ℕ) (marker : List ℕ) (rows : List Stamped)
    (w : RunWriter) : Type 0 where
  pub writer : IsWriterOf s w.writer
  pub names : HasNames s
  pub limited : w.limit ≡ limit
  pub levelled : w.level ≡ level
  pub begun : HasBegun (form_of s) marker rows w.file
  pub summary : IsSummary rows w.summary
  pub within : length rows ≤ limit
  pub last : IsLastOf rows w.last.value.slot

-- the file of these rows was ended, with the next name, and no row is in hand
pub record HasEnded (s : TableSchema) (limit level : ℕ) (names : Naming) (rows : List Stamped) (f : RunFile)
    (w : RunWriter) : Type 0 where
  pub file : IsFileWith s level names.session (name_of data_prefix suffix names) rows f
  pub none : HasInHand s limit level names.session [] w

-- the file in hand has as many rows as a file may have
abbrev pub HasFullFile : RunWriter → Type 0
HasFullFile w = (s : TableSchema) (limit level : ℕ) (marker : List ℕ) (rows : List Stamped)
    → HasInHand s limit level marker rows w → length rows ≡ limit

-- of these rows in hand there was none, or the file of these was ended
abbrev pub HasFinished : TableSchema → ℕ → ℕ → Naming → List Stamped → Option RunFile → RunWriter → Type 0
HasFinished s limit level names rows None w = (rows ≡ []) × HasInHand s limit level names.session [] w
HasFinished s limit level names rows (Some f) w = (1 ≤ length rows) × HasEnded s limit level names rows f w

-- of these rows in hand there was none, or the changelog file of these was ended, with the next name
abbrev pub HasFinishedChanges : TableSchema → ℕ → Naming → List Stamped → Option RunFile → Type 0
HasFinishedChanges s level names rows None = rows ≡ []
HasFinishedChanges s level names rows (Some f) =
    (1 ≤ length rows) × IsFileWith s level names.session (name_of changes_prefix suffix names) rows f
