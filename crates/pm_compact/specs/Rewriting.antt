-- A group's runs that are made into one, file by file.
use Rattle.std.specs.Prelude.{◌≡◌, ◌⊎◌, ℕ, ◌+◌, List, [], ◌∷◌, ◌++◌, Bool, All, Option, None, Some, length}
use Rattle.std.specs.List.{AllByRecursion}
use Rattle.pm_schema.specs.declared.schema.TableSchema.{TableSchema}
use Rattle.pm_values.specs.Names.{Naming}
use Rattle.pm_values.specs.declared.record.Stamped.{Stamped}
use Rattle.pm_engine.specs.Covers.{IsRising, Run}
use Rattle.pm_engine.specs.Meaning.{Meaning}
use Rattle.pm_merge.specs.Merging.{AllFit, GivesAll, HasLeft, HaveNoRow, first_refusal, rows_left, runs_in}
use Rattle.pm_merge.specs.Source.{Rest}
use Rattle.pm_merge.specs.declared.merging.Merging.{Merging}
use Rattle.pm_run.specs.Form.{form_of}
use Rattle.pm_run.specs.Writing.{AreFilesOf}
use Rattle.pm_run.specs.declared.run.RunFile.{RunFile}
use Rattle.pm_run_bytes.specs.Lying.{HasContentOf}
use Rattle.pm_run_bytes.specs.declared.place.WrittenPlace.{WrittenPlace}
use Rattle.pm_run_writer.specs.Written.{HasInHand, IsWriting}
use Rattle.pm_compact.specs.Rewritten.{AreRewritten, kept_rows, most_in_file}
use Rattle.pm_compact.specs.declared.rewriting.Rewriting.{Rewriting}

-- what is asked: of which table the files are, at which level and with which names, the next one first; what the
-- sources have to give, the oldest first; and whether the droppable rows are left out
pub record Asked : Type 0 where
  pub schema : TableSchema
  pub level : ℕ
  pub names : Naming
  pub rests : List Rest
  pub drop : Bool

abbrev pub asked_of : TableSchema → ℕ → Bool → Naming → List Rest → Asked
asked_of s level drop names rests =
    record { schema = s; level = level; names = names; rests = rests; drop = drop }

-- the files are those of the run that was asked for, the oldest first
abbrev pub AreAsked : Meaning → Asked → List RunFile → Type 0
AreAsked m asked files = AreRewritten asked.schema m asked.drop asked.level asked.names asked.rests files

-- as many rows stand in the file as may
abbrev pub IsFull : RunFile → Type 0
IsFull f = f.meta.rows ≡ most_in_file

-- Private: the row of a place
abbrev pub row_at : WrittenPlace → Option Stamped
row_at p = p.slot

-- Private: where the bytes of a row in a place are known, they are those that are written of it in a table of the
-- schema; and each source gives such ones
abbrev pub AreWrittenFor : {S : Type 0} → (S → TableSchema → Type 0) → TableSchema → Merging WrittenPlace S → Type 0
AreWrittenFor fits s merging = AllFit (λ p. HasContentOf (form_of s) p.slot p.content) (λ x. fits x s) merging

-- Of what is asked these files were given, the oldest first, and these rows are in hand, which come next. They are what
-- is kept of the rows that the sources gave so far; the files are full, but for the last where nothing is left.
pub record HasGiven {S : Type 0} (m : Meaning) (rest : S → Rest) (fits : S → TableSchema → Type 0) (asked : Asked)
    (given : List RunFile) (rows : List Stamped) (now : Naming) (w : Rewriting S) : Type 0 where
  pub rising : All IsRising (runs_in asked.rests)
  pub run : Run
  pub left : List Rest
  pub gave : GivesAll m asked.rests run left
  pub has : HasLeft m row_at rest w.merging left
  pub written : AreWrittenFor fits asked.schema w.merging
  pub filed : List Stamped
  pub same : kept_rows m asked.drop run ≡ filed ++ rows
  pub files : AreFilesOf asked.schema most_in_file asked.level asked.names filed given
  pub full : AllByRecursion IsFull given ⊎ ((rows ≡ []) × HaveNoRow left × (first_refusal left ≡ None))
  pub named : now ≡ record asked.names { count = asked.names.count + length given }
  pub hand : HasInHand asked.schema most_in_file asked.level now.session rows w.writer
  pub drops : w.drop ≡ asked.drop

-- a file was given after these; or these are all
abbrev pub GivesFile : {S : Type 0} → Meaning → (S → Rest) → (S → TableSchema → Type 0) → Asked → List RunFile
    → Option RunFile → Naming → Rewriting S → Type 0
GivesFile m rest fits asked given None now w = AreAsked m asked given × HasGiven m rest fits asked given [] now w
GivesFile m rest fits asked given (Some f) now w = HasGiven m rest fits asked (given ++ f ∷ []) [] now w

-- it can give a file: it was begun, and no call of it was refused
abbrev pub CanGive : {S : Type 0} → Rewriting S → Type 0
CanGive w = IsWriting w.writer

-- how many rows its sources still give at most
abbrev pub most_left : {S : Type 0} → (S → Rest) → Rewriting S → ℕ
most_left rest w = rows_left row_at rest w.merging
