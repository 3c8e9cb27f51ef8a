-- What follows the answers to the calls of a reader of a frame.
use Rattle.std.proofs.Common.{◌≡◌, ◌⊎◌, ℕ, ◌≤◌, List, [], ◌++◌, length, Bool, true, Option, None, Some, refl, subst}
use Rattle.pm_values.specs.declared.record.Stamped.{Stamped}
use Rattle.pm_values.specs.declared.refusal.Refusal.{Refusal}
use Rattle.pm_values.specs.declared.refusal.Refusal.TheVariants as refusals
use Rattle.pm_store.specs.declared.answer.Answer.TheVariants as answers
use Rattle.pm_avro_file.specs.Reader.{Reader}
use Rattle.pm_schema.specs.declared.schema.TableSchema.{TableSchema}
use Rattle.pm_values.specs.Order.{Values}
use Rattle.pm_run.specs.Order.{are_in_order}
use Rattle.pm_run.specs.Reader.{RunView}
use Rattle.pm_run.specs.Rows.{Follow, Opened, opened_with}
use Rattle.pm_merged_log.specs.Merged.{HaveOwnKeys}
use Rattle.pm_read_table.specs.Reader.{most}
use Rattle.pm_read_log.specs.declared.log.Log.{Log}
use Rattle.pm_read_frame.specs.Reader.{Goes, ReadsOn, Starts}
use Rattle.pm_read_frame.specs.Reading.{ReadingView}
use Rattle.pm_read_frame.specs.Taken.{IsReadAs, RefusesFile, files_of}
use Rattle.pm_read_frame.specs.declared.file.ChangesFile.{ChangesFile}
use Rattle.pm_read_frame.specs.declared.phase.Phase.{Phase}
use Rattle.pm_read_frame.specs.declared.phase.Phase.TheVariants as phases

-- the files of the changelog are to be read
pub start_on : (l : Log) (files : List ChangesFile) (new : Phase) → files ≡ files_of l.schema l.changes.items → length files ≤ most
    → ReadsOn l.schema l.snapshot.id [] files new → Starts l new
start_on l files new are within on = (
  subst (λ (files : List ChangesFile). length files ≤ most) are within,
  subst (λ (files : List ChangesFile). ReadsOn l.schema l.snapshot.id [] files new) are on,
)

-- the next file was found, and its rows were put to those before
pub file_on : (r own : ReadingView) (bytes : List ℕ) (rows : List Stamped) (new : Phase) → own ≡ r → IsReadAs own.schema own.next bytes rows
    → ReadsOn own.schema own.id (own.rows ++ rows) own.rest new → Goes (phases.Files r) (answers.Found (Some bytes)) new
file_on r own bytes rows new is read on =
    let at : Goes (phases.Files own) (answers.Found (Some bytes)) new = (own.rows ++ rows, (rows, read, refl), on) in
    subst (λ (r : ReadingView). Goes (phases.Files r) (answers.Found (Some bytes)) new) is at

-- or its rows are refused
pub file_refused : (r own : ReadingView) (bytes : List ℕ) (e : Refusal) → own ≡ r → (e ≡ refusals.Memory) ⊎ RefusesFile own.schema own.next bytes e
    → (e ≡ refusals.Memory) ⊎ RefusesFile r.schema r.next bytes e
file_refused r own bytes e is refuses = subst (λ (r : ReadingView). (e ≡ refusals.Memory) ⊎ RefusesFile r.schema r.next bytes e) is refuses

-- ---- the rows of a file

-- what `own_keys_law` says, and what `order_law` says of rows that follow
abbrev pub OwnKeys : Type 0
OwnKeys = (s : TableSchema) (changes : Bool) (path : List ℕ) (r : Reader) (offset : ℕ) (before : Option Values) (rows : List Stamped) (end : Option Refusal)
    → Follow (opened_with s changes path r) offset before rows end → HaveOwnKeys s rows

abbrev pub InOrder : Type 0
InOrder = (o : Opened) (offset : ℕ) (before : Option Values) (rows : List Stamped) (end : Option Refusal) → Follow o offset before rows end
    → are_in_order o.changes before rows ≡ true

pub read_own : OwnKeys → (s : TableSchema) (file : ChangesFile) (bytes : List ℕ) (rows : List Stamped) → IsReadAs s file bytes rows → HaveOwnKeys s rows
read_own law s file bytes rows (v, (of_it, r, opens, fields, is), follow) =
    law s true file.path r r.first None rows None (subst (λ (v : RunView). Follow v.opened v.opened.file.first None rows None) is follow)

pub read_order : InOrder → (s : TableSchema) (file : ChangesFile) (bytes : List ℕ) (rows : List Stamped) → IsReadAs s file bytes rows → are_in_order true None rows ≡ true
read_order law s file bytes rows (v, (of_it, r, opens, fields, is), follow) =
    law (opened_with s true file.path r) r.first None rows None (subst (λ (v : RunView). Follow v.opened v.opened.file.first None rows None) is follow)
