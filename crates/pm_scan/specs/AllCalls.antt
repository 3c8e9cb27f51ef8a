-- All calls of a scanner of a table whose schema was read, one after another: what they are, and what they say of a
-- history that stands at the first call of that reading, where nobody else acts from then on.
use Rattle.std.specs.Prelude.{◌≡◌, ℕ, zero, suc, ◌<◌, ◌≤◌, List, ◌++◌, length, Option, None, Some, IsSome, Result, Ok, Err}
use Rattle.std.specs.Prelude.{IfOk, IfErr, Vec}
use Rattle.std.specs.FinMap as map
use Rattle.std.specs.Global.{Global}
use Rattle.pm_base.specs.Faults.{Rose}
use Rattle.pm_values.specs.declared.refusal.Refusal.{Refusal}
use Rattle.pm_values.specs.declared.refusal.Refusal.TheVariants as refusals
use Rattle.pm_store.specs.Files.{Files}
use Rattle.pm_store.specs.Store.{StoreView, FromFirst}
use Rattle.pm_machine.specs.Trace.{Event}
use Rattle.pm_model_history.specs.History.{History, IsTableOf, no_table, table}
use Rattle.pm_model_history.specs.Merged.{scan_text}
use Rattle.pm_schema.specs.declared.schema.TableSchema.{TableSchema}
use Rattle.pm_engine.specs.Covers.{Run}
use Rattle.pm_engine.specs.OfSchema.{meaning_of}
use Rattle.pm_scan_rows.specs.Shown.{PrintsGroups}
use Rattle.pm_model_folder.specs.Folder.{Folder}
use Rattle.pm_model_folder.specs.Ledger.{count_of}
use Rattle.pm_model_folder.specs.Paths.{origin_path, snapshot_path}
use Rattle.pm_read_schema.specs.AllCalls.{HasFiles, Stay}
use Rattle.pm_read_schema.specs.Trace as schema
use Rattle.pm_read_schema.specs.declared.phase.Phase.TheVariants as readers
use Rattle.pm_scan.specs.Asked.{AskedRows, asked_at}
use Rattle.pm_scan.specs.Rows.{rows_at}
use Rattle.pm_scan.specs.Trace.{HasScan, Shows}
use Rattle.pm_scan.specs.declared.rows.Rows.{Rows}
use Rattle.pm_scan.specs.declared.rows.Rows.TheVariants as shown

-- the schema was read
abbrev pub Has : TableSchema → List Event → Type 0
Has s own = schema.Did (readers.Ready s) own

-- the text of an answer, wherever it lies in memory
abbrev pub text_in : Result (Vec ℕ Global) Refusal → Result (List ℕ) Refusal
text_in (Ok text) = Ok text.items
text_in (Err refusal) = Err refusal

-- The calls of a scan by its answer: from those that read the schema they go on to those of the scan, which has this
-- text, or which show the refusal.
abbrev pub Ends : AskedRows → Result (List ℕ) Refusal → List Event → Type 0
Ends a (Ok text) own = (id : ℕ) × HasScan a id text own
Ends a (Err refusal) own = Shows a refusal own

-- a refusal that names a snapshot names the one that is asked for, if one is
abbrev pub NamesAsked : Option ℕ → Refusal → Type 0
NamesAsked at (refusals.NoSnapshot id latest) = at ≡ Some id
NamesAsked at (refusals.Expired id) = (asked : ℕ) → at ≡ Some asked → id ≡ asked
NamesAsked at other = Unit {0}

abbrev pub DidScan : TableSchema → Option ℕ → Result (List ℕ) Refusal → List Event → Type 0
DidScan s at result own = (earlier later : List Event) × Has s earlier × (own ≡ earlier ++ later)
    × Ends (asked_at s at) result later

-- Both are texts of the same runs: these make one text where their rows are those of a table, and may make several
-- where rows of a key have no meaning together.
abbrev pub PrintAlike : Result (List ℕ) Refusal → Result (List ℕ) Refusal → Type 0
PrintAlike (Ok text) (Ok other) = (s : TableSchema) × (groups : List (List Run))
    × PrintsGroups (meaning_of s) groups text × PrintsGroups (meaning_of s) groups other
PrintAlike one other = ⊥

-- the id that is asked for, where this is the latest
abbrev pub id_of : Option ℕ → ℕ → ℕ
id_of None latest = latest
id_of (Some id) latest = id

-- the path of a snapshot's file: that of the origin at 0
abbrev pub path_of : TableSchema → ℕ → List ℕ
path_of s zero = origin_path s
path_of s (suc id) = snapshot_path (suc id)

-- the snapshot is one of the history's, and its file is there
abbrev pub IsThere : Files → TableSchema → History → ℕ → Type 0
IsThere f s h id = (id ≤ count_of h) × IsSome (map.get f (path_of s id))

-- the text is the scan of the rows of the history's table at the snapshot that is asked for
abbrev pub PrintsRows : Rows → History → Option ℕ → List ℕ → Type 0
PrintsRows rows no_table at text = ⊥
PrintsRows rows (table s entries) at text =
    text ≡ scan_text s (rows_at rows s entries (id_of at (length entries)))

-- it is the scan of the table there
abbrev pub PrintsScan : History → Option ℕ → List ℕ → Type 0
PrintsScan h at text = PrintsRows shown.All h at text

-- What a refusal needs where the files stand for this history: the snapshot that is asked for is above the latest, or
-- has gone; a fault of the store was counted; or memory ran out.
abbrev pub IsCaused : Files → TableSchema → History → Option ℕ → StoreView → StoreView → Refusal → Type 0
IsCaused f s h at first after refusals.Memory = Unit {0}
IsCaused f s h at first after (refusals.StoreFault path) = Rose first.faults after.faults
IsCaused f s h at first after (refusals.NoSnapshot id latest) = (at ≡ Some id) × (latest ≡ count_of h) × (latest < id)
IsCaused f s h at first after (refusals.Expired id) =
    (at ≡ Some id) × (id ≤ count_of h) × (map.get f (path_of s id) ≡ None)
IsCaused f s h at first after other = ⊥

-- What a scan is where the files stand for a history at the first call, and nobody else acts from then on: the files
-- stay, the text is the scan of the rows at the snapshot, which is there, and a refusal has its cause.
pub record ScansRows (rows : Rows) (f : Files) (h : History) (s : TableSchema) (at : Option ℕ)
    (first after : StoreView) (result : Result (List ℕ) Refusal) : Type 0 where
  pub files : Stay f first after
  pub schema : IsTableOf s h
  pub there : IfOk result (λ _. IsThere f s h (id_of at (count_of h)))
  pub text : IfOk result (PrintsRows rows h at)
  pub cause : IfErr result (IsCaused f s h at first after)

-- of all rows
abbrev pub ScansTable : Files → History → TableSchema → Option ℕ → StoreView → StoreView → Result (List ℕ) Refusal
    → Type 0
ScansTable f h s at first after result = ScansRows shown.All f h s at first after result

-- what it promises of histories, from the first call on
abbrev pub ScansTables : TableSchema → Option ℕ → StoreView → StoreView → Result (List ℕ) Refusal → Type 0
ScansTables s at before after result =
    FromFirst (λ first after. (f : Files) (h : History) → HasFiles f first → Folder f h
    → ScansTable f h s at first after result) before after

-- what the calls after the schema promise of histories of its table, from the first of them on
abbrev pub ScansOf : TableSchema → Option ℕ → StoreView → StoreView → Result (List ℕ) Refusal → Type 0
ScansOf s at before after result =
    FromFirst (λ first after. (f : Files) (h : History) → HasFiles f first → Folder f h → IsTableOf s h
    → ScansTable f h s at first after result) before after

-- the same where the rows that are passed on at a snapshot are asked for
abbrev pub PassesOf : TableSchema → ℕ → StoreView → StoreView → Result (List ℕ) Refusal → Type 0
PassesOf s id before after result =
    FromFirst (λ first after. (f : Files) (h : History) → HasFiles f first → Folder f h → IsTableOf s h
    → ScansRows shown.Passed f h s (Some id) first after result) before after
