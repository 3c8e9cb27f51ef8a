-- What the calls of a scan make known, whatever others do before, between and after these.
use Rattle.std.specs.Prelude.{ℕ, List, Option, Some}
use Rattle.pm_values.specs.declared.refusal.Refusal.{Refusal}
use Rattle.pm_store.specs.Files.{Files}
use Rattle.pm_store.specs.Store.{StoreView}
use Rattle.pm_machine.specs.Trace.{HasTrace}
use Rattle.pm_schema.specs.declared.schema.TableSchema.{TableSchema}
use Rattle.pm_model_history.specs.History.{IsTableOf}
use Rattle.pm_model_folder.specs.Ledger.{Past}
use Rattle.pm_read_schema.specs.Beside.{IsTold, Learns}
use Rattle.pm_scan.specs.Asked.{AskedRows, asked_for}
use Rattle.pm_scan.specs.Meaning.{IsScanOf}
use Rattle.pm_scan.specs.Trace.{HasScan}
use Rattle.pm_scan.specs.declared.rows.Rows.{Rows}
use Rattle.pm_scan.specs.declared.rows.Rows.TheVariants as shown

-- the calls since a first moment read a snapshot, and of whatever was known before the last of them the text is known
-- to be the scan of the rows at it
abbrev pub ScansOn : AskedRows → (Files → Past → Type 0) → List ℕ → StoreView → StoreView → StoreView → Type 0
ScansOn a knew text first before after =
    (id : ℕ) × HasTrace (HasScan a id text) first after × Learns knew (λ f p. IsScanOf a.rows p id text) before after

-- so the calls of a scan of a table whose schema was read
abbrev pub RowsBeside : Rows → TableSchema → Option ℕ → List ℕ → StoreView → StoreView → Type 0
RowsBeside rows s at text before after =
    ScansOn (asked_for rows s at) (λ f p. IsTableOf s p.history) text before before after

-- of all rows
abbrev pub ScansBeside : TableSchema → Option ℕ → List ℕ → StoreView → StoreView → Type 0
ScansBeside s at text before after = RowsBeside shown.All s at text before after

-- of those that are passed on at a snapshot
abbrev pub PassesBeside : TableSchema → ℕ → List ℕ → StoreView → StoreView → Type 0
PassesBeside s id text before after = RowsBeside shown.Passed s (Some id) text before after

-- the calls of a scan of a table whose schema was read are refused, and what the refusal tells is known to be so at the
-- call that shows it
abbrev pub TellsBeside : TableSchema → Refusal → StoreView → StoreView → Type 0
TellsBeside s refusal before after = Learns (λ f p. IsTableOf s p.history) (IsTold refusal) before after
