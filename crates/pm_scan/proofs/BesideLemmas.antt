-- What a scan makes known, whatever others do.
use Rattle.std.proofs.Common.{◌≡◌, ℕ, IfErr, IfOk, Option, Result, Ok, Err, Vec, sym, subst}
use Rattle.std.specs.Global.{Global}
use Rattle.pm_values.specs.declared.refusal.Refusal.{Refusal}
use Rattle.pm_store.specs.Store.{StoreView}
use Rattle.pm_machine.specs.Moves.{IsKept, Moves}
use Rattle.pm_machine.specs.Trace.{HasTrace}
use Rattle.pm_schema.specs.declared.schema.TableSchema.{TableSchema}
use Rattle.pm_model_history.specs.History.{IsTableOf}
use Rattle.pm_model_folder.specs.Ledger.{Stands}
use Rattle.pm_read_schema.specs.Beside.{IsTold, Learns}
use Rattle.pm_read_schema.proofs.BesideFacts.{PastStays, learns-moves, learns-none, learns-weaker}
use Rattle.pm_read_table.specs.declared.phase.Phase.TheVariants as readers
use Rattle.pm_scan.specs.Asked.{AskedRows, asked_for}
use Rattle.pm_scan.specs.Beside.{RowsBeside, ScansOn, TellsBeside}
use Rattle.pm_scan.specs.Meaning.{IsScanOf, Knows}
use Rattle.pm_scan.specs.Trace.{Did}
use Rattle.pm_scan.specs.declared.phase.Phase.{Phase}
use Rattle.pm_scan.specs.declared.phase.Phase.TheVariants as phases
use Rattle.pm_scan.specs.declared.rows.Rows.{Rows}
use Rattle.pm_scan.proofs.Facts.{knows_still}
use Rattle.pm_scan.proofs.KeptLemmas.{Kept}

pub first-learned : (m : Phase) (store : StoreView) → Learns (Knows m) (Knows m) store store
first-learned m store = learns-none (Knows m) store

pub more-learned : PastStays → Kept → (start m new : Phase) (first before after : StoreView) → Learns (Knows start) (Knows m) first before
    → Moves Stands IsKept (Knows m) (Knows new) before after → Learns (Knows start) (Knows new) first after
more-learned past kept start m new first before after = learns-moves past (Knows start) (Knows m) (Knows new) first before after (knows_still kept m)

pub refused-learned : PastStays → Kept → (start m : Phase) (refusal : Refusal) (first before after : StoreView) → Learns (Knows start) (Knows m) first before
    → Moves Stands IsKept (Knows m) (IsTold refusal) before after → Learns (Knows start) (IsTold refusal) first after
refused-learned past kept start m refusal first before after = learns-moves past (Knows start) (Knows m) (IsTold refusal) first before after (knows_still kept m)

pub last-learned : (a : AskedRows) (start m : Phase) (k : Rows) (id : ℕ) (text : Vec ℕ Global) (begun first after : StoreView) → m ≡ phases.Ready k id text
    → HasTrace (Did a m) begun after → Learns (Knows start) (Knows m) first after → ScansOn a (Knows start) text.items begun first after
last-learned a start m k id text begun first after is (own, did, trace) learned =
    let scan = subst (λ (m : Phase). Did a m own) is did in (
      id,
      (own, scan.1, trace),
      subst (λ (k : Rows). Learns (Knows start) (λ f p. IsScanOf k p id text.items) first after) scan.0
          (subst (λ (m : Phase). Learns (Knows start) (Knows m) first after) is learned),
    )

-- of a schema that was read
pub learned-by : (k : Rows) (s : TableSchema) (at : Option ℕ) (m : Phase) (made : Result (Vec ℕ Global) Refusal) (before after : StoreView)
    → m ≡ phases.View k (readers.List (asked_for k s at).table) → HasTrace (Did (asked_for k s at) m) before before
    → ((a : AskedRows) (first : StoreView) → HasTrace (Did a m) first before → IfOk made (λ text. ScansOn a (Knows m) text.items first before after))
    → IfOk made (λ text. RowsBeside k s at text.items before after)
learned-by k s at m (Err e) before after is begun learned = tt
learned-by k s at m (Ok text) before after is begun learned =
    let (id, trace, knows) = learned (asked_for k s at) before begun in (
      id,
      trace,
      learns-weaker (λ f p. IsTableOf s p.history) (Knows m) (λ f p. IsScanOf k p id text.items) (λ f p. IsScanOf k p id text.items) before after
          (λ f p known. subst (λ (m : Phase). Knows m f p) (sym is) known) (λ f p stands known. known) knows,
    )

pub refused-by : (k : Rows) (s : TableSchema) (at : Option ℕ) (m : Phase) (made : Result (Vec ℕ Global) Refusal) (before after : StoreView)
    → m ≡ phases.View k (readers.List (asked_for k s at).table) → IfErr made (λ refusal. Learns (Knows m) (IsTold refusal) before after)
    → IfErr made (λ refusal. TellsBeside s refusal before after)
refused-by k s at m (Ok text) before after is told = tt
refused-by k s at m (Err e) before after is told =
    learns-weaker (λ f p. IsTableOf s p.history) (Knows m) (IsTold e) (IsTold e) before after
    (λ f p known. subst (λ (m : Phase). Knows m f p) (sym is) known) (λ f p stands known. known) told
