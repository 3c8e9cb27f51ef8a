-- What the reading of a frame makes known, whatever others do.
use Rattle.std.proofs.Common.{◌≡◌, ℕ, ◌≤◌, IfErr, IfOk, Result, Ok, Err, Vec, sym, subst}
use Rattle.pm_values.specs.declared.refusal.Refusal.{Refusal}
use Rattle.pm_values.specs.declared.refusal.Refusal.TheVariants as refusals
use Rattle.std.specs.Global.{Global}
use Rattle.pm_store.specs.Files.{Files}
use Rattle.pm_store.specs.Store.{StoreView}
use Rattle.pm_machine.specs.Moves.{IsKept, Moves}
use Rattle.pm_machine.specs.Trace.{HasTrace}
use Rattle.pm_schema.specs.declared.schema.TableSchema.{TableSchema}
use Rattle.pm_snapshot.specs.Names.{greatest}
use Rattle.pm_model_history.specs.History.{IsTableOf}
use Rattle.pm_model_folder.specs.Ledger.{Past, Stands, count_of}
use Rattle.pm_read_log.specs.Log.{LogAskedView, log_asked_of}
use Rattle.pm_read_log.specs.declared.log_phase.LogPhase.TheVariants as logs
use Rattle.pm_read_schema.specs.Beside.{IsTold, Learns}
use Rattle.pm_read_schema.proofs.BesideFacts.{PastStays, learns-moves, learns-none, learns-weaker}
use Rattle.pm_read_frame.specs.Meaning.{IsFrame, Knows}
use Rattle.pm_read_frame.specs.Trace.{Did}
use Rattle.pm_read_frame.specs.declared.phase.Phase.{Phase}
use Rattle.pm_read_frame.specs.declared.phase.Phase.TheVariants as phases
use Rattle.pm_read_frame.proofs.AllCallsLemmas.{begun}
use Rattle.pm_read_frame.proofs.ChangeLemmas.{ChangeKept}
use Rattle.pm_read_frame.proofs.Facts.{knows_still}

pub first-learned : (m : Phase) (store : StoreView) → Learns (Knows m) (Knows m) store store
first-learned m store = learns-none (Knows m) store

pub more-learned : PastStays → ChangeKept → (start m new : Phase) (first before after : StoreView) → Learns (Knows start) (Knows m) first before
    → Moves Stands IsKept (Knows m) (Knows new) before after → Learns (Knows start) (Knows new) first after
more-learned past stays start m new first before after = learns-moves past (Knows start) (Knows m) (Knows new) first before after (knows_still stays m)

-- the frame is that of the snapshot that is asked for
pub last-learned : (a : LogAskedView) (start m : Phase) (id : ℕ) (text : Vec ℕ Global) (begun first after : StoreView) → m ≡ phases.Ready id text
    → HasTrace (Did a m) begun after → Learns (Knows start) (Knows m) first after
    → Learns (Knows start) (λ f p. IsFrame p a.id text.items) first after
last-learned a start m id text begun first after is (own, did, trace) learned =
    subst (λ (id : ℕ). Learns (Knows start) (λ f p. IsFrame p id text.items) first after) (subst (λ (m : Phase). Did a m own) is did).0
    (subst (λ (m : Phase). Learns (Knows start) (Knows m) first after) is learned)

pub refused-learned : PastStays → ChangeKept → (start m : Phase) (refusal : Refusal) (first before after : StoreView) → Learns (Knows start) (Knows m) first before
    → Moves Stands IsKept (Knows m) (IsTold refusal) before after → Learns (Knows start) (IsTold refusal) first after
refused-learned past stays start m refusal first before after =
    learns-moves past (Knows start) (Knows m) (IsTold refusal) first before after (knows_still stays m)

-- a snapshot that was committed, of a table with this schema
abbrev IsAsked : TableSchema → ℕ → Files → Past → Type 0
IsAsked s id f p = IsTableOf s p.history × (id ≤ greatest) × (id ≤ count_of p.history)

-- of a schema that was copied, and such a snapshot
pub asked-learned : (s copy : TableSchema) (id : ℕ) (m : Phase) (knows : Files → Past → Type 0) (before after : StoreView) → copy ≡ s
    → m ≡ phases.Log (logs.Snapshot (log_asked_of copy id)) → 1 ≤ id → Learns (Knows m) knows before after → Learns (IsAsked s id) knows before after
asked-learned s copy id m knows before after same is some learned = learns-weaker (IsAsked s id) (Knows m) knows knows before after
    (λ f p known. subst (λ (m : Phase). Knows m f p) (sym is)
    (subst (λ (s : TableSchema). IsTableOf s p.history) (sym same) known.0, some, known.1, known.2))
    (λ f p stands known. known) learned

pub learned-by : (s copy : TableSchema) (id : ℕ) (m : Phase) (made : Result (Vec ℕ Global) Refusal) (before after : StoreView) → copy ≡ s
    → m ≡ phases.Log (logs.Snapshot (log_asked_of copy id)) → 1 ≤ id
    → ((a : LogAskedView) (first : StoreView) → HasTrace (Did a m) first before
    → IfOk made (λ text. Learns (Knows m) (λ f p. IsFrame p a.id text.items) before after))
    → IfOk made (λ text. Learns (IsAsked s id) (λ f p. IsFrame p id text.items) before after)
learned-by s copy id m (Err e) before after same is some learned = tt
learned-by s copy id m (Ok text) before after same is some learned =
    asked-learned s copy id m (λ f p. IsFrame p id text.items) before after same is some
    (learned (log_asked_of copy id) before (subst (λ (m : Phase). HasTrace (Did (log_asked_of copy id) m) before before) (sym is) (begun copy id before)))

-- and a refusal
pub told-by : (s copy : TableSchema) (id : ℕ) (m : Phase) (made : Result (Vec ℕ Global) Refusal) (before after : StoreView) → copy ≡ s
    → m ≡ phases.Log (logs.Snapshot (log_asked_of copy id)) → 1 ≤ id → IfErr made (λ refusal. Learns (Knows m) (IsTold refusal) before after)
    → IfErr made (λ refusal. Learns (IsAsked s id) (IsTold refusal) before after)
told-by s copy id m (Ok text) before after same is some learned = tt
told-by s copy id m (Err e) before after same is some learned = asked-learned s copy id m (IsTold e) before after same is some learned

-- memory ran out before the first call
pub none-told : (s : TableSchema) (id : ℕ) (store : StoreView) → Learns (IsAsked s id) (IsTold refusals.Memory) store store
none-told s id store = learns-weaker (IsAsked s id) (IsAsked s id) (IsAsked s id) (IsTold refusals.Memory) store store
    (λ f p known. known) (λ f p stands known. tt) (learns-none (IsAsked s id) store)
