-- What the listing of snapshots makes known, whatever others do.
use Rattle.std.proofs.Common.{◌≡◌, IfErr, IfOk, Some, Result, Ok, Err, ap, sym, subst}
use Rattle.pm_values.specs.declared.refusal.Refusal.{Refusal}
use Rattle.pm_store.specs.Files.{Files}
use Rattle.pm_store.specs.Store.{StoreView}
use Rattle.pm_machine.specs.Moves.{IsKept, Moves}
use Rattle.pm_schema.specs.declared.schema.TableSchema.{TableSchema}
use Rattle.pm_model_history.specs.History.{IsTableOf}
use Rattle.pm_model_folder.specs.Ledger.{Past, Stands}
use Rattle.pm_read_schema.specs.Beside.{IsTold, Learns}
use Rattle.pm_read_schema.proofs.BesideFacts.{PastStays, learns-moves, learns-none, learns-weaker}
use Rattle.pm_snapshots.specs.AllCalls.{AreLinesIn, ListsBeside}
use Rattle.pm_snapshots.specs.Lister.{IsDone, lines_of, schema_at}
use Rattle.pm_snapshots.specs.Meaning.{Knows}
use Rattle.pm_snapshots.specs.declared.phase.Phase.{Phase}
use Rattle.pm_snapshots.specs.declared.phase.Phase.TheVariants as phases
use Rattle.pm_snapshots.proofs.Facts.{knows_still}

pub first_learned : (m : Phase) (store : StoreView) → Learns (Knows m) (Knows m) store store
first_learned m store = learns-none (Knows m) store

pub more_learned : PastStays → (start m new : Phase) (first before after : StoreView) → Learns (Knows start) (Knows m) first before
    → Moves Stands IsKept (Knows m) (Knows new) before after → Learns (Knows start) (Knows new) first after
more_learned past start m new first before after = learns-moves past (Knows start) (Knows m) (Knows new) first before after (knows_still m)

pub refused_learned : PastStays → (start m : Phase) (refusal : Refusal) (first before after : StoreView) → Learns (Knows start) (Knows m) first before
    → Moves Stands IsKept (Knows m) (IsTold refusal) before after → Learns (Knows start) (IsTold refusal) first after
refused_learned past start m refusal first before after =
    learns-moves past (Knows start) (Knows m) (IsTold refusal) first before after (knows_still m)

one_some : (s t : TableSchema) → Some s ≡ Some t → s ≡ t
one_some s t is = cc

lines_known : (m : Phase) (s : TableSchema) (f : Files) (p : Past) → IsDone m → schema_at m ≡ Some s → Knows m f p → AreLinesIn s (lines_of m) p
lines_known (phases.Schema r) s f p done had known = absurd done
lines_known (phases.List t) s f p done had known = absurd done
lines_known (phases.Read r) s f p done had known =
    (subst (λ (s : TableSchema). IsTableOf s p.history) (one_some r.schema s had) known.table, known.lines)
lines_known phases.Over s f p done had known = absurd done

pub last_learned : (start m : Phase) (s : TableSchema) (first after : StoreView) → IsDone m → schema_at m ≡ Some s
    → Learns (Knows start) (Knows m) first after → Learns (Knows start) (λ f p. AreLinesIn s (lines_of m) p) first after
last_learned start m s first after done had =
    learns-weaker (Knows start) (Knows start) (Knows m) (λ f p. AreLinesIn s (lines_of m) p) first after (λ f p known. known)
    (λ f p stands known. lines_known m s f p done had known)

-- from a schema that was read
pub listed_beside : (s : TableSchema) (m : Phase) (made : Result Phase Refusal) (before after : StoreView) → m ≡ phases.List s
    → ((s : TableSchema) → schema_at m ≡ Some s → IfOk made (λ new. Learns (Knows m) (λ f p. AreLinesIn s (lines_of new) p) before after))
    → IfOk made (λ new. ListsBeside s (lines_of new) before after)
listed_beside s m (Err e) before after is learned = tt
listed_beside s m (Ok new) before after is learned =
    learns-weaker (λ f p. IsTableOf s p.history) (Knows m) (λ f p. AreLinesIn s (lines_of new) p) (λ f p. AreLinesIn s (lines_of new) p) before after
    (λ f p known. subst (λ (m : Phase). Knows m f p) (sym is) known) (λ f p stands known. known) (learned s (ap schema_at is))

pub refused_beside : (s : TableSchema) (m : Phase) (made : Result Phase Refusal) (before after : StoreView) → m ≡ phases.List s
    → IfErr made (λ refusal. Learns (Knows m) (IsTold refusal) before after)
    → IfErr made (λ refusal. Learns (λ f p. IsTableOf s p.history) (IsTold refusal) before after)
refused_beside s m (Ok new) before after is learned = tt
refused_beside s m (Err refusal) before after is learned =
    learns-weaker (λ f p. IsTableOf s p.history) (Knows m) (IsTold refusal) (IsTold refusal) before after
    (λ f p known. subst (λ (m : Phase). Knows m f p) (sym is) known) (λ f p stands told. told) learned
