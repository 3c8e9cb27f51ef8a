-- What the reading of a schema makes known, from its first phase to its last.
use Rattle.std.proofs.Common.{◌≡◌, sym, subst}
use Rattle.pm_values.specs.declared.refusal.Refusal.{Refusal}
use Rattle.pm_store.specs.Store.{StoreView}
use Rattle.pm_machine.specs.Moves.{IsKept, Moves}
use Rattle.pm_model_history.specs.History.{IsTableOf}
use Rattle.pm_model_folder.specs.Ledger.{Stands}
use Rattle.pm_schema.specs.declared.schema.TableSchema.{TableSchema}
use Rattle.pm_read_schema.specs.Beside.{AnyPast, IsTold, Learns}
use Rattle.pm_read_schema.specs.Meaning.{Knows}
use Rattle.pm_read_schema.specs.declared.phase.Phase.{Phase}
use Rattle.pm_read_schema.specs.declared.phase.Phase.TheVariants as phases
use Rattle.pm_read_schema.proofs.BesideFacts.{PastStays, learns-moves, learns-none}
use Rattle.pm_read_schema.proofs.Facts.{knows_still}

pub first-learned : (m : Phase) (store : StoreView) → m ≡ phases.Schemas → Learns AnyPast (Knows m) store store
first-learned m store is = subst (λ (m : Phase). Learns AnyPast (Knows m) store store) (sym is) (learns-none AnyPast store)

pub more-learned : PastStays → (m new : Phase) (first before after : StoreView) → Learns AnyPast (Knows m) first before
    → Moves Stands IsKept (Knows m) (Knows new) before after → Learns AnyPast (Knows new) first after
more-learned past m new first before after = learns-moves past AnyPast (Knows m) (Knows new) first before after (knows_still m)

pub refused-learned : PastStays → (m : Phase) (refusal : Refusal) (first before after : StoreView) → Learns AnyPast (Knows m) first before
    → Moves Stands IsKept (Knows m) (IsTold refusal) before after → Learns AnyPast (IsTold refusal) first after
refused-learned past m refusal first before after = learns-moves past AnyPast (Knows m) (IsTold refusal) first before after (knows_still m)

pub last-learned : (m : Phase) (s : TableSchema) (first after : StoreView) → m ≡ phases.Ready s → Learns AnyPast (Knows m) first after
    → Learns AnyPast (λ f p. IsTableOf s p.history) first after
last-learned m s first after is = subst (λ (m : Phase). Learns AnyPast (Knows m) first after) is
