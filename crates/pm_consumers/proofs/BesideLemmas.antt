-- What a listing of consumers makes known, whatever others do.
use Rattle.pm_values.specs.declared.refusal.Refusal.{Refusal}
use Rattle.pm_store.specs.Store.{StoreView}
use Rattle.pm_machine.specs.Moves.{IsKept, Moves}
use Rattle.pm_model_folder.specs.Ledger.{Stands}
use Rattle.pm_read_schema.specs.Beside.{AnyPast, IsTold, Learns}
use Rattle.pm_read_schema.proofs.BesideFacts.{PastStays, learns-moves, learns-none}

pub first-learned : (store : StoreView) → Learns AnyPast AnyPast store store
first-learned store = learns-none AnyPast store

pub more-learned : PastStays → (first before after : StoreView) → Learns AnyPast AnyPast first before → Moves Stands IsKept AnyPast AnyPast before after
    → Learns AnyPast AnyPast first after
more-learned past first before after = learns-moves past AnyPast AnyPast AnyPast first before after (λ other f after p q stands advances known. tt)

pub refused-learned : PastStays → (refusal : Refusal) (first before after : StoreView) → Learns AnyPast AnyPast first before
    → Moves Stands IsKept AnyPast (IsTold refusal) before after → Learns AnyPast (IsTold refusal) first after
refused-learned past refusal first before after =
    learns-moves past AnyPast AnyPast (IsTold refusal) first before after (λ other f after p q stands advances known. tt)
