-- Which calls a registrar made, one step after another.
use Rattle.std.proofs.Common.{◌≡◌, List, [], Ok, Err, refl, sym, subst, arith}
use Rattle.pm_values.specs.declared.refusal.Refusal.{Refusal}
use Rattle.pm_store.specs.Store.{StoreView, IsLater}
use Rattle.pm_machine.specs.Trace.{Event, HasTrace}
use Rattle.pm_machine.proofs.Facts.{HasTrace-acts, Traces-none}
use Rattle.pm_register.specs.AllCalls.{DidRegister}
use Rattle.pm_register.specs.Registrar.{Reaches, Registering, calls_left, registration_of}
use Rattle.pm_register.specs.Trace.{Did, HasSettled, RegistrarActed}
use Rattle.pm_register.specs.declared.phase.Phase.{Phase}
use Rattle.pm_register.specs.declared.phase.Phase.TheVariants as phases
use Rattle.pm_register.specs.declared.registrar.RegisterStep.{RegisterStep}
use Rattle.pm_register.specs.declared.registrar.RegisterStep.TheVariants as steps

-- none were made
pub begun : (r : Registering) (m : Phase) (store : StoreView) → m ≡ phases.New r.found (registration_of r) → HasTrace (Did r m) store store
begun r m store is = subst (λ (m : Phase). HasTrace (Did r m) store store) (sym is) ([], ((refl, refl), refl), Traces-none store)

-- a step that went on
pub went : (r : Registering) (m new : Phase) (first before after : StoreView) (step : RegisterStep) → HasTrace (Did r m) first before
    → RegistrarActed m new before after (Ok step) → IsLater before after → HasTrace (Did r new) first after
went r m new first before after step trace acted later =
    let t = HasTrace-acts {did = Did r m} trace (acted r) later in
    (t.0, t.1.0, t.2)

-- and one that was refused
pub refused : (r : Registering) (m new : Phase) (first before after : StoreView) (refusal : Refusal) → HasTrace (Did r m) first before
    → RegistrarActed m new before after (Err refusal) → IsLater before after → HasTrace (DidRegister r (Err refusal)) first after
refused r m new first before after refusal trace acted later =
    let t = HasTrace-acts {did = Did r m} trace (acted r) later in
    (t.0, t.1.1, t.2)

-- no call is left: it settled its consumer
did_all : (r : Registering) (step : RegisterStep) (m : Phase) (own : List Event) → Reaches step m → calls_left m ≡ 0 → Did r m own → HasSettled r own
did_all r step (phases.New found x) own reaches left did = absurd (let clash : 3 ≡ 0 = left in omega (arith, clash))
did_all r step (phases.Floors x) own reaches left did = absurd (let clash : 2 ≡ 0 = left in omega (arith, clash))
did_all r step (phases.Settle x) own reaches left did = absurd (let clash : 1 ≡ 0 = left in omega (arith, clash))
did_all r step phases.Settled own reaches left did = did
did_all r steps.More phases.Over own reaches left did = absurd reaches
did_all r steps.Settled phases.Over own reaches left did = absurd (let clash = reaches in cc)

pub ended : (r : Registering) (step : RegisterStep) (m : Phase) (first after : StoreView) → Reaches step m → calls_left m ≡ 0 → HasTrace (Did r m) first after
    → HasTrace (DidRegister r (Ok tt)) first after
ended r step m first after reaches left (own, did, trace) = (own, did_all r step m own reaches left did, trace)
