-- How far a step of a compactor comes.
use Rattle.std.proofs.Common.{◌≡◌, ◌<◌, IsSome, Result, OnErr, OnOk}
use Rattle.pm_values.specs.declared.refusal.Refusal.{Refusal}
use Rattle.pm_store.specs.Store.{StoreView}
use Rattle.pm_store.specs.declared.answer.Answer.{Answer}
use Rattle.pm_machine.specs.Running.{Refuses, Stops}
use Rattle.pm_machine.specs.Step.{Stepped, Rested, Went, Refused, Stopped, Failed}
use Rattle.pm_compactor.specs.Compactor.{Goes, GoesOn, IsCompactor, Reaches, Shown, calls_left, next_call, reached_at}
use Rattle.pm_compactor.specs.declared.phase.Phase.{Phase}
use Rattle.pm_compactor.specs.declared.phase.Phase.TheVariants as phases

-- what the law of a compactor's phases says
abbrev pub GoesAhead : Type 0
GoesAhead = (m : Phase) (answer : Answer) (later : Phase) → IsCompactor m → Goes m answer later
    → (calls_left later < calls_left m) × Reaches (reached_at later) later × GoesOn m later

abbrev pub HasCall : Type 0
HasCall = (m : Phase) → IsCompactor m → 0 < calls_left m → IsSome (next_call m)

-- one that goes on leaves fewer calls, and has reached that
pub steps-on : GoesAhead → HasCall → {old new : Phase} {before after : StoreView} {result : Result (Unit {0}) Refusal}
    → Stepped next_call Goes (Refuses Shown phases.Over) (Stops phases.Over) old new before after result → IsCompactor old → 0 < calls_left old
    → OnOk result ((calls_left new < calls_left old) × Reaches (reached_at new) new)
steps-on ahead has {old = old} {new = new} (Rested none same still) is left =
    absurd (let called = has old is left in let clash = rw none at called in cc)
steps-on ahead has {old = old} {new = new} (Went call answer at came on) is left = let so = ahead old answer new is on in (so.0, so.1)
steps-on ahead has (Refused call answer refusal at came on) is left = tt
steps-on ahead has (Stopped call at meanwhile stop) is left = tt
steps-on ahead has (Failed call at came stop) is left = tt

-- one with a refusal ends it
pub over-on : {old new : Phase} {before after : StoreView} {result : Result (Unit {0}) Refusal}
    → Stepped next_call Goes (Refuses Shown phases.Over) (Stops phases.Over) old new before after result → OnErr result (new ≡ phases.Over)
over-on (Rested none same still) = tt
over-on (Went call answer at came on) = tt
over-on (Refused call answer refusal at came on) = on.1
over-on (Stopped call at meanwhile stop) = stop
over-on (Failed call at came stop) = stop
