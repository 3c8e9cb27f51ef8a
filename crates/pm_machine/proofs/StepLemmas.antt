-- What a step makes of a machine's answers.
use Rattle.std.proofs.Common.{◌≡◌, Option, None, Some, Result, Ok, Err, OnOk, IfErr, refl}
use Rattle.pm_values.specs.declared.refusal.Refusal.{Refusal}
use Rattle.pm_store.specs.declared.answer.Answer.{Answer}
use Rattle.pm_store.specs.declared.call.Call.{Call}
use Rattle.pm_store.specs.declared.store.StoreFail.{StoreFail}
use Rattle.pm_store.specs.declared.store.StoreFail.TheVariants as fails
use Rattle.pm_store.specs.Answers.{Tells}
use Rattle.pm_store.specs.Store.{StoreView}
use Rattle.pm_machine.specs.Step.{refusal_of, Answered, Stepped, Went, Refused, Stopped, Failed}

-- a machine that isn't at its end has a call
pub some_call : (next : Option Call) → ¬ (next ≡ None) → (call : Call) × (next ≡ Some call)
some_call None not_none = absurd (not_none refl)
some_call (Some call) not_none = (call, refl)

-- an answer was taken
pub took : {M : Type 0} {call_of : M → Option Call} {goes : M → Answer → M → Type 0}
    {refuses : M → Answer → Refusal → M → Type 0} {stops : M → M → Type 0} {old new : M} {before after : StoreView}
    (call : Call) (answer : Answer) (result : Result (Unit {0}) Refusal) → call_of old ≡ Some call →
    Answered call answer before after → OnOk result (goes old answer new) →
    IfErr result (λ refusal. refuses old answer refusal new) →
    Stepped call_of goes refuses stops old new before after result
took call answer (Ok x) is came on_ok on_err = Went call answer is came on_ok
took call answer (Err refusal) is came on_ok on_err = Refused call answer refusal is came on_err

-- none was given
pub unanswered : {M : Type 0} {call_of : M → Option Call} {goes : M → Answer → M → Type 0}
    {refuses : M → Answer → Refusal → M → Type 0} {stops : M → M → Type 0} {old new : M} {before after : StoreView}
    (call : Call) (fail : StoreFail) → call_of old ≡ Some call →
    Tells call (λ (answer : Answer). answer) before after (Err fail) → stops old new →
    Stepped call_of goes refuses stops old new before after (Err (refusal_of fail call))
unanswered call fails.Memory is meanwhile stop = Stopped call is meanwhile stop
unanswered call fails.Failed is came stop = Failed call is came stop
