use Rattle.std.proofs.Common.{refl, sym}
use Rattle.pm_store.proofs.StepLaws.{Meanwhile-refl}
use Rattle.pm_store.specs.Lent.{lent_call}
use Rattle.pm_store.specs.declared.store.StoreFail.TheVariants as fails
use Rattle.pm_machine.proofs.StepLemmas.{some_call}
use Rattle.pm_machine.proofs.stepping.make_call.Goals as goal

pub returns-in-Ok-None-clause-called : goal.returns-in-Ok-None-clause-called
returns-in-Ok-None-clause-called g c = (sym (rw c.in-Ok-None.field-0-is at c.in-Ok-None.ensures.call), refl)

pub returns-in-Err-clause-called : goal.returns-in-Err-clause-called
returns-in-Err-clause-called g c =
    let some = some_call (g.M.Machine.call_of c.args.machine.now) (λ none. let clash = c.in-Err.ensures.end none in cc) in
    (some.0, some.1, (fails.Memory, refl, Meanwhile-refl (g.F.FileStore.seen c.args.store.now)))

pub returns-in-Ok-clause-called : goal.returns-in-Ok-clause-called
returns-in-Ok-clause-called g c =
    let next = rw c.in-Ok-Some.field-0-is at c.in-Ok-Some.ensures.call in
    (lent_call c.in-Ok-Some.call, sym next, c.in-Ok.ensures.answer)

pub returns-in-Err-perform-clause-called : goal.returns-in-Err-perform-clause-called
returns-in-Err-perform-clause-called g c =
    let next = rw c.in-Ok-Some.field-0-is at c.in-Ok-Some.ensures.call in
    (lent_call c.in-Ok-Some.call, sym next, (c.in-Err-perform.fail, c.refusal_of.ensures, c.in-Err-perform.ensures.answer))
