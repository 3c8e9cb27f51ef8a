use Rattle.std.proofs.lemmas.Result.{IfOk-weaker}
use Rattle.pm_store.proofs.StepLaws.{Answers-MayAnswer}
use Rattle.pm_store.proofs.memory.MemStore.answer.Goals as goal

pub returns-clause-may : goal.returns-clause-may
returns-clause-may c =
    IfOk-weaker c.answer.result _ _ (λ answer is. Answers-MayAnswer c.args.call.now answer c.self.inside.files is) c.answer.ensures
