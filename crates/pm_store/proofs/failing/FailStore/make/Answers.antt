use Rattle.std.proofs.Common.{◌≤◌, ◌∙◌, ◌++◌, ◌∷◌, [], ℕ, List, ap, sym, subst, arith}
use Rattle.pm_base.specs.Faults.{Rose}
use Rattle.pm_store.specs.declared.call.Effect.{Effect}
use Rattle.pm_store.specs.declared.call.Op.{Op}
use Rattle.pm_store.specs.Answers.{Answers, MayHave}
use Rattle.pm_store.specs.Failing.{FailView}
use Rattle.pm_store.specs.Files.{files_after}
use Rattle.pm_store.specs.Store.{own_op, whole}
use Rattle.pm_store.proofs.PlanLaws.{allowed_may}
use Rattle.pm_store.proofs.StepLaws.{IsLater-step, Steps-alone}
use Rattle.pm_store.proofs.failing.FailStore.make.Goals as goal

-- src/failing.rt:79:5
pub returns-in_ok-record-in-Some-clause-answer : goal.returns-in_ok-record-in-Some-clause-answer
returns-in_ok-record-in-Some-clause-answer c =
    let ops_are = ap (λ (view : FailView). view.ops) c.self.view_is in
    let faults_are = ap (λ (view : FailView). view.faults) c.self.view_is in
    let ops = c.args.self.now.ops in
    let effect = c.allowed-effect.result in
    let allowed = subst (λ (effect : Effect). MayHave c.args.call effect (files_after c.self.inside.store)) (sym c.allowed-effect.ensures)
    (allowed_may c.args.call c.in-Some.effect (files_after c.self.inside.store)) in
    let may = subst (λ (ops : List Op). MayHave c.args.call effect (files_after ops)) ops_are allowed in
    let is = c.in_ok-record-in-Some.ensures.ok ∙ ap (λ (ops : List Op). ops ++ c.own.result ∷ []) ops_are ∙ ap (λ (op : Op). ops ++ op ∷ []) c.own.ensures in (
      (
        effect,
        Steps-alone (own_op c.args.call effect) (λ ops. MayHave c.args.call effect (files_after ops)) ops c.record.new.self c.args.self.now.faults
            c.raised-self-inside.result is may,
      ),
      subst (λ (n : ℕ). Rose n c.raised-self-inside.result) faults_are (omega (arith, c.raised-self-inside.ensures.is)),
    )

-- src/failing.rt:79:5
pub returns-in_ok-record-in-Some-clause-later : goal.returns-in_ok-record-in-Some-clause-later
returns-in_ok-record-in-Some-clause-later c =
    let ops_are = ap (λ (view : FailView). view.ops) c.self.view_is in
    let faults_are = ap (λ (view : FailView). view.faults) c.self.view_is in
    IsLater-step c.own.result c.args.self.now.ops c.record.new.self c.args.self.now.faults c.raised-self-inside.result
    (c.in_ok-record-in-Some.ensures.ok ∙ ap (λ (ops : List Op). ops ++ c.own.result ∷ []) ops_are)
    (subst (λ (n : ℕ). n ≤ c.raised-self-inside.result) faults_are c.raised-self-inside.ensures.later)

-- src/failing.rt:79:5
pub returns-in_ok-make-in-None-clause-answer : goal.returns-in_ok-make-in-None-clause-answer
returns-in_ok-make-in-None-clause-answer c =
    let ops_are = ap (λ (view : FailView). view.ops) c.self.view_is in
    let is = c.in_ok-make-in-None.ensures.ok ∙ ap (λ (ops : List Op). ops ++ whole c.args.call ∷ []) ops_are in
    let answer = subst (λ (ops : List Op). Answers c.args.call c.in_ok-make-in-None.field-0 (files_after ops)) ops_are c.in_ok-make-in-None.ensures.answer in (
      Steps-alone (whole c.args.call) (λ ops. Answers c.args.call c.in_ok-make-in-None.field-0 (files_after ops)) c.args.self.now.ops c.make.new.self
          c.args.self.now.faults c.self.inside.faults is answer,
      c.in_ok-make-in-None.ensures.may,
    )

-- src/failing.rt:79:5
pub returns-in_ok-make-in-None-clause-later : goal.returns-in_ok-make-in-None-clause-later
returns-in_ok-make-in-None-clause-later c =
    let ops_are = ap (λ (view : FailView). view.ops) c.self.view_is in
    let faults_are = ap (λ (view : FailView). view.faults) c.self.view_is in
    IsLater-step (whole c.args.call) c.args.self.now.ops c.make.new.self c.args.self.now.faults c.self.inside.faults
    (c.in_ok-make-in-None.ensures.ok ∙ ap (λ (ops : List Op). ops ++ whole c.args.call ∷ []) ops_are)
    (subst (λ (n : ℕ). n ≤ c.self.inside.faults) faults_are (omega arith))
