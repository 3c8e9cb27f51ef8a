-- The moment of a trace's first call, and what calls from then on leave where nobody else acts.
use Rattle.std.proofs.Common.{◌≡◌, List, [], ◌∷◌, ◌++◌, true, Option, None, Some, IsSomeAnd, ap, refl, sym, subst, arith}
use Rattle.pm_store.specs.declared.answer.Answer.{Answer}
use Rattle.pm_store.specs.declared.call.Call.{Call}
use Rattle.pm_store.specs.declared.call.Op.{Op}
use Rattle.pm_store.specs.Answers.{Answers, MayHave}
use Rattle.pm_store.specs.Files.{Files, after_op, files_after}
use Rattle.pm_store.specs.Images.{Extends, MayLeave}
use Rattle.pm_store.specs.Store.{StoreView, AreOthers, Came, EndsWith, GoesOn, IsAlone, IsLater, Meanwhile, Steps, at_first_own, others_told, own_op, whole}
use Rattle.pm_store.proofs.FileLaws.{files_after-push}
use Rattle.pm_store.proofs.ImageLaws.{Extends-push, Extends-refl}
use Rattle.pm_store.proofs.StepLaws.{Came-goes_on, GoesOn-trans, IsLater-steps, IsLater-trans, Meanwhile-exact, Meanwhile-refl, Steps-exact, at_first_own-none, at_first_own-same, at_first_own-steps}
use Rattle.pm_machine.specs.Trace.{Event, Ended, Traces}

-- ---- the moment of the first call

-- no operation went through a trace, and no count fell
pub Traces-later : (own : List Event) (before after : StoreView) → Traces own before after → IsLater before after
Traces-later [] before after (meanwhile, later) = later
Traces-later (event ∷ own) before after (middle, ended, early, rest) = IsLater-trans before middle after early (Traces-later own middle after rest)

-- its operations stay, and more came
ended_goes_on : (call : Call) (answer : Option Answer) (before after : StoreView) → Ended call answer before after → GoesOn before after
ended_goes_on call (Some answer) before after (steps, may) =
    Came-goes_on (EndsWith (whole call) (λ ops. Answers call answer (files_after ops))) before after steps
ended_goes_on call None before after ((effect, steps), rose) =
    Came-goes_on (EndsWith (own_op call effect) (λ ops. MayHave call effect (files_after ops))) before after steps

pub Traces-goes_on : (own : List Event) (before after : StoreView) → Traces own before after → GoesOn before after
Traces-goes_on [] before after (meanwhile, later) = Came-goes_on (λ ops more. AreOthers more) before after meanwhile
Traces-goes_on (event ∷ own) before after (middle, ended, early, rest) =
    GoesOn-trans before middle after (ended_goes_on event.call event.answer before middle ended) (Traces-goes_on own middle after rest)

-- an event is a step of this handle
abbrev IsOwnStep : Call → Option Answer → StoreView → StoreView → Type 1
IsOwnStep call answer before after = (op : Op) × (P : List Op → Type 0) × (op.is_own ≡ true) × Steps op P before after

own_step : (call : Call) (answer : Option Answer) (before after : StoreView) → Ended call answer before after → IsOwnStep call answer before after
own_step call (Some answer) before after (steps, may) = (whole call, (λ ops. Answers call answer (files_after ops)), refl, steps)
own_step call None before after ((effect, steps), rose) = (own_op call effect, (λ ops. MayHave call effect (files_after ops)), refl, steps)

-- the same event from right before it on, whatever comes then
ended_first : (call : Call) (answer : Option Answer) (before middle after : StoreView) → Ended call answer before middle → GoesOn middle after
    → Ended call answer (at_first_own before after) middle
ended_first call (Some answer) before middle after (steps, may) late =
    (at_first_own-steps (whole call) (λ ops. Answers call answer (files_after ops)) before middle after refl steps late, may)
ended_first call None before middle after ((effect, steps), rose) late =
    ((effect, at_first_own-steps (own_op call effect) (λ ops. MayHave call effect (files_after ops)) before middle after refl steps late), rose)

-- from the moment of the first own operation on, these events came
pub Traces-first : (own : List Event) (before after : StoreView) → Traces own before after → Traces own (at_first_own before after) after
Traces-first [] before after (meanwhile, later) =
    let same = at_first_own-none before after meanwhile in (
      subst (λ (now : Option (List Op)). Came (λ ops more. AreOthers more) now after.ops) (sym same) (Meanwhile-refl after),
      record { others = omega (arith, ap others_told same); faults = later.faults },
    )
Traces-first (event ∷ own) before after (middle, ended, early, rest) =
    let late = Traces-goes_on own middle after rest in
    let step = own_step event.call event.answer before middle ended in (
      middle,
      ended_first event.call event.answer before middle after ended late,
      IsLater-steps step.0 step.1 (at_first_own before after) middle (at_first_own-steps step.0 step.1 before middle after step.2 step.3 late) early.faults,
      rest,
    )

-- what comes after an event doesn't change it
pub Traces-same_first : (event : Event) (own more : List Event) (before after last : StoreView) → Traces (event ∷ own) before after → Traces more after last
    → at_first_own before after ≡ at_first_own before last
Traces-same_first event own more before after last (middle, ended, early, rest) then_came =
    let step = own_step event.call event.answer before middle ended in
    let within = Traces-goes_on own middle after rest in
    at_first_own-same step.0 step.1 before middle after last step.2 step.3 within
    (GoesOn-trans middle after last within (Traces-goes_on more after last then_came))

-- ---- calls in a row, where nobody else acts

-- The operations are known, and leave files with P. Each image of them since a moment has Image.
pub record Follows (Image : Files → Type 0) (known : Option (List Op)) (store : StoreView) (P : Files → Type 0) : Type 0 where
  pub ops : List Op
  pub is : store.ops ≡ Some ops
  pub here : P (files_after ops)
  pub images : Extends Image known (Some ops)

-- at that moment
pub Follows-first : (Image P : Files → Type 0) (first : StoreView) (known : Option (List Op)) → first.ops ≡ known
    → IsSomeAnd known (λ ops. Image (files_after ops) × P (files_after ops)) → Follows Image known first P
Follows-first Image P first None is here = absurd here
Follows-first Image P first (Some ops) is here = record {
  ops = ops;
  is = is;
  here = here.1;
  images = Extends-refl Image (Some ops) (λ told same. let same : ops ≡ told = cc in subst (λ (ops : List Op). Image (files_after ops)) same here.0);
}

-- nothing came since
pub Follows-meanwhile : (Image P : Files → Type 0) (known : Option (List Op)) (before after : StoreView) → Follows Image known before P
    → Meanwhile before after → IsAlone before after → Follows Image known after P
Follows-meanwhile Image P known before after so meanwhile alone = record {
  ops = so.ops;
  is = Meanwhile-exact before after so.ops so.is meanwhile alone;
  here = so.here;
  images = so.images;
}

-- an operation came, each image of which has Image
pub Follows-steps : (Image P Q : Files → Type 0) (known : Option (List Op)) (op : Op) (A : List Op → Type 0) (before after : StoreView)
    → Follows Image known before P → Steps op A before after → IsAlone before after
    → ((ops : List Op) → P (files_after ops) → A ops
    → Q (after_op op (files_after ops)) × ((image : Files) → MayLeave op.call (files_after ops) image → Image image))
    → Follows Image known after Q
Follows-steps Image P Q known op A before after so steps alone leads =
    let came = Steps-exact op A before after so.ops so.is steps alone in
    let step = leads so.ops so.here came.1 in record {
      ops = so.ops ++ op ∷ [];
      is = came.0;
      here = subst Q (sym (files_after-push so.ops op)) step.0;
      images = Extends-push Image known so.ops op so.images step.1;
    }

-- from its end on each image has what its files have
pub Extends-end : (P : Files → Type 0) (known : Option (List Op)) (ops : List Op) → known ≡ Some ops → P (files_after ops) → Extends P known known
Extends-end P known ops is here = Extends-refl P known (λ told same.
    let same : ops ≡ told = cc in subst (λ (ops : List Op). P (files_after ops)) same here)
