-- Calls that change nothing, one after another, where nobody else acts: the files stay, and each answer is of them.
use Rattle.std.proofs.Common.{◌≡◌, ℕ, List, [], ◌∷◌, ◌++◌, Option, None, Some, IfSome, IsSome, IsSomeAnd, refl, sym, subst, ◌∙◌}
use Rattle.std.specs.List.{AllByRecursion}
use Rattle.pm_base.proofs.Laws.{AllByRecursion-push}
use Rattle.pm_store.specs.declared.answer.Answer.{Answer}
use Rattle.pm_store.specs.declared.call.Call.{Call}
use Rattle.pm_store.specs.declared.call.Effect.{Effect}
use Rattle.pm_store.specs.declared.call.Effect.TheVariants as effects
use Rattle.pm_store.specs.declared.call.Op.{Op}
use Rattle.pm_store.specs.Answers.{Answers, MayHave}
use Rattle.pm_store.specs.Files.{Files, after_effect, files_after}
use Rattle.pm_store.specs.Images.{Extends, MayLeave}
use Rattle.pm_store.specs.Store.{StoreView, IsAlone, own_op, whole}
use Rattle.pm_store.proofs.FileLaws.{effect_left}
use Rattle.pm_store.proofs.StepLaws.{alone_parts}
use Rattle.pm_machine.specs.Trace.{Event, Ended, IsFailed, MayEnd, Traces, after_answer, before_call}
use Rattle.pm_machine.proofs.AloneLaws.{Traces-later, Follows, Follows-first, Follows-meanwhile, Follows-steps}
use Rattle.pm_machine.proofs.PhaseFacts.{Spares}
use Rattle.pm_read_schema.specs.AllCalls.{HasFiles, Stay}

-- whatever of the call is carried out, the files are as they were
abbrev pub IsStill : Call → Type 0
IsStill call = (f : Files) (effect : Effect) → after_effect call effect f ≡ f

abbrev pub AreStill : List Event → Type 0
AreStill own = AllByRecursion (λ event. IsStill event.call) own

pub calls_more : (own : List Event) (event : Event) → AreStill own → IsStill event.call → AreStill (own ++ event ∷ [])
calls_more own event still one = AllByRecursion-push (λ (event : Event). IsStill event.call) own event still one

-- calls up to the end of a machine that changes nothing
module _ {P : Type 0} (call_of : P → Option Call) (did : P → List Event → Type 0) (Takes : P → Answer → Type 0)
    (spares : (m : P) (f : Files) → IfSome (call_of m) (Spares f))
    (so_far : (m : P) (own : List Event) → IsSome (call_of m) → did m own → AreStill own) where
  one_more : (m : P) (call : Call) (answer : Option Answer) (own : List Event) → call_of m ≡ Some call → did m own
      → AreStill (own ++ record { call = call; answer = answer } ∷ [])
  one_more m call answer own is done =
      calls_more own (record { call = call; answer = answer }) (so_far m own (subst (λ (next : Option Call). IsSome next) (sym is) refl) done)
      (λ f. rw is at (spares m f))

  pub ended_still : (own : List Event) → MayEnd call_of did Takes own → AreStill own
  ended_still own (before_call m called done) = so_far m own called done
  ended_still own (after_answer m call answer earlier done is may takes same) =
      subst AreStill (sym same) (one_more m call (Some answer) earlier is done)

  pub failed_still : (path : List ℕ) (own : List Event) → IsFailed call_of did path own → AreStill own
  failed_still path own failed =
      subst AreStill (sym failed.is) (one_more failed.phase failed.call None failed.earlier failed.next failed.did_so)

-- the answer of an event, if there is one, is of these files
abbrev pub IsTold : Files → Event → Type 0
IsTold f event = IfSome event.answer (λ answer. Answers event.call answer f)

abbrev pub AreTold : Files → List Event → Type 0
AreTold f own = AllByRecursion (IsTold f) own

-- what is told up to the last event, and by it
pub told_last : (f : Files) (own : List Event) (event : Event) → AreTold f (own ++ event ∷ []) → AreTold f own × IsTold f event
told_last f [] event (one, none) = (tt, one)
told_last f (first ∷ own) event (one, all) =
    let rest = told_last f own event all in
    ((one, rest.0), rest.1)

abbrev Is : Files → Files → Type 0
Is f g = g ≡ f

image_same : (f : Files) (call : Call) (g image : Files) → IsStill call → g ≡ f → MayLeave call g image → image ≡ f
image_same f call g image still same left =
    let had = effect_left call g image left in
    had.1 ∙ still g had.0 ∙ same

one_event : (f : Files) (known : Option (List Op)) (call : Call) (answer : Option Answer) (before middle : StoreView) → IsStill call
    → Ended call answer before middle → IsAlone before middle → Follows (Is f) known before (Is f)
    → Follows (Is f) known middle (Is f) × IfSome answer (λ answer. Answers call answer f)
one_event f known call (Some answer) before middle still (steps, may) alone so =
    let Told : Files → Type 0 = λ g. (g ≡ f) × Answers call answer f in
    let came = Follows-steps (Is f) (Is f) Told known (whole call) (λ ops. Answers call answer (files_after ops)) before middle so steps alone
    (λ ops here told. (
      (still (files_after ops) effects.Whole ∙ here, subst (λ (g : Files). Answers call answer g) here told),
      λ image left. image_same f call (files_after ops) image still here left,
    )) in
    (record { ops = came.ops; is = came.is; here = came.here.0; images = came.images }, came.here.1)
one_event f known call None before middle still ((effect, steps), rose) alone so =
    let op : Op = own_op call effect in (
      Follows-steps (Is f) (Is f) (Is f) known op (λ ops. MayHave call effect (files_after ops)) before middle so steps alone
          (λ ops here may. (still (files_after ops) effect ∙ here, λ image left. image_same f call (files_after ops) image still here left)),
      tt,
    )

all_events : (f : Files) (known : Option (List Op)) (own : List Event) (before after : StoreView) → AreStill own → Traces own before after
    → IsAlone before after → Follows (Is f) known before (Is f) → Follows (Is f) known after (Is f) × AreTold f own
all_events f known [] before after still (meanwhile, later) alone so =
    (Follows-meanwhile (Is f) (Is f) known before after so meanwhile alone, tt)
all_events f known (event ∷ own) before after still (middle, ended, early, rest) alone so =
    let parts = alone_parts before middle after early (Traces-later own middle after rest) alone in
    let here = one_event f known event.call event.answer before middle still.0 ended parts.0 so in
    let more = all_events f known own middle after still.1 rest parts.1 here.0 in
    (more.0, (here.1, more.1))

same_twice : (f : Files) (known : Option (List Op)) → IsSomeAnd known (λ ops. files_after ops ≡ f)
    → IsSomeAnd known (λ ops. (files_after ops ≡ f) × (files_after ops ≡ f))
same_twice f None has = has
same_twice f (Some ops) has = (has, has)

pub stayed : (f : Files) (own : List Event) (first after : StoreView) → AreStill own → Traces own first after → IsAlone first after
    → HasFiles f first → Stay f first after × AreTold f own
stayed f own first after still trace alone has =
    let begun = Follows-first (Is f) (Is f) first first.ops refl (same_twice f first.ops has) in
    let so = all_events f first.ops own first after still trace alone begun in (
      record {
        here = subst (λ (known : Option (List Op)). IsSomeAnd known (λ ops. files_after ops ≡ f)) (sym so.0.is) so.0.here;
        images = subst (λ (known : Option (List Op)). Extends (Is f) first.ops known) (sym so.0.is) so.0.images;
      },
      so.1,
    )
