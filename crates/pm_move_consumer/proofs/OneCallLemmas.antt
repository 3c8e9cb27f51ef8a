-- One call, where nobody else acts from it on.
use Rattle.std.proofs.Common.{◌≡◌, List, [], ◌∷◌, Option, None, Some, IsSomeAnd, refl, sym, subst, arith}
use Rattle.pm_base.specs.Faults.{Rose}
use Rattle.pm_store.specs.declared.answer.Answer.{Answer}
use Rattle.pm_store.specs.declared.call.Call.{Call}
use Rattle.pm_store.specs.declared.call.Op.{Op}
use Rattle.pm_store.specs.Answers.{Answers, MayHave}
use Rattle.pm_store.specs.Files.{Files, after_op, carried, files_after}
use Rattle.pm_store.specs.Images.{Extends, MayLeave}
use Rattle.pm_store.specs.Store.{StoreView, IsAlone, own_op, whole}
use Rattle.pm_store.proofs.FileLaws.{MayLeave-after_effect}
use Rattle.pm_store.proofs.StepLaws.{alone_parts}
use Rattle.pm_machine.specs.Trace.{Traces, answered, faulted}
use Rattle.pm_machine.proofs.AloneLaws.{Follows, Follows-first, Follows-meanwhile, Follows-steps}
use Rattle.pm_create.specs.Making.{LeavesFiles}
use Rattle.pm_read_schema.specs.AllCalls.{HasFiles}

-- The files are these at the call, and each image of it has Image.
module _ (call : Call) (f : Files) (Image : Files → Type 0) (images : (image : Files) → MayLeave call f image → Image image) (here : Image f)
    (first after : StoreView) (alone : IsAlone first after) (has : HasFiles f first) where
  abbrev AtFirst : Files → Type 0
  AtFirst g = g ≡ f

  at_first : (known : Option (List Op)) → IsSomeAnd known (λ ops. files_after ops ≡ f)
      → IsSomeAnd known (λ ops. Image (files_after ops) × AtFirst (files_after ops))
  at_first None is = is
  at_first (Some ops) is = (subst Image (sym is) here, is)

  started : Follows Image first.ops first AtFirst
  started = Follows-first Image AtFirst first first.ops refl (at_first first.ops has)

  images_at : (g : Files) → AtFirst g → (image : Files) → MayLeave call g image → Image image
  images_at g is image left = images image (subst (λ (g : Files). MayLeave call g image) is left)

  -- it wasn't made
  pub not_made : Traces [] first after → Follows Image first.ops after (λ g. g ≡ f)
  not_made (meanwhile, later) = Follows-meanwhile Image AtFirst first.ops first after started meanwhile alone

  -- it was answered
  pub was_answered : (answer : Answer) (Q : Files → Type 0) → (Answers call answer f → Q (carried call f)) → Traces (answered call answer ∷ []) first after
      → Follows Image first.ops after Q
  was_answered answer Q leads (middle, (steps, may), early, (meanwhile, last)) =
      let one = alone_parts first middle after early last alone in
      let led : (g : Files) → g ≡ f → Answers call answer g → Q (carried call g) =
      λ g is. subst (λ (g : Files). Answers call answer g → Q (carried call g)) (sym is) leads in
      let made = Follows-steps Image AtFirst Q first.ops (whole call) (λ ops. Answers call answer (files_after ops)) first middle started steps one.0
      (λ ops is told. (led (files_after ops) is told, images_at (files_after ops) is)) in
      Follows-meanwhile Image Q first.ops middle after made meanwhile one.1

  -- the store failed in it
  pub has_failed : Traces (faulted call ∷ []) first after → Follows Image first.ops after Image × Rose first.faults after.faults
  has_failed (middle, ((effect, steps), rose), early, (meanwhile, last)) =
      let one = alone_parts first middle after early last alone in
      let op : Op = own_op call effect in
      let failed = Follows-steps Image AtFirst Image first.ops op (λ ops. MayHave call effect (files_after ops)) first middle started steps one.0
      (λ ops is may. (
        images_at (files_after ops) is (after_op op (files_after ops)) (MayLeave-after_effect call effect (files_after ops)),
        images_at (files_after ops) is,
      )) in
      let high = last.faults in
      (Follows-meanwhile Image Image first.ops middle after failed meanwhile one.1, omega (arith, rose, high))

-- what files have at the end, and each image since
pub leaves_of : (Image P Q : Files → Type 0) (known : Option (List Op)) (after : StoreView) → (so : Follows Image known after P) → ((g : Files) → P g → Q g)
    → LeavesFiles Q after
leaves_of Image P Q known after so then =
    subst (λ (known : Option (List Op)). IsSomeAnd known (λ ops. Q (files_after ops))) (sym so.is) (then (files_after so.ops) so.here)

pub images_of : (Image P : Files → Type 0) (known : Option (List Op)) (after : StoreView) → (so : Follows Image known after P) → Extends Image known after.ops
images_of Image P known after so = subst (λ (now : Option (List Op)). Extends Image known now) (sym so.is) so.images
