-- What the calls of a remover leave where nobody else acts.
use Rattle.std.proofs.Common.{◌≡◌, inl, inr, ℕ, List, [], ◌∷◌, ◌++◌, Contains, Option, None, Some, refl, sym, ap, subst, ◌∙◌, append_assoc, append-nil, arith}
use Rattle.std.specs.FinMap as map
use Rattle.std.proofs.lemmas.List.Elements.{Contains-append_left, Contains-push, Contains-push_cases}
use Rattle.pm_values.specs.declared.refusal.Refusal.{Refusal}
use Rattle.pm_values.specs.declared.refusal.Refusal.TheVariants as refusals
use Rattle.pm_store.specs.declared.answer.Answer.TheVariants as answers
use Rattle.pm_store.specs.declared.answer.Removed.TheVariants as removed
use Rattle.pm_store.specs.declared.call.Call.{Call}
use Rattle.pm_store.specs.declared.call.Effect.{Effect}
use Rattle.pm_store.specs.declared.call.Effect.TheVariants as effects
use Rattle.pm_store.specs.declared.call.Op.{Op}
use Rattle.pm_store.specs.Answers.{Answers, MayHave, removed_at}
use Rattle.pm_store.specs.Files.{Files, after_effect, files_after}
use Rattle.pm_store.specs.Images.{Extends, MayLeave}
use Rattle.pm_store.specs.Store.{StoreView, IsAlone, own_op, whole}
use Rattle.pm_store.proofs.ChangeLaws.{Answers-Changed, Puts-remove}
use Rattle.pm_store.proofs.FileLaws.{effect_left}
use Rattle.pm_store.proofs.StepLaws.{alone_parts}
use Rattle.pm_machine.specs.Trace.{Ended, Event, Traces, after_answer, before_call, faulted}
use Rattle.pm_machine.proofs.AloneLaws.{Follows, Follows-first, Follows-meanwhile, Follows-steps, Traces-later}
use Rattle.pm_remove.specs.Meaning.{HasLost, IsWithout, LeavesOf, LosesAll, LosesSome}
use Rattle.pm_remove.specs.Remover.{next_call, remove_call}
use Rattle.pm_remove.specs.Trace.{Did, DidSoFar, HasRemoved, Shows}
use Rattle.pm_remove.specs.declared.phase.Phase.{Phase}
use Rattle.pm_remove.specs.declared.phase.Phase.TheVariants as phases

-- ---- one path

-- what isn't there isn't there either once a path was removed
still_gone : (f : Files) (path q : List ℕ) (at : Option (List ℕ)) → map.get f path ≡ at → map.get f q ≡ None → map.get (map.remove f path) q ≡ None
still_gone f path q None absent none =
    Answers-Changed (remove_call path) (answers.Removed removed.Absent) f (sym (ap removed_at absent)) q ∙ none
still_gone f path q (Some found) is none =
    (Puts-remove f path).others q (λ same. let clash : Some found ≡ None = sym is ∙ (sym (ap (map.get f) same) ∙ none) in cc) ∙ none

-- one path more is gone
pub without_next : (first : Files) (done : List (List ℕ)) (path : List ℕ) (f : Files) → IsWithout first done f → IsWithout first (done ++ path ∷ []) (map.remove f path)
without_next first done path f lost = record {
  gone = λ q among. elim (Contains-push_cases done path q among) as (λ _. map.get (map.remove f path) q ≡ None) [
    | inl before ↦ still_gone f path q (map.get f path) refl (lost.gone q before)
    | inr same ↦ subst (λ (q : List ℕ). map.get (map.remove f path) q ≡ None) same (Puts-remove f path).here
  ];
  others = λ q apart.
      (Puts-remove f path).others q (λ same. apart (subst (Contains (done ++ path ∷ [])) (sym same) (Contains-push done path)))
      ∙ lost.others q (λ before. apart (Contains-append_left done (path ∷ []) q before));
}

none_within : (path : List ℕ) → Contains [] path → ⊥
none_within path (k, below, is) = absurd (omega (arith, below))

pub without_none : (first : Files) → IsWithout first [] first
without_none first = record { gone = λ q among. absurd (none_within q among); others = λ q apart. refl }

-- ---- calls in a row

module _ (paths : List (List ℕ)) (first : Files) (known : Option (List Op)) where
  abbrev Image : Files → Type 0
  Image f = HasLost first paths f

  abbrev Lost : List (List ℕ) → Files → Type 0
  Lost done f = IsWithout first done f

  some-lost : (done left : List (List ℕ)) (f : Files) → paths ≡ done ++ left → Lost done f → Image f
  some-lost done left f is lost = record { done = done; left = left; is = is; lost = lost }

  -- each effect of a remove leaves the files with the path, or without it
  part-lost : (done left : List (List ℕ)) (path : List ℕ) (f : Files) (effect : Effect) → paths ≡ done ++ path ∷ left → Lost done f
      → Image (after_effect (remove_call path) effect f)
  part-lost done left path f effects.None is lost = some-lost done (path ∷ left) f is lost
  part-lost done left path f (effects.Part found) is lost = some-lost done (path ∷ left) f is lost
  part-lost done left path f effects.Whole is lost =
      some-lost (done ++ path ∷ []) left (map.remove f path) (is ∙ sym (append_assoc done (path ∷ []) left)) (without_next first done path f lost)

  image-lost : (done left : List (List ℕ)) (path : List ℕ) (f : Files) → paths ≡ done ++ path ∷ left → Lost done f → (image : Files)
      → MayLeave (remove_call path) f image → Image image
  image-lost done left path f is lost image leaves =
      let had = effect_left (remove_call path) f image leaves in
      subst Image (sym had.1) (part-lost done left path f had.0 is lost)

  -- these paths are gone at a moment, after which these calls came
  abbrev IsLeft : List (List ℕ) → List Event → StoreView → Type 0
  IsLeft done more after = (middle : StoreView) × Follows Image known middle (Lost done) × Traces more middle after × IsAlone middle after

  -- some paths were removed, and others before them
  removed-so : (done now later : List (List ℕ)) (own more : List Event) (before after : StoreView) → paths ≡ done ++ (now ++ later) → HasRemoved own now
      → Traces (own ++ more) before after → IsAlone before after → Follows Image known before (Lost done) → IsLeft (done ++ now) more after
  removed-so done [] later [] more before after is all trace alone so =
      (before, subst (λ (done : List (List ℕ)). Follows Image known before (Lost done)) (sym (append-nil done)) so, trace, alone)
  removed-so done [] later (event ∷ own) more before after is all trace alone so = absurd all
  removed-so done (path ∷ now) later [] more before after is all trace alone so = absurd all
  removed-so done (path ∷ now) later (event ∷ own) more before after is ((answer, same), all) (middle, ended, early, trace) alone so =
      let parts = alone_parts before middle after early (Traces-later (own ++ more) middle after trace) alone in
      let steps = (subst (λ (event : Event). Ended event.call event.answer before middle) same ended).0 in
      let next : Follows Image known middle (Lost (done ++ path ∷ [])) =
      Follows-steps Image (Lost done) (Lost (done ++ path ∷ [])) known (whole (remove_call path))
      (λ ops. Answers (remove_call path) (answers.Removed answer) (files_after ops)) before middle so steps parts.0
      (λ ops lost told. (without_next first done path (files_after ops) lost, image-lost done (now ++ later) path (files_after ops) is lost)) in
      subst (λ (done : List (List ℕ)). IsLeft done more after) (append_assoc done (path ∷ []) now)
      (removed-so (done ++ path ∷ []) now later own more middle after (is ∙ sym (append_assoc done (path ∷ []) (now ++ later))) all trace parts.1 next)

  -- and nothing came after them
  done-so : (done left : List (List ℕ)) (own : List Event) (before after : StoreView) → paths ≡ done ++ left → HasRemoved own done
      → Traces own before after → IsAlone before after → Follows Image known before (Lost []) → Follows Image known after (Lost done)
  done-so done left own before after is all trace alone so =
      let gone : IsLeft done [] after =
      removed-so [] done left own [] before after is all (subst (λ (own : List Event). Traces own before after) (sym (append-nil own)) trace) alone so in
      Follows-meanwhile Image (Lost done) known gone.0 after gone.1 gone.2.0 gone.3

  -- or the store failed in the remove of a path
  at_fault : (done left : List (List ℕ)) (path : List ℕ) (before after : StoreView) → paths ≡ done ++ path ∷ left → Follows Image known before (Lost done)
      → Traces (faulted (remove_call path) ∷ []) before after → IsAlone before after → Follows Image known after Image
  at_fault done left path before after is so (middle, ((effect, steps), rose), early, (still, last)) alone =
      let parts = alone_parts before middle after early last alone in
      let next : Follows Image known middle Image =
      Follows-steps Image (Lost done) Image known (own_op (remove_call path) effect)
      (λ ops. MayHave (remove_call path) effect (files_after ops)) before middle so steps parts.0
      (λ ops lost may. (part-lost done left path (files_after ops) effect is lost, image-lost done left path (files_after ops) is lost)) in
      Follows-meanwhile Image Image known middle after next still parts.1

-- ---- from the first moment on

begun : (paths : List (List ℕ)) (told : List Op) (first : StoreView) → first.ops ≡ Some told
    → Follows (λ f. HasLost (files_after told) paths f) (Some told) first (IsWithout (files_after told) [])
begun paths told first is =
    let here = without_none (files_after told) in
    Follows-first (λ f. HasLost (files_after told) paths f) (IsWithout (files_after told) []) first (Some told) is
    (record { done = []; left = paths; is = refl; lost = here }, here)

images_since : (Image P : Files → Type 0) (told : List Op) (first after : StoreView) → first.ops ≡ Some told → (so : Follows Image (Some told) after P)
    → Extends Image first.ops after.ops
images_since Image P told first after is so =
    subst (λ (now : Option (List Op)). Extends Image first.ops now) (sym so.is)
    (subst (λ (known : Option (List Op)). Extends Image known (Some so.ops)) (sym is) so.images)

lost_all : (paths done left : List (List ℕ)) (own : List Event) (first after : StoreView) → paths ≡ done ++ left → HasRemoved own done → Traces own first after
    → IsAlone first after → LeavesOf (λ told f. IsWithout told done f) (λ told f. HasLost told paths f) first after
lost_all paths done left own first after is all trace alone = λ told known.
    let so = done-so paths (files_after told) (Some told) done left own first after is all trace alone (begun paths told first known) in
    (so.ops, so.is, so.here, images_since (λ f. HasLost (files_after told) paths f) (IsWithout (files_after told) done) told first after known so)

lost_some : (paths done left : List (List ℕ)) (own : List Event) (first after : StoreView) → paths ≡ done ++ left → HasRemoved own done → Traces own first after
    → IsAlone first after → LosesSome paths first after
lost_some paths done left own first after is all trace alone = λ told known.
    let lost = lost_all paths done left own first after is all trace alone told known in
    (lost.0, lost.1, record { done = done; left = left; is = is; lost = lost.2 }, lost.3)

-- ---- laws

so_far_some : (paths : List (List ℕ)) (m : Phase) (own : List Event) (first after : StoreView) → DidSoFar paths m own → Traces own first after
    → IsAlone first after → LosesSome paths first after
so_far_some paths (phases.Remove r) own first after has trace alone =
    lost_some paths has.done (r.next ∷ r.rest) own first after has.is has.so trace alone
so_far_some paths phases.Removed own first after all trace alone = lost_some paths paths [] own first after (sym (append-nil paths)) all trace alone
so_far_some paths phases.Over own first after did trace alone = absurd did

failed_some : (paths : List (List ℕ)) (m : Phase) (call : Call) (own : List Event) (first after : StoreView) → DidSoFar paths m own → next_call m ≡ Some call
    → Traces (own ++ faulted call ∷ []) first after → IsAlone first after → LosesSome paths first after
failed_some paths (phases.Remove r) call own first after has next trace alone = λ told known.
    let same : call ≡ remove_call r.next = cc in
    let F : Files = files_after told in
    let gone = removed-so paths F (Some told) [] has.done (r.next ∷ r.rest) own (faulted (remove_call r.next) ∷ []) first after has.is has.so
    (subst (λ (call : Call). Traces (own ++ faulted call ∷ []) first after) same trace) alone (begun paths told first known) in
    let so = at_fault paths F (Some told) has.done r.rest r.next gone.0 after has.is gone.1 gone.2 gone.3 in
    (so.ops, so.is, so.here, images_since (λ f. HasLost F paths f) (λ f. HasLost F paths f) told first after known so)
failed_some paths phases.Removed call own first after did next trace alone = absurd (let clash = next in cc)
failed_some paths phases.Over call own first after did next trace alone = absurd did

shown_some : (paths : List (List ℕ)) (refusal : Refusal) (own : List Event) (first after : StoreView) → Shows paths refusal own → Traces own first after
    → IsAlone first after → LosesSome paths first after
shown_some paths refusals.Memory own first after (before_call m called did) trace alone = so_far_some paths m own first after did trace alone
shown_some paths refusals.Memory own first after (after_answer m call answer earlier did next may takes is) trace alone = absurd takes
shown_some paths (refusals.StoreFault path) own first after failed trace alone =
    failed_some paths failed.phase failed.call failed.earlier first after failed.did_so failed.next
    (subst (λ (own : List Event). Traces own first after) failed.is trace) alone
shown_some paths refusal own first after shows trace alone = absurd shows

pub some_lost : (paths : List (List ℕ)) (m : Phase) (own : List Event) (first after : StoreView) → Did paths m own → Traces own first after
    → IsAlone first after → LosesSome paths first after
some_lost paths phases.Over own first after (refusal, shows) trace alone = shown_some paths refusal own first after shows trace alone
some_lost paths m own first after did trace alone = so_far_some paths m own first after did trace alone

pub all_lost : (paths : List (List ℕ)) (own : List Event) (first after : StoreView) → HasRemoved own paths → Traces own first after → IsAlone first after
    → LosesAll paths first after
all_lost paths own first after all trace alone = lost_all paths paths [] own first after (sym (append-nil paths)) all trace alone
