-- What the calls of a remover leave, what led to its phases, and how far it has come.
use Rattle.std.proofs.Common.{◌≡◌, inl, inr, ℕ, ◌+◌, ◌<◌, List, [], ◌∷◌, ◌++◌, length, Option, None, Some, IsSome, IfSome, refl, sym, ap, subst, ◌∙◌, append_assoc, append-nil, arith}
use Rattle.std.specs.FinMap as map
use Rattle.std.proofs.lemmas.Option.{IfSome_then}
use Rattle.pm_values.specs.declared.refusal.Refusal.{Refusal}
use Rattle.pm_store.specs.declared.answer.Answer.{Answer}
use Rattle.pm_store.specs.declared.answer.Answer.TheVariants as answers
use Rattle.pm_store.specs.declared.answer.Removed.TheVariants as removed
use Rattle.pm_store.specs.declared.call.Call.{Call}
use Rattle.pm_store.specs.declared.call.Effect.{Effect}
use Rattle.pm_store.specs.declared.call.Effect.TheVariants as effects
use Rattle.pm_store.specs.Answers.{Answers, MayAnswer, removed_at}
use Rattle.pm_store.specs.Files.{Files, after_effect, carried}
use Rattle.pm_store.specs.Images.{MayLeave}
use Rattle.pm_store.proofs.ChangeLaws.{Answers-Changed, Puts-remove}
use Rattle.pm_store.proofs.FileLaws.{effect_left}
use Rattle.pm_machine.specs.Moves.{Changes, Leads}
use Rattle.pm_machine.specs.Running.{Refuses, Stops}
use Rattle.pm_machine.specs.Trace.{Event, Recounts, answered}
use Rattle.pm_machine.proofs.PhaseFacts.{both_if, recounts_of}
use Rattle.pm_remove.specs.Meaning.{Clears, HasDone, IsAt, Makes}
use Rattle.pm_remove.specs.Removal.{RemovalView}
use Rattle.pm_remove.specs.Remover.{calls_left, next_call, remove_call, remove_next, Goes, IsOneFewer, Shown}
use Rattle.pm_remove.specs.Trace.{removes, Did, DidSoFar, HasRemoved, IsRemoval, MayTakeMemory, Shows}
use Rattle.pm_remove.specs.declared.phase.Phase.{Phase}
use Rattle.pm_remove.specs.declared.phase.Phase.TheVariants as phases

-- ---- what its calls may leave

whole_removed : (r : RemovalView) (f : Files) (at : Option (List ℕ)) → map.get f r.next ≡ at → Makes (phases.Remove r) f (map.remove f r.next)
whole_removed r f None absent = inl (Answers-Changed (remove_call r.next) (answers.Removed removed.Absent) f (sym (ap removed_at absent)))
whole_removed r f (Some found) is = inr (subst (λ (found : Option (List ℕ)). IsSome found) (sym is) refl, Puts-remove f r.next)

remove_makes : (r : RemovalView) (f : Files) (effect : Effect) → Makes (phases.Remove r) f (after_effect (remove_call r.next) effect f)
remove_makes r f effects.None = inl (λ q. refl)
remove_makes r f (effects.Part found) = inl (λ q. refl)
remove_makes r f effects.Whole = whole_removed r f (map.get f r.next) refl

-- each effect of its call is one of its changes
pub call_makes : (m : Phase) (f : Files) → IfSome (next_call m) (λ call. (effect : Effect) → Makes m f (after_effect call effect f))
call_makes (phases.Remove r) f = remove_makes r f
call_makes m f = tt

-- and so is what a crash leaves of it
pub image_makes : (m : Phase) (call : Call) (f image : Files) → next_call m ≡ Some call → MayLeave call f image → Makes m f image
image_makes m call f image is left =
    let had = effect_left call f image left in
    let makes : (effect : Effect) → Makes m f (after_effect call effect f) = rw is at (call_makes m f) in
    subst (Makes m f) (sym had.1) (makes had.0)

-- once it was answered its path isn't there
pub call_clears : (m : Phase) (answer : Answer) (new : Phase) (f : Files) → Goes m answer new
    → IfSome (next_call m) (λ call. Answers call answer f → Clears m f (carried call f))
call_clears (phases.Remove r) answer new f goes = λ told. Puts-remove f r.next
call_clears m answer new f goes = tt

-- ---- kinds of change

-- where each of its changes is one of a kind, so is each effect of its call
pub changes_of : {H : Type 0} (Change : Files → H → Files → H → Type 0) (m : Phase) (f : Files) (h : H)
    → ((after : Files) → Makes m f after → Change f h after h) → IfSome (next_call m) (λ call. Changes Change call f h)
changes_of Change m f h kind = IfSome_then (next_call m) (call_makes m f)
    (λ call makes effect. (h, kind (after_effect call effect f) (makes effect)))

-- and an answer leads to what is known once its path isn't there
pub leads_of : {H : Type 0} (Change : Files → H → Files → H → Type 0) (knows : Files → H → Type 0) (m : Phase) (answer : Answer) (new : Phase)
    (f : Files) (h : H) → Goes m answer new → ((after : Files) → Makes m f after → Change f h after h) → ((after : Files) → Clears m f after → knows after h)
    → IfSome (next_call m) (λ call. Answers call answer f → Leads Change knows f h (carried call f))
leads_of Change knows m answer new f h goes kind known = both_if (next_call m) _ _ _
    (λ call makes clears told. (h, kind (carried call f) (makes effects.Whole), known (carried call f) (clears told)))
    (call_makes m f) (call_clears m answer new f goes)

-- ---- how far it has come

-- what holds of the paths that were removed, which are the first of all
pub at_weaker : (paths : List (List ℕ)) (P Q : List (List ℕ) → Type 0) (m : Phase) → ((done left : List (List ℕ)) → paths ≡ done ++ left → P done → Q done)
    → IsAt paths P m → IsAt paths Q m
at_weaker paths P Q (phases.Remove r) weaker has = record {
  done = has.done;
  is = has.is;
  so = weaker has.done (r.next ∷ r.rest) has.is has.so;
}
at_weaker paths P Q phases.Removed weaker so = weaker paths [] (sym (append-nil paths)) so
at_weaker paths P Q phases.Over weaker so = tt

-- one path more was removed
pub at_next : (paths : List (List ℕ)) (P Q : List (List ℕ) → Type 0) (path : List ℕ) (left : List (List ℕ)) → HasDone paths P (path ∷ left)
    → ((done : List (List ℕ)) → P done → Q (done ++ path ∷ [])) → IsAt paths Q (remove_next left)
at_next paths P Q path [] has more = subst Q (sym has.is) (more has.done has.so)
at_next paths P Q path (other ∷ left) has more = record {
  done = has.done ++ path ∷ [];
  is = has.is ∙ sym (append_assoc has.done (path ∷ []) (other ∷ left));
  so = more has.done has.so;
}

-- none was removed yet
pub at_first : (paths : List (List ℕ)) (P : List (List ℕ) → Type 0) → P [] → IsAt paths P (remove_next paths)
at_first [] P none = none
at_first (path ∷ paths) P none = record { done = []; is = refl; so = none }

-- ---- its calls

so_far : (paths : List (List ℕ)) (m : Phase) (own : List Event) → IsSome (next_call m) → Did paths m own → DidSoFar paths m own
so_far paths phases.Over own called did = absurd (let clash = called in cc)
so_far paths m own called did = did

removed-push : (paths : List (List ℕ)) (own : List Event) (path : List ℕ) (event : Event) → HasRemoved own paths → IsRemoval path event
    → HasRemoved (own ++ event ∷ []) (paths ++ path ∷ [])
removed-push [] [] path event all one = (one, tt)
removed-push [] (early ∷ own) path event all one = absurd all
removed-push (first ∷ paths) [] path event all one = absurd all
removed-push (first ∷ paths) (early ∷ own) path event all one = (all.0, removed-push paths own path event all.1 one)

next_did : (paths left : List (List ℕ)) (own : List Event) → IsAt paths (HasRemoved own) (remove_next left) → Did paths (remove_next left) own
next_did paths [] own at = at
next_did paths (path ∷ left) own at = at

pub first_did : (paths : List (List ℕ)) → Did paths (remove_next paths) []
first_did paths = next_did paths paths [] (at_first paths (HasRemoved []) tt)

went_on : (paths : List (List ℕ)) (m : Phase) (answer : Answer) (new : Phase) (own : List Event) → Goes m answer new → Did paths m own
    → IfSome (next_call m) (λ call. MayAnswer call answer → Did paths new (own ++ answered call answer ∷ []))
went_on paths (phases.Remove r) (answers.Removed answer) new own goes has = λ may.
    let event : Event = removes r.next answer in
    subst (λ (m : Phase). Did paths m (own ++ event ∷ [])) (sym goes)
    (next_did paths r.rest (own ++ event ∷ [])
    (at_next paths (HasRemoved own) (HasRemoved (own ++ event ∷ [])) r.next r.rest has
    (λ done so. removed-push done own r.next event so (answer, refl))))
went_on paths m answer new own goes did = absurd goes

refused_on : (paths : List (List ℕ)) (m : Phase) (answer : Answer) (refusal : Refusal) (own : List Event) → Shown m answer refusal → Did paths m own
    → IfSome (next_call m) (λ call. MayAnswer call answer → Shows paths refusal (own ++ answered call answer ∷ []))
refused_on paths m answer refusal own shown did = absurd shown

pub recounts : (paths : List (List ℕ)) → Recounts next_call Goes (Refuses Shown phases.Over) (Stops phases.Over) (Did paths) (Shows paths)
recounts paths = recounts_of next_call Goes Shown phases.Over (DidSoFar paths) (Did paths) MayTakeMemory (Shows paths) (so_far paths)
    (λ refusal own shows. (refusal, shows)) (λ path own failed. failed) (λ own ended. ended) (went_on paths) (refused_on paths)

-- ---- how many calls are left

pub next_left : (left : List (List ℕ)) → calls_left (remove_next left) ≡ length left
next_left [] = refl
next_left (path ∷ left) = omega arith

-- an answer leaves one call fewer
pub goes : (m : Phase) (answer : Answer) (new : Phase) → Goes m answer new → (calls_left new < calls_left m) × IsOneFewer m new
goes (phases.Remove r) (answers.Removed answer) new on =
    let left = next_left r.rest in
    subst (λ (new : Phase). (calls_left new < length r.rest + 1) × IsOneFewer (phases.Remove r) new) (sym on) (omega (arith, left), omega (arith, left))
goes m answer new on = absurd on

-- with calls left there is a next one
pub has_call : (m : Phase) → 0 < calls_left m → IsSome (next_call m)
has_call (phases.Remove r) left = refl
has_call m left = absurd (omega (arith, left))
