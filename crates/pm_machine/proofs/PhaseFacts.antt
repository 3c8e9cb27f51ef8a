-- What a machine of phases proves of its steps and of its calls, from less.
use Rattle.std.proofs.Common.{◌≡◌, ◌∙◌, ℕ, List, [], ◌∷◌, ◌++◌, Option, None, Some, IsSome, IfSome, refl, sym, ap, subst}
use Rattle.std.specs.FinMap as map
use Rattle.std.proofs.lemmas.Option.{IfSome_then}
use Rattle.pm_base.specs.Faults.{Rose}
use Rattle.pm_values.specs.declared.refusal.Refusal.{Refusal}
use Rattle.pm_values.specs.declared.refusal.Refusal.TheVariants as refusals
use Rattle.pm_store.specs.Answers.{Answers, MayAnswer}
use Rattle.pm_store.specs.Files.{Files, after_effect, carried}
use Rattle.pm_store.specs.Images.{MayLeave}
use Rattle.pm_store.specs.Store.{StoreView}
use Rattle.pm_store.specs.declared.answer.Answer.{Answer}
use Rattle.pm_store.specs.declared.call.Call.{Call}
use Rattle.pm_store.specs.declared.call.Effect.{Effect}
use Rattle.pm_store.specs.declared.call.Effect.TheVariants as effects
use Rattle.pm_store.proofs.FileLaws.{effect_left}
use Rattle.pm_machine.specs.Moves.{IsKept, Leads, Sound, Truthful}
use Rattle.pm_machine.specs.Running.{Refuses, Stops}
use Rattle.pm_machine.specs.Step.{path_of}
use Rattle.pm_machine.specs.Trace.{Event, IsFailed, MayEnd, Recounts, Traces, after_answer, before_call, answered, faulted}
use Rattle.pm_machine.proofs.Facts.{Traces-faulted}

-- ---- machines that change nothing

-- each effect of the call leaves these files as they are
abbrev pub Spares : Files → Call → Type 0
Spares f call = (effect : Effect) → after_effect call effect f ≡ f

kept_same : {H : Type 0} (f after : Files) (h : H) → after ≡ f → IsKept f h after h
kept_same f after h same = record { files = λ q. ap (λ (g : Files). map.get g q) same; past = refl }

-- and so does a crash in it
pub image_spared : {P H : Type 0} (call_of : P → Option Call) (m : P) (call : Call) (f image : Files) (h : H) → IfSome (call_of m) (Spares f)
    → call_of m ≡ Some call → MayLeave call f image → IsKept f h image h
image_spared call_of m call f image h spared is left =
    let had = effect_left call f image left in
    let still = rw is at spared in
    kept_same f image h (had.1 ∙ still had.0)

pub both_if : (next : Option Call) (P Q R : Call → Type 0) → ((call : Call) → P call → Q call → R call) → IfSome next P → IfSome next Q → IfSome next R
both_if None P Q R both one two = tt
both_if (Some call) P Q R both one two = both call one two

-- they are sound once an answer leads to what is known of the same files
module _ {P H : Type 0} (call_of : P → Option Call) (Goes : P → Answer → P → Type 0) (Shown : P → Answer → Refusal → Type 0) (end : P)
    (Folder : Files → H → Type 0) (knows : P → Files → H → Type 0)
    (spares : (m : P) (f : Files) → IfSome (call_of m) (Spares f))
    (knows_next : (m : P) (answer : Answer) (new : P) (f : Files) (h : H) → Goes m answer new → Folder f h → knows m f h
    → IfSome (call_of m) (λ call. Answers call answer f → knows new f h))
    (knows_end : (f : Files) (h : H) → knows end f h) where
  leads_still : (new : P) (f after : Files) (h : H) → after ≡ f → knows new f h → Leads IsKept (knows new) f h after
  leads_still new f after h same known = (h, kept_same f after h same, subst (λ (g : Files). knows new g h) (sym same) known)

  over_knows : (new : P) (f : Files) (h : H) → new ≡ end → knows new f h
  over_knows new f h over = subst (λ (m : P). knows m f h) (sym over) (knows_end f h)

  pub sound_of_spared : Sound call_of Goes (Refuses Shown end) (Stops end) Folder (λ m. IsKept) knows
  sound_of_spared = record {
    changes = λ m f h folder known. IfSome_then (call_of m) (spares m f)
        (λ call same effect. (h, kept_same f (after_effect call effect f) h (same effect)));
    went = λ m new answer f h goes folder known. both_if (call_of m) _ _ _
        (λ call same next told. leads_still new f (carried call f) h (same effects.Whole) (next told))
        (spares m f) (knows_next m answer new f h goes folder known);
    refused = λ m new answer refusal f h refuses folder known. IfSome_then (call_of m) (spares m f)
        (λ call same told. leads_still new f (carried call f) h (same effects.Whole) (over_knows new f h refuses.1));
    failed = λ m new effect f h stops folder known. IfSome_then (call_of m) (spares m f)
        (λ call same may. leads_still new f (after_effect call effect f) h (same effect) (over_knows new f h stops));
    stopped = λ m new f h called stops folder known. over_knows new f h stops;
  }

-- and tell what is so once what they know gives it where an answer shows the refusal
module _ {P H : Type 0} (call_of : P → Option Call) (holds : P → Type 0) (Shown : P → Answer → Refusal → Type 0) (end : P)
    (Folder : Files → H → Type 0) (knows : P → Files → H → Type 0) (tells : Refusal → Files → H → Type 0)
    (spares : (m : P) (f : Files) → IfSome (call_of m) (Spares f))
    (cause : (m : P) (call : Call) (answer : Answer) (refusal : Refusal) (f : Files) (h : H) → holds m → Folder f h → knows m f h
    → call_of m ≡ Some call → Answers call answer f → Shown m answer refusal → tells refusal f h)
    (memory : (f : Files) (h : H) → tells refusals.Memory f h)
    (fault : (path : List ℕ) (f : Files) (h : H) → tells (refusals.StoreFault path) f h) where
  told_now : (m : P) (next : Option Call) (answer : Answer) (refusal : Refusal) (f : Files) (h later : H) → call_of m ≡ next → holds m
      → Shown m answer refusal → Folder f h → knows m f h → IfSome next (Spares f)
      → IfSome next (λ call. Answers call answer f → IsKept f h (carried call f) later → tells refusal (carried call f) later)
  told_now m None answer refusal f h later is held shown folder known spared = tt
  told_now m (Some call) answer refusal f h later is held shown folder known spared = λ answered kept.
      subst (λ (g : Files). tells refusal g later) (sym (spared effects.Whole))
      (subst (λ (h : H). tells refusal f h) (sym kept.past) (cause m call answer refusal f h held folder known is answered shown))

  pub truthful_of_spared : Truthful call_of holds (Refuses Shown end) Folder (λ m. IsKept) knows tells
  truthful_of_spared = record {
    answered = λ m new answer refusal f h later held refuses folder known.
        told_now m (call_of m) answer refusal f h later refl held refuses.0 folder known (spares m f);
    memory = memory;
    fault = fault;
  }

-- whoever tells nothing tells what is so
nothing_told : (One Other : Call → Type 0) (next : Option Call) → IfSome next (λ call. One call → Other call → Unit {0})
nothing_told One Other None = tt
nothing_told One Other (Some call) = λ one other. tt

pub truthful_of_none : {P H : Type 0} (call_of : P → Option Call) (holds : P → Type 0) (refuses : P → Answer → Refusal → P → Type 0)
    (Folder : Files → H → Type 0) (Change : P → Files → H → Files → H → Type 0) (knows : P → Files → H → Type 0)
    → Truthful call_of holds refuses Folder Change knows (λ refusal f h. Unit {0})
truthful_of_none call_of holds refuses Folder Change knows = record {
  answered = λ m new answer refusal f h later held refused folder known. nothing_told _ _ (call_of m);
  memory = λ f h. tt;
  fault = λ path f h. tt;
}

-- ---- what calls show

-- they are recounted once answers are, with what shows that the store failed or memory ran out
module _ {P : Type 0} (call_of : P → Option Call) (Goes : P → Answer → P → Type 0) (Shown : P → Answer → Refusal → Type 0) (end : P)
    (did Did : P → List Event → Type 0) (Takes : P → Answer → Type 0) (shows : Refusal → List Event → Type 0)
    (so_far : (m : P) (own : List Event) → IsSome (call_of m) → Did m own → did m own)
    (ends : (refusal : Refusal) (own : List Event) → shows refusal own → Did end own)
    (fails : (path : List ℕ) (own : List Event) → IsFailed call_of did path own → shows (refusals.StoreFault path) own)
    (memory : (own : List Event) → MayEnd call_of did Takes own → shows refusals.Memory own)
    (went_on : (m : P) (answer : Answer) (new : P) (own : List Event) → Goes m answer new → Did m own
    → IfSome (call_of m) (λ call. MayAnswer call answer → Did new (own ++ answered call answer ∷ [])))
    (refused_on : (m : P) (answer : Answer) (refusal : Refusal) (own : List Event) → Shown m answer refusal → Did m own
    → IfSome (call_of m) (λ call. MayAnswer call answer → shows refusal (own ++ answered call answer ∷ []))) where
  failed_on : (m : P) (next : Option Call) (own : List Event) → call_of m ≡ next → Did m own
      → IfSome next (λ call. shows (refusals.StoreFault (path_of call)) (own ++ faulted call ∷ []))
  failed_on m None own is done = tt
  failed_on m (Some call) own is done = fails (path_of call) (own ++ faulted call ∷ []) (record {
    phase = m;
    call = call;
    earlier = own;
    did_so = so_far m own (subst (λ (o : Option Call). IsSome o) (sym is) refl) done;
    next = is;
    is_path = refl;
    is = refl;
  })

  over_did : (new : P) (refusal : Refusal) (own : List Event) → new ≡ end → shows refusal own → Did new own × shows refusal own
  over_did new refusal own over shown = (subst (λ (m : P). Did m own) (sym over) (ends refusal own shown), shown)

  pub recounts_of : Recounts call_of Goes (Refuses Shown end) (Stops end) Did shows
  recounts_of = record {
    went = λ m new answer own goes done. went_on m answer new own goes done;
    refused = λ m new answer refusal own refuses done. IfSome_then (call_of m) (refused_on m answer refusal own refuses.0 done)
        (λ call shown may. over_did new refusal (own ++ answered call answer ∷ []) refuses.1 (shown may));
    failed = λ m new own stops done. IfSome_then (call_of m) (failed_on m (call_of m) own refl done)
        (λ call shown. over_did new (refusals.StoreFault (path_of call)) (own ++ faulted call ∷ []) stops shown);
    stopped = λ m new own called stops done. over_did new refusals.Memory own stops (memory own (before_call m called (so_far m own called done)));
  }

-- where the last call failed, a fault rose
pub failed_rose : {P : Type 0} (call_of : P → Option Call) (did : P → List Event → Type 0) (path : List ℕ) (own : List Event)
    (first after : StoreView) → IsFailed call_of did path own → Traces own first after → Rose first.faults after.faults
failed_rose call_of did path own first after failed trace =
    Traces-faulted failed.earlier failed.call first after (subst (λ (own : List Event). Traces own first after) failed.is trace)

-- memory ran out after an answer that it is taken for
pub ended : {P : Type 0} (call_of : P → Option Call) (did : P → List Event → Type 0) (Takes : P → Answer → Type 0) (m : P) (next : Option Call)
    (answer : Answer) (own : List Event) → call_of m ≡ next → did m own → Takes m answer
    → IfSome next (λ call. MayAnswer call answer → MayEnd call_of did Takes (own ++ answered call answer ∷ []))
ended call_of did Takes m None answer own is done takes = tt
ended call_of did Takes m (Some call) answer own is done takes = λ may. after_answer m call answer own done is may takes refl
