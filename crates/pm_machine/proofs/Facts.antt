-- Laws of steps, for the machines.
use Rattle.std.proofs.Common.{◌≡◌, inl, inr, List, [], ◌∷◌, ◌++◌, Option, None, Some, IsSome, IsSomeAnd, Result, OnOk, IfErr, refl, sym, subst, arith, append_assoc, append-nil}
use Rattle.pm_base.specs.Faults.{Rose}
use Rattle.pm_values.specs.declared.refusal.Refusal.{Refusal}
use Rattle.pm_values.specs.declared.refusal.Refusal.TheVariants as refusals
use Rattle.pm_store.specs.declared.answer.Answer.{Answer}
use Rattle.pm_store.specs.declared.call.Call.{Call}
use Rattle.pm_store.specs.declared.call.Effect.{Effect}
use Rattle.pm_store.specs.declared.call.Op.{Op}
use Rattle.pm_store.specs.Answers.{Answers, MayHave}
use Rattle.pm_store.specs.Files.{Files, after_effect, after_op, files_after}
use Rattle.pm_store.specs.Images.{MayLeave}
use Rattle.pm_store.specs.Store.{StoreView, IsAlone, IsLater, Meanwhile, own_op, whole}
use Rattle.pm_store.proofs.FileLaws.{MayLeave-after_effect, effect_left, files_after-push}
use Rattle.pm_store.proofs.StepLaws.{IsLater-refl, IsLater-trans, Meanwhile-exact, Meanwhile-refl, Meanwhile-trans, Steps-after, Steps-exact, Steps-weaker}
use Rattle.pm_machine.specs.Moves.{Changes, Keeps, Lasts, Moves, Sound, Stands, Truthful}
use Rattle.pm_machine.specs.Step.{path_of, Stepped, Rested, Went, Refused, Stopped, Failed}
use Rattle.pm_machine.specs.Trace.{Event, Ended, Acts, Traces, HasTrace, Recounts, answered, faulted}

-- a store that is as it was
untouched : (before after : StoreView) → after ≡ before → Meanwhile before after
untouched before after same = subst (Meanwhile before) (sym same) (Meanwhile-refl before)

-- a machine whose next call is known has one
has_call : {next : Option Call} {call : Call} → next ≡ Some call → IsSome next
has_call is = subst (λ (next : Option Call). IsSome next) (sym is) refl

-- a step of a sound machine is one change of some kind, or none
pub moved : {M H : Type 0} {call_of : M → Option Call} {goes : M → Answer → M → Type 0}
    {refuses : M → Answer → Refusal → M → Type 0} {stops : M → M → Type 0} {Folder : Files → H → Type 0}
    {Change : M → Files → H → Files → H → Type 0} {knows : M → Files → H → Type 0} {old new : M} {before after : StoreView}
    {result : Result (Unit {0}) Refusal} → Sound call_of goes refuses stops Folder Change knows →
    Stepped call_of goes refuses stops old new before after result → Moves Folder (Change old) (knows old) (knows new) before after
moved {M} {H} {knows = knows} {old = old} {new = new} {before = before} {after = after} sound (Rested none same still) =
    inr (untouched before after still, λ (f : Files) (h : H) folder known. subst (λ (m : M). knows m f h) (sym same) known)
moved {H = H} {Folder = Folder} {Change = Change} {knows = knows} {old = old} {new = new} {before = before} {after = after} sound (Went call answer is came on) =
    let keeps : (ops : List Op) → Answers call answer (files_after ops) → Keeps Folder (Change old) (knows old) (knows new) (whole call) (files_after ops) =
    λ ops here h folder known.
    ((rw is at (sound.changes old (files_after ops) h folder known)), (rw is at (sound.went old new answer (files_after ops) h on folder known)) here) in
    inl (whole call, refl, Steps-weaker (whole call) _ _ before after keeps came.0)
moved {H = H} {Folder = Folder} {Change = Change} {knows = knows} {old = old} {new = new} {before = before} {after = after} sound (Refused call answer refusal is came on) =
    let keeps : (ops : List Op) → Answers call answer (files_after ops) → Keeps Folder (Change old) (knows old) (knows new) (whole call) (files_after ops) =
    λ ops here h folder known.
    ((rw is at (sound.changes old (files_after ops) h folder known)), (rw is at (sound.refused old new answer refusal (files_after ops) h on folder known)) here) in
    inl (whole call, refl, Steps-weaker (whole call) _ _ before after keeps came.0)
moved {old = old} {new = new} sound (Stopped call is meanwhile stop) =
    inr (meanwhile, λ f h folder known. sound.stopped old new f h (has_call is) stop folder known)
moved {H = H} {Folder = Folder} {Change = Change} {knows = knows} {old = old} {new = new} {before = before} {after = after} sound (Failed call is came stop) =
    let effect : Effect = came.0.0 in
    let op : Op = own_op call effect in
    let keeps : (ops : List Op) → MayHave call effect (files_after ops) → Keeps Folder (Change old) (knows old) (knows new) op (files_after ops) =
    λ ops may h folder known.
    ((rw is at (sound.changes old (files_after ops) h folder known)), (rw is at (sound.failed old new effect (files_after ops) h stop folder known)) may) in
    inl (op, refl, Steps-weaker op _ _ before after keeps came.0.1)

-- a step that is refused tells this
pub told : {M H : Type 0} {call_of : M → Option Call} {goes : M → Answer → M → Type 0} {holds : M → Type 0}
    {refuses : M → Answer → Refusal → M → Type 0} {stops : M → M → Type 0} {Folder : Files → H → Type 0}
    {Change : M → Files → H → Files → H → Type 0} {knows : M → Files → H → Type 0} {tells : Refusal → Files → H → Type 0} {old new : M}
    {before after : StoreView} {result : Result (Unit {0}) Refusal} → Sound call_of goes refuses stops Folder Change knows →
    Truthful call_of holds refuses Folder Change knows tells → holds old → Stepped call_of goes refuses stops old new before after result →
    IfErr result (λ refusal. Moves Folder (Change old) (knows old) (tells refusal) before after)
told sound truthful held (Rested none same still) = tt
told sound truthful held (Went call answer is came on) = tt
told {H = H} {Folder = Folder} {Change = Change} {knows = knows} {tells = tells} {old = old} {new = new} {before = before} {after = after} sound truthful held
    (Refused call answer refusal is came on) =
    let keeps : (ops : List Op) → Answers call answer (files_after ops) → Keeps Folder (Change old) (knows old) (tells refusal) (whole call) (files_after ops) =
    λ ops here h folder known.
    let led = (rw is at (sound.refused old new answer refusal (files_after ops) h on folder known)) here in (
      (rw is at (sound.changes old (files_after ops) h folder known)),
      (led.0, led.1, (rw is at (truthful.answered old new answer refusal (files_after ops) h led.0 held on folder known)) here led.1),
    ) in
    inl (whole call, refl, Steps-weaker (whole call) _ _ before after keeps came.0)
told sound truthful held (Stopped call is meanwhile stop) = inr (meanwhile, λ f h folder known. truthful.memory f h)
told {H = H} {Folder = Folder} {Change = Change} {knows = knows} {tells = tells} {old = old} {new = new} {before = before} {after = after} sound truthful held
    (Failed call is came stop) =
    let effect : Effect = came.0.0 in
    let op : Op = own_op call effect in
    let keeps : (ops : List Op) → MayHave call effect (files_after ops) →
    Keeps Folder (Change old) (knows old) (tells (refusals.StoreFault (path_of call))) op (files_after ops) =
    λ ops may h folder known.
    let led = (rw is at (sound.failed old new effect (files_after ops) h stop folder known)) may in
    ((rw is at (sound.changes old (files_after ops) h folder known)), (led.0, led.1, truthful.fault (path_of call) _ led.0)) in
    inl (op, refl, Steps-weaker op _ _ before after keeps came.0.1)

-- a step is the next event after whatever the machine's calls were, or no event
pub acted : {M : Type 0} {call_of : M → Option Call} {goes : M → Answer → M → Type 0}
    {refuses : M → Answer → Refusal → M → Type 0} {stops : M → M → Type 0} {did : M → List Event → Type 0}
    {shows : Refusal → List Event → Type 0} {old new : M} {before after : StoreView} {result : Result (Unit {0}) Refusal} →
    Recounts call_of goes refuses stops did shows → Stepped call_of goes refuses stops old new before after result →
    Acts (did old) (λ own. did new own × IfErr result (λ refusal. shows refusal own)) before after
acted {M} {did = did} {before = before} {after = after} recounts (Rested none same still) =
    inr (untouched before after still, λ (own : List Event) done. (subst (λ (m : M). did m own) (sym same) done, tt))
acted {old = old} {new = new} recounts (Went call answer is came on) =
    inl (answered call answer, came, λ own done. ((rw is at (recounts.went old new answer own on done)) came.1, tt))
acted {old = old} {new = new} recounts (Refused call answer refusal is came on) =
    inl (answered call answer, came, λ own done. (rw is at (recounts.refused old new answer refusal own on done)) came.1)
acted {old = old} {new = new} recounts (Stopped call is meanwhile stop) =
    inr (meanwhile, λ own done. recounts.stopped old new own (has_call is) stop done)
acted {old = old} {new = new} recounts (Failed call is came stop) =
    inl (faulted call, came, λ own done. (rw is at (recounts.failed old new own stop done)))

-- whatever a crash leaves of a call is a change of some kind
pub image_changed : {H : Type 0} (Change : Files → H → Files → H → Type 0) (call : Call) (f : Files) (h : H) →
    Changes Change call f h → (image : Files) → MayLeave call f image → (later : H) × Change f h image later
image_changed {H} Change call f h changes image left =
    let had = effect_left call f image left in
    subst (λ (g : Files). (later : H) × Change f h g later) (sym had.1) (changes had.0)

-- and where that holds of a call, so it does of each of its effects
pub changes_by_images : {H : Type 0} (Change : Files → H → Files → H → Type 0) (call : Call) (f : Files) (h : H) →
    ((image : Files) → MayLeave call f image → (later : H) × Change f h image later) → Changes Change call f h
changes_by_images Change call f h images effect = images (after_effect call effect f) (MayLeave-after_effect call effect f)

-- what an answer leads to holds after a step that goes on
pub went_on : {M : Type 0} {call_of : M → Option Call} {goes : M → Answer → M → Type 0}
    {refuses : M → Answer → Refusal → M → Type 0} {stops : M → M → Type 0} {old new : M} {before after : StoreView}
    {result : Result (Unit {0}) Refusal} (R : M → M → Type 0) → ((m new : M) (answer : Answer) → goes m answer new → R m new) →
    Stepped call_of goes refuses stops old new before after result → OnOk result (IsSome (call_of old) → R old new)
went_on R leads (Rested none same still) = λ some. absurd (let clash = rw none at some in cc)
went_on {old = old} {new = new} R leads (Went call answer is came on) = λ some. leads old new answer on
went_on R leads (Refused call answer refusal is came on) = tt
went_on R leads (Stopped call is meanwhile stop) = tt
went_on R leads (Failed call is came stop) = tt

-- ---- files that stand for a history

module _ {H : Type 0} (Folder : Files → H → Type 0) (Change : Files → H → Files → H → Type 0) (P knew knows : Files → H → Type 0)
    (lasts : Lasts Folder Change P) (before after : StoreView) (alone : IsAlone before after) where
  -- what is true at the end of these operations
  abbrev AtEnd : (Files → H → Type 0) → List Op → Type 0
  AtEnd knows ops = (h : H) × Folder (files_after ops) h × (P (files_after ops) h × knows (files_after ops) h)

  stands_known : (known : Option (List Op)) → before.ops ≡ known → Moves Folder Change knew knows before after →
      IsSomeAnd known (AtEnd knew) → Stands Folder (λ f h. P f h × knows f h) after
  stands_known None is moves here = absurd here
  stands_known (Some ops) is (inl (op, own, steps)) (h, folder, (true_of, known)) =
      let came = Steps-exact op (λ ops. Keeps Folder Change knew knows op (files_after ops)) before after ops is steps alone in
      let leads = (came.1 h folder known).1 in
      let stays = lasts (files_after ops) (after_op op (files_after ops)) h leads.0 folder true_of leads.1 in
      let here : AtEnd knows (ops ++ op ∷ []) =
      subst (λ (f : Files). (h : H) × Folder f h × (P f h × knows f h)) (sym (files_after-push ops op)) (leads.0, stays.0, (stays.1, leads.2)) in
      subst (λ (now : Option (List Op)). IsSomeAnd now (AtEnd knows)) (sym came.0) here
  stands_known (Some ops) is (inr (meanwhile, same)) (h, folder, (true_of, known)) =
      subst (λ (now : Option (List Op)). IsSomeAnd now (AtEnd knows))
      (sym (Meanwhile-exact before after ops is meanwhile alone)) (h, folder, (true_of, same (files_after ops) h folder known))

  -- a step that nobody else's operations came in, and what else was true before it
  pub Stands-moves : Moves Folder Change knew knows before after → Stands Folder (λ f h. P f h × knew f h) before →
      Stands Folder (λ f h. P f h × knows f h) after
  Stands-moves = stands_known before.ops refl

-- ---- traces

-- an event before which others alone acted
ended_more : (call : Call) (answer : Option Answer) (first before after : StoreView) → Meanwhile first before → IsLater first before →
    Ended call answer before after → Ended call answer first after
ended_more call (Some answer) first before after meanwhile later (steps, may) =
    (Steps-after (whole call) (λ ops. Answers call answer (files_after ops)) first before after meanwhile steps, may)
ended_more call None first before after meanwhile later ((effect, steps), rose) =
    let low = later.faults in
    ((effect, Steps-after (own_op call effect) (λ ops. MayHave call effect (files_after ops)) first before after meanwhile steps), omega (arith, low, rose))

-- no events yet
pub Traces-none : (store : StoreView) → Traces [] store store
Traces-none store = (Meanwhile-refl store, IsLater-refl store)

-- others' operations after the last event
pub Traces-meanwhile : (own : List Event) (first before after : StoreView) → Traces own first before → Meanwhile before after →
    IsLater before after → Traces own first after
Traces-meanwhile [] first before after (early, later) late then =
    (Meanwhile-trans first before after early late, IsLater-trans first before after later then)
Traces-meanwhile (event ∷ own) first before after (middle, ended, early, rest) late then =
    (middle, ended, early, Traces-meanwhile own middle before after rest late then)

-- one more event
pub Traces-push : (own : List Event) (event : Event) (first before after : StoreView) → Traces own first before →
    Ended event.call event.answer before after → IsLater before after → Traces (own ++ event ∷ []) first after
Traces-push [] event first before after (early, later) ended then =
    (after, ended_more event.call event.answer first before after early later ended, IsLater-trans first before after later then, Traces-none after)
Traces-push (one ∷ own) event first before after (middle, here, early, rest) ended then =
    (middle, here, early, Traces-push own event middle before after rest ended then)

-- events came, and then others
pub Traces-join : (own more : List Event) (first middle after : StoreView) → Traces own first middle → Traces more middle after
    → Traces (own ++ more) first after
Traces-join own [] first middle after trace (meanwhile, later) =
    subst (λ (events : List Event). Traces events first after) (sym (append-nil own)) (Traces-meanwhile own first middle after trace meanwhile later)
Traces-join own (event ∷ more) first middle after trace (next, ended, early, rest) =
    subst (λ (events : List Event). Traces events first after) (append_assoc own (event ∷ []) more)
    (Traces-join (own ++ event ∷ []) more first next after (Traces-push own event first middle next trace ended early) rest)

-- a trace, and a step more
pub HasTrace-acts : {did does : List Event → Type 0} {first before after : StoreView} → HasTrace did first before → Acts did does before after →
    IsLater before after → HasTrace does first after
HasTrace-acts {first = first} {before = before} {after = after} (own, done, trace) (inl (event, ended, does)) later =
    (own ++ event ∷ [], does own done, Traces-push own event first before after trace ended later)
HasTrace-acts {first = first} {before = before} {after = after} (own, done, trace) (inr (meanwhile, does)) later =
    (own, does own done, Traces-meanwhile own first before after trace meanwhile later)

-- a trace that ends with a call in which the store failed
pub Traces-faulted : (own : List Event) (call : Call) (before after : StoreView) → Traces (own ++ faulted call ∷ []) before after →
    Rose before.faults after.faults
Traces-faulted [] call before after (middle, (part, rose), early, (meanwhile, late)) =
    let high = late.faults in
    omega (arith, rose, high)
Traces-faulted (one ∷ own) call before after (middle, here, early, rest) =
    let rose = Traces-faulted own call middle after rest in
    let low = early.faults in
    omega (arith, rose, low)
