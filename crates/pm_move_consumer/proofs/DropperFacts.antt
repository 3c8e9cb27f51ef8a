-- A dropper keeps the laws of machines.
use Rattle.std.proofs.Common.{◌≡◌, inl, inr, ℕ, ◌<◌, List, [], ◌∷◌, ◌++◌, true, Option, None, Some, IsSome, IfSome, refl, sym, ap, ◌∙◌, subst, arith}
use Rattle.std.specs.FinMap as map
use Rattle.pm_values.specs.declared.refusal.Refusal.{Refusal}
use Rattle.pm_values.specs.declared.refusal.Refusal.TheVariants as refusals
use Rattle.pm_store.specs.declared.answer.Answer.{Answer}
use Rattle.pm_store.specs.declared.answer.Answer.TheVariants as answers
use Rattle.pm_store.specs.declared.answer.Removed.TheVariants as removed
use Rattle.pm_store.specs.declared.call.Call.{Call}
use Rattle.pm_store.specs.declared.call.Call.TheVariants as calls
use Rattle.pm_store.specs.declared.call.Effect.TheVariants as effects
use Rattle.pm_store.specs.Answers.{Answers, MayAnswer, removed_at}
use Rattle.pm_store.specs.Files.{Files, Puts, carried}
use Rattle.pm_store.specs.Images.{MayLeave}
use Rattle.pm_store.proofs.ChangeLaws.{Answers-Changed, Puts-remove}
use Rattle.pm_machine.specs.Moves.{Changes, IsKept, Leads, Sound}
use Rattle.pm_machine.specs.Running.{Refuses, Stops}
use Rattle.pm_machine.specs.Step.{path_of}
use Rattle.pm_machine.specs.Trace.{Event, IsFailed, MayEnd, Recounts, after_answer, answered, before_call, faulted}
use Rattle.pm_machine.proofs.Facts.{image_changed}
use Rattle.pm_machine.proofs.PhaseFacts.{recounts_of}
use Rattle.pm_model_consumers.specs.Claims.{free, with_claim}
use Rattle.pm_model_history.specs.History.{GoesOn}
use Rattle.pm_model_folder.specs.Changes.{Actor, IsPlain}
use Rattle.pm_model_folder.specs.Ledger.{Advances, Past, Stands, goes as goes_then}
use Rattle.pm_model_folder.specs.Paths.{consumer_path}
use Rattle.pm_model_folder.proofs.Facts.{goes_on}
use Rattle.pm_read_schema.proofs.Facts.{kept_nothing}
use Rattle.pm_move_consumer.specs.declared.drop_phase.DropPhase.{DropPhase}
use Rattle.pm_move_consumer.specs.declared.drop_phase.DropPhase.TheVariants as phases
use Rattle.pm_move_consumer.specs.Dropper.{Goes, IsDone, Shown, calls_left, next_call, told}
use Rattle.pm_move_consumer.specs.DropperMeaning.{Drop, DropsBeside, IsGone, Knows, KnowsAt, KnowsBeside, MayDrop, StandsBeside}
use Rattle.pm_move_consumer.specs.DropperTrace.{Did, DidSoFar, MayTakeMemory, Shows, remove_call}
use Rattle.pm_move_consumer.specs.MoverMeaning.{HasPlainTable}
use Rattle.pm_move_consumer.proofs.SideLemmas.{sound_beside}
use Rattle.pm_move_consumer.proofs.StepFacts.{ConsumerSteps, PastKept, claimed-step, others-stay, plain-table}

-- ---- the drop

-- the past with the drop
abbrev pub gone_from : Drop → Past → Past
gone_from d p = record p { claims = with_claim d.name free p.claims }

pub gone : ConsumerSteps → (d : Drop) (f after : Files) (p : Past) → IsPlain d.name → HasPlainTable p.history → IsSome (map.get f (consumer_path d.name))
    → Puts f (consumer_path d.name) None after → IsGone d f p after (gone_from d p)
gone steps d f after p plain has there puts = record {
  advances = claimed-step steps d.me f after p d.name None (with_claim d.name free p.claims) has plain tt puts
      (goes_then d.name puts.here (others-stay f after d.name None puts));
  there = there;
  puts = puts;
  past = refl;
}

-- whatever is carried out of a remove
remove-at : (d : Drop) (f : Files) (P : Files → Type 0) → (map.get f (consumer_path d.name) ≡ None → P (map.remove f (consumer_path d.name)))
    → (IsSome (map.get f (consumer_path d.name)) → P (map.remove f (consumer_path d.name))) → (at : Option (List ℕ)) → map.get f (consumer_path d.name) ≡ at
    → P (map.remove f (consumer_path d.name))
remove-at d f P none some None absent = none absent
remove-at d f P none some (Some found) is = some (subst (λ (at : Option (List ℕ)). IsSome at) (sym is) refl)

-- nothing was there
pub kept-absent : (d : Drop) (f : Files) (p : Past) → map.get f (consumer_path d.name) ≡ None → IsKept f p (map.remove f (consumer_path d.name)) p
kept-absent d f p absent = record {
  files = Answers-Changed (remove_call d.name) (answers.Removed removed.Absent) f (sym (ap removed_at absent));
  past = refl;
}

pub remove-changes : ConsumerSteps → (d : Drop) (f : Files) (p : Past) → IsPlain d.name → HasPlainTable p.history → Changes (MayDrop d) (remove_call d.name) f p
remove-changes steps d f p plain has effects.None = (p, inl (record { files = λ path. refl; past = refl }))
remove-changes steps d f p plain has (effects.Part found) = (p, inl (record { files = λ path. refl; past = refl }))
remove-changes steps d f p plain has effects.Whole = remove-at d f (λ g. (later : Past) × MayDrop d f p g later)
    (λ absent. (p, inl (kept-absent d f p absent)))
    (λ there. (gone_from d p, inr (gone steps d f (map.remove f (consumer_path d.name)) p plain has there (Puts-remove f (consumer_path d.name)))))
    (map.get f (consumer_path d.name)) refl

-- what was answered tells which
was-there : (at : Option (List ℕ)) → removed.Removed ≡ removed_at at → IsSome at
was-there None e = absurd (let clash : removed.Removed ≡ removed.Absent = e in cc)
was-there (Some found) e = refl

pub was-absent : (at : Option (List ℕ)) → removed.Absent ≡ removed_at at → at ≡ None
was-absent None e = refl
was-absent (Some found) e = absurd (let clash : removed.Absent ≡ removed.Removed = e in cc)

pub remove-done : ConsumerSteps → (d : Drop) (f : Files) (p : Past) → IsPlain d.name → HasPlainTable p.history
    → Answers (remove_call d.name) (answers.Removed (told true)) f → IsGone d f p (carried (remove_call d.name) f) (gone_from d p)
remove-done steps d f p plain has is =
    gone steps d f (carried (remove_call d.name) f) p plain has (was-there (map.get f (consumer_path d.name)) is) (Puts-remove f (consumer_path d.name))

-- ---- what it knows, and what it changes

changes_at : ConsumerSteps → (d : Drop) (phase : DropPhase) (f : Files) (p : Past) → Stands f p → Knows d phase f p
    → IfSome (next_call phase) (λ call. Changes (MayDrop d) call f p)
changes_at steps d (phases.Remove path) f p stands (plain, at, has) =
    subst (λ (path : List ℕ). Changes (MayDrop d) (calls.Remove path) f p) (sym at) (remove-changes steps d f p plain has)
changes_at steps d (phases.Dropped was) f p stands known = tt
changes_at steps d phases.Over f p stands known = tt

-- the table stays
still-has : (d : Drop) (f after : Files) (p later : Past) → MayDrop d f p after later → HasPlainTable p.history → HasPlainTable later.history
still-has d f after p later (inl kept) has = subst (λ (q : Past). HasPlainTable q.history) (sym kept.past) has
still-has d f after p later (inr gone) has = subst (λ (q : Past). HasPlainTable q.history) (sym gone.past) has

went_at : ConsumerSteps → (d : Drop) (phase new : DropPhase) (answer : Answer) (f : Files) (p : Past) → Goes phase answer new → Stands f p → Knows d phase f p
    → IfSome (next_call phase) (λ call. Answers call answer f → Leads (MayDrop d) (Knows d new) f p (carried call f))
went_at steps d (phases.Remove path) new (answers.Removed answer) f p (was, is, goes) stands (plain, at, has) = λ so.
    subst (λ (phase : DropPhase). Leads (MayDrop d) (Knows d phase) f p (map.remove f path)) (sym goes)
    (subst (λ (path : List ℕ). Leads (MayDrop d) (Knows d (phases.Dropped was)) f p (map.remove f path)) (sym at)
    (let led = remove-changes steps d f p plain has effects.Whole in
    (led.0, led.1, (plain, tt, still-has d f (map.remove f (consumer_path d.name)) p led.0 led.1 has))))
went_at steps d phase new answer f p goes stands known = absurd goes

over_at : (d : Drop) (phase : DropPhase) (f after : Files) (p later : Past) → Knows d phase f p → Knows d phases.Over after later
over_at d phase f after p later known = (known.0, tt, tt)

pub sound : ConsumerSteps → Sound next_call Goes (Refuses Shown phases.Over) (Stops phases.Over) StandsBeside DropsBeside KnowsBeside
sound steps = sound_beside Stands MayDrop Knows next_call Goes Shown phases.Over (changes_at steps) (went_at steps) over_at

-- ---- its call

so_far : (name : List ℕ) (phase : DropPhase) (own : List Event) → IsSome (next_call phase) → Did name phase own → DidSoFar name phase own
so_far name (phases.Remove path) own called did = did
so_far name (phases.Dropped was) own called did = did
so_far name phases.Over own called did = absurd (let clash = called in cc)

failed_in : (name : List ℕ) (phase : DropPhase) (call : Call) (own : List Event) → DidSoFar name phase own → next_call phase ≡ Some call
    → Shows name (refusals.StoreFault (path_of call)) (own ++ faulted call ∷ [])
failed_in name (phases.Remove path) call own (its, did) next =
    let same : calls.Remove path ≡ call = cc in
    let is : call ≡ remove_call name = sym same ∙ ap calls.Remove its in
    subst (λ (call : Call). Shows name (refusals.StoreFault (path_of call)) (own ++ faulted call ∷ [])) (sym is)
    (refl, ap (λ (own : List Event). own ++ faulted (remove_call name) ∷ []) did)
failed_in name (phases.Dropped was) call own did next = absurd (let clash = next in cc)
failed_in name phases.Over call own did next = absurd did

fails : (name path : List ℕ) (own : List Event) → IsFailed next_call (DidSoFar name) path own → Shows name (refusals.StoreFault path) own
fails name path own failed =
    let shown = failed_in name failed.phase failed.call failed.earlier failed.did_so failed.next in
    let here = subst (λ (own : List Event). Shows name (refusals.StoreFault (path_of failed.call)) own) (sym failed.is) shown in
    subst (λ (path : List ℕ). Shows name (refusals.StoreFault path) own) (sym failed.is_path) here

ended_in : (name : List ℕ) (phase : DropPhase) (own : List Event) → IsSome (next_call phase) → DidSoFar name phase own → Shows name refusals.Memory own
ended_in name (phases.Remove path) own called did = did.1
ended_in name (phases.Dropped was) own called did = absurd (let clash = called in cc)
ended_in name phases.Over own called did = absurd did

memory : (name : List ℕ) (own : List Event) → MayEnd next_call (DidSoFar name) MayTakeMemory own → Shows name refusals.Memory own
memory name own (before_call phase called did) = ended_in name phase own called did
memory name own (after_answer phase call answer earlier did next may takes is) = absurd takes

went_on : (name : List ℕ) (phase : DropPhase) (answer : Answer) (new : DropPhase) (own : List Event) → Goes phase answer new → Did name phase own
    → IfSome (next_call phase) (λ call. MayAnswer call answer → Did name new (own ++ answered call answer ∷ []))
went_on name (phases.Remove path) (answers.Removed answer) new own (was, is, goes) (its, did) = λ may.
    subst (λ (phase : DropPhase). Did name phase (own ++ answered (calls.Remove path) (answers.Removed answer) ∷ [])) (sym goes)
    (ap (λ (own : List Event). own ++ answered (calls.Remove path) (answers.Removed answer) ∷ []) did
    ∙ (λ i. answered (calls.Remove (its i)) (answers.Removed (is i)) ∷ []))
went_on name phase answer new own goes did = absurd goes

refused_on : (name : List ℕ) (phase : DropPhase) (answer : Answer) (refusal : Refusal) (own : List Event) → Shown phase answer refusal → Did name phase own
    → IfSome (next_call phase) (λ call. MayAnswer call answer → Shows name refusal (own ++ answered call answer ∷ []))
refused_on name phase answer refusal own shown did = absurd shown

pub recounts : (name : List ℕ) → Recounts next_call Goes (Refuses Shown phases.Over) (Stops phases.Over) (Did name) (Shows name)
recounts name = recounts_of next_call Goes Shown phases.Over (DidSoFar name) (Did name) MayTakeMemory (Shows name) (so_far name)
    (λ refusal own shows. (refusal, shows)) (fails name) (memory name) (went_on name) (refused_on name)

-- ---- how far it has come

pub goes : (phase : DropPhase) (answer : Answer) (new : DropPhase) → Goes phase answer new → (calls_left new < calls_left phase) × IsDone new × Unit {0}
goes (phases.Remove path) (answers.Removed answer) new (was, is, on) =
    subst (λ (new : DropPhase). (calls_left new < 1) × IsDone new × Unit {0}) (sym on) (omega arith, tt, tt)
goes phase answer new on = absurd on

pub has_call : (phase : DropPhase) → 0 < calls_left phase → IsSome (next_call phase)
has_call (phases.Remove path) left = refl
has_call (phases.Dropped was) left = absurd (let none : 0 < 0 = left in omega (arith, none))
has_call phases.Over left = absurd (let none : 0 < 0 = left in omega (arith, none))

-- ---- what others leave of what it knows

known_at-still : (d : Drop) (phase : DropPhase) (f after : Files) (p q : Past) → GoesOn p.history q.history → KnowsAt d phase f p → KnowsAt d phase after q
known_at-still d (phases.Remove path) f after p q goes known = plain-table p.history q.history goes known
known_at-still d (phases.Dropped was) f after p q goes known = plain-table p.history q.history goes known
known_at-still d phases.Over f after p q goes known = tt

pub knows_still : (d : Drop) (phase : DropPhase) (other : Actor) (f after : Files) (p q : Past) → Stands f p → Advances other f p after q
    → Knows d phase f p → Knows d phase after q
knows_still d phase other f after p q stands advances known = (
  known.0,
  known.1,
  known_at-still d phase f after p q (goes_on other f after p.history q.history advances.change) known.2,
)

-- ---- images

pub advances-of : (d : Drop) (f after : Files) (p later : Past) → MayDrop d f p after later → Advances d.me f p after later
advances-of d f after p later (inl kept) = kept_nothing d.me f after p later kept
advances-of d f after p later (inr gone) = gone.advances

pub images : ConsumerSteps → PastKept → (d : Drop) (phase : DropPhase) (call : Call) (f image : Files) (p : Past) → next_call phase ≡ Some call → Stands f p
    → Knows d phase f p → MayLeave call f image → (later : Past) × MayDrop d f p image later × Stands image later
images steps kept d phase call f image p is stands known left =
    let changes : Changes (MayDrop d) call f p = rw is at (changes_at steps d phase f p stands known) in
    let led = image_changed (MayDrop d) call f p changes image left in
    (led.0, led.1, kept d.me f image p led.0 stands (advances-of d f image p led.0 led.1))
