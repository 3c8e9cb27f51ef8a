-- A registrar keeps the laws of machines.
use Rattle.std.proofs.Common.{◌≡◌, ◌≢◌, inl, inr, ℕ, ◌+◌, ◌<◌, ◌≤◌, List, [], ◌∷◌, ◌++◌, length, Bool, true, false, Option, None, Some, IsSome, IfSome, refl, sym, ap, ◌∙◌, subst, arith}
use Rattle.std.specs.FinMap as map
use Rattle.std.proofs.lemmas.List.{length-append}
use Rattle.std.proofs.lemmas.Option.{IfSome_then}
use Rattle.pm_values.specs.declared.refusal.Refusal.{Refusal}
use Rattle.pm_values.specs.declared.refusal.Refusal.TheVariants as refusals
use Rattle.pm_store.specs.declared.answer.Answer.{Answer}
use Rattle.pm_store.specs.declared.answer.Answer.TheVariants as answers
use Rattle.pm_store.specs.declared.answer.Swapped.TheVariants as swaps
use Rattle.pm_store.specs.declared.call.Call.{Call}
use Rattle.pm_store.specs.declared.call.Effect.{Effect}
use Rattle.pm_store.specs.declared.call.Effect.TheVariants as effects
use Rattle.pm_store.specs.declared.call.Op.{Op}
use Rattle.pm_store.specs.Answers.{Answers, MayAnswer}
use Rattle.pm_store.specs.Files.{Files, Puts, after_effect, carried, files_after}
use Rattle.pm_store.specs.Images.{MayLeave}
use Rattle.pm_store.specs.Store.{StoreView}
use Rattle.pm_store.proofs.ChangeLaws.{Answers-Changed, Puts-insert}
use Rattle.pm_store.proofs.StepLaws.{Steps-weaker}
use Rattle.pm_machine.specs.Moves.{Changes, Keeps, Leads, Moves, Sound}
use Rattle.pm_machine.specs.Running.{Refuses, Stops}
use Rattle.pm_machine.specs.Step.{path_of}
use Rattle.pm_machine.specs.Trace.{Event, IsFailed, MayEnd, Recounts, after_answer, answered, before_call, faulted}
use Rattle.pm_machine.proofs.Facts.{image_changed}
use Rattle.pm_machine.proofs.PhaseFacts.{recounts_of}
use Rattle.pm_model_consumers.specs.Changes.{Change}
use Rattle.pm_model_consumers.specs.Claims.{Follower, Holds, Moment}
use Rattle.pm_model_consumers.specs.Known.{HasRegistered}
use Rattle.pm_model_history.specs.History.{Entry, GoesOn, History, IsTableOf, no_table, table}
use Rattle.pm_schema.specs.declared.schema.TableSchema.{TableSchema}
use Rattle.pm_model_folder.specs.Changes.{Actor}
use Rattle.pm_model_folder.specs.Consumers.{IsMoved, follower_of, moment_of}
use Rattle.pm_model_folder.specs.Ledger.{Advances, Past, Stands, count_of}
use Rattle.pm_model_folder.specs.Meaning.{IsLeast}
use Rattle.pm_model_folder.specs.Paths.{consumer_path}
use Rattle.pm_model_folder.proofs.Facts.{goes_on}
use Rattle.pm_model_folder.proofs.LedgerFacts.{at-table}
use Rattle.pm_consumer_files.specs.Floors.{Exceeds}
use Rattle.pm_register.specs.Meaning.{Beside, HasPut, IsWithin, Knows, KnowsAt, KnowsBeside, Registers, RegistersAt, RegistersBeside, StandsBeside, WaitsIn}
use Rattle.pm_register.specs.Registrar.{Goes, GoesOnce, IsOf, IsRegistering, Reaches, Registering, Shown, calls_left, floors_call, known_text, new_call, new_text, next_call, reached_at, registration_of, settle_call}
use Rattle.pm_register.specs.Trace.{Did, DidSoFar, MayTakeMemory, Shows, put_new}
use Rattle.pm_register.specs.declared.phase.Phase.{Phase}
use Rattle.pm_register.specs.declared.phase.Phase.TheVariants as phases
use Rattle.pm_register.specs.declared.phase.Registration.{Registration}
use Rattle.pm_register.proofs.ChangeLemmas.{Laws, NoneAbove, none-above, put-listed, puts-new, rests, same-content, settles-name, settles-other, swap-effects, within-same}

-- ---- what a phase holds is the consumer's

at_first : (r : Registering) (found : Option (List ℕ)) (x : Registration) → IsOf r (phases.New found x) → (P : Option (List ℕ) → Registration → Type 0)
    → P r.found (registration_of r) → P found x
at_first r found x its P here =
    subst (λ (found : Option (List ℕ)). P found x) (sym its.0) (subst (λ (x : Registration). P r.found x) (sym its.1) here)

at_later : (r : Registering) (x : Registration) → x ≡ registration_of r → (P : Registration → Type 0) → P (registration_of r) → P x
at_later r x its P here = subst P (sym its) here

-- ---- what its calls may leave

module _ (laws : Laws) (me : Actor) (r : Registering) (f : Files) (p : Past) (stands : Stands f p) (is : IsRegistering r) (within : IsWithin r p) where
  abbrev path : List ℕ
  path = consumer_path r.name

  -- where its first call had no effect, the file may be the new one already
  first-same : (found : Option (List ℕ)) (x : Registration) → (later : Past) × RegistersAt me r (phases.New found x) f p f later
  first-same found x =
      let Same : Type 0 = (later : Past) × RegistersAt me r (phases.New found x) f p f later in
      same-content (map.get f path) r.found Same
      (λ found_so. same-content (map.get f path) (Some (new_text r.next)) Same
      (λ new_so.
      let (later, change, wait) = puts-new laws me r f f p is stands within found_so (record { here = new_so; others = λ other apart. refl }) in
      (later, (change, λ was now. wait.claim)))
      (λ other. (p, (rests me r f f p (λ q. refl), λ was now. absurd (other now)))))
      (λ other. (p, (rests me r f f p (λ q. refl), λ was now. absurd (other was))))

  first-made : (found : Option (List ℕ)) (x : Registration) (after : Files) → map.get f path ≡ r.found → Puts f path (Some (new_text r.next)) after
      → (later : Past) × RegistersAt me r (phases.New found x) f p after later × WaitsIn me r false after later
  first-made found x after found_so puts =
      let (later, change, wait) = puts-new laws me r f after p is stands within found_so puts in
      (later, (change, λ was now. wait.claim), wait)

  -- the settled consumer is put
  last-made : (after : Files) → HasPut me r true f p → map.get f path ≡ Some (new_text r.next) → Puts f path (Some (known_text r.next)) after
      → (later : Past) × Registers me r f p after later
  last-made after (inl wait) found_so puts = let made = settles-name laws me r f after p is stands within wait puts in (made.0, made.1)
  last-made after (inr lost) found_so puts = let made = settles-other laws me r f after p is stands within lost found_so puts in (made.0, made.1)

  list-effects : (effect : Effect) → (P : Files → Type 0) → P f → P (after_effect floors_call effect f)
  list-effects effects.None P here = here
  list-effects (effects.Part found) P here = here
  list-effects effects.Whole P here = here

  changes_at : (m : Phase) → IsOf r m → KnowsAt me r m f p → IfSome (next_call m) (λ call. Changes (RegistersAt me r m) call f p)
  changes_at (phases.New found x) its known = at_first r found x its
      (λ (at : Option (List ℕ)) (y : Registration). Changes (RegistersAt me r (phases.New found x)) (new_call y at) f p)
      (swap-effects path (new_text r.next) r.found f (λ (g : Files). (later : Past) × RegistersAt me r (phases.New found x) f p g later) (first-same found x)
      (λ found_so.
      let made = first-made found x (map.insert f path (new_text r.next)) found_so (Puts-insert f path (new_text r.next)) in
      (made.0, made.1)))
  changes_at (phases.Floors x) its known = λ effect.
      list-effects effect (λ (g : Files). (later : Past) × RegistersAt me r (phases.Floors x) f p g later) (p, (rests me r f f p (λ q. refl), tt))
  changes_at (phases.Settle x) its known = at_later r x its
      (λ (y : Registration). Changes (RegistersAt me r (phases.Settle x)) (settle_call y) f p)
      (swap-effects path (known_text r.next) (Some (new_text r.next)) f (λ (g : Files). (later : Past) × RegistersAt me r (phases.Settle x) f p g later)
      (p, (rests me r f f p (λ q. refl), tt))
      (λ found_so.
      let made = last-made (map.insert f path (known_text r.next)) known found_so (Puts-insert f path (known_text r.next)) in
      (made.0, (made.1, tt))))
  changes_at phases.Settled its known = tt
  changes_at phases.Over its known = tt

  -- ---- what it knows afterwards

  still : (m : Phase) (after : Files) (later : Past) → Registers me r f p after later → IsOf r m → KnowsAt me r m after later → Knows me r m after later
  still m after later change its known = (is, its, within-same r p later change.history within, known)

  went_at : (m : Phase) (answer : Answer) (new : Phase) → Goes m answer new → IsOf r m → KnowsAt me r m f p
      → IfSome (next_call m) (λ call. Answers call answer f → Leads (RegistersAt me r m) (Knows me r new) f p (carried call f))
  went_at (phases.New found x) (answers.Swapped swaps.Swapped) new goes its known =
      subst (λ (n : Phase). Answers (new_call x found) (answers.Swapped swaps.Swapped) f
      → Leads (RegistersAt me r (phases.New found x)) (Knows me r n) f p (carried (new_call x found) f)) (sym goes)
      (at_first r found x its
      (λ (at : Option (List ℕ)) (y : Registration). Answers (new_call y at) (answers.Swapped swaps.Swapped) f
      → Leads (RegistersAt me r (phases.New found x)) (Knows me r (phases.Floors y)) f p (carried (new_call y at) f))
      (λ told.
      let call : Call = new_call (registration_of r) r.found in
      let puts : Puts f path (Some (new_text r.next)) (carried call f) = Answers-Changed call (answers.Swapped swaps.Swapped) f told in
      let (later, change, wait) = first-made found x (carried call f) told puts in
      (later, change, still (phases.Floors (registration_of r)) (carried call f) later change.0 refl (inl wait))))
  went_at (phases.Floors x) (answers.Listed names) new goes its known = λ told.
      let none : NoneAbove f r.next =
      none-above f names.items r.next told (subst (λ (y : Registration). Exceeds names.items y.next None) its goes.0) in
      let (later, change, put) = put-listed me r f p none known in
      subst (λ (n : Phase). Leads (RegistersAt me r (phases.Floors x)) (Knows me r n) f p f) (sym goes.1)
      (later, (change, tt), still (phases.Settle x) f later change its put)
  went_at (phases.Settle x) (answers.Swapped swaps.Swapped) new goes its known =
      subst (λ (n : Phase). Answers (settle_call x) (answers.Swapped swaps.Swapped) f
      → Leads (RegistersAt me r (phases.Settle x)) (Knows me r n) f p (carried (settle_call x) f)) (sym goes)
      (at_later r x its
      (λ (y : Registration). Answers (settle_call y) (answers.Swapped swaps.Swapped) f
      → Leads (RegistersAt me r (phases.Settle x)) (Knows me r phases.Settled) f p (carried (settle_call y) f))
      (λ told.
      let call : Call = settle_call (registration_of r) in
      let puts : Puts f path (Some (known_text r.next)) (carried call f) = Answers-Changed call (answers.Swapped swaps.Swapped) f told in
      let (later, change) = last-made (carried call f) known told puts in
      (later, (change, tt), still phases.Settled (carried call f) later change tt tt)))
  went_at m answer new goes its known = absurd goes

  over_knows : (new : Phase) (after : Files) (later : Past) → new ≡ phases.Over → Registers me r f p after later → Knows me r new after later
  over_knows new after later over change =
      subst (λ (m : Phase). Knows me r m after later) (sym over) (still phases.Over after later change tt tt)

  failed_at : (m new : Phase) (effect : Effect) → new ≡ phases.Over → IsOf r m → KnowsAt me r m f p
      → IfSome (next_call m) (λ call. Leads (RegistersAt me r m) (Knows me r new) f p (after_effect call effect f))
  failed_at m new effect over its known = IfSome_then (next_call m) (changes_at m its known)
      (λ call changes.
      let (later, change) = changes effect in
      (later, change, over_knows new (after_effect call effect f) later over change.0))

-- ---- the consumer beside the past

with_name : (me : Actor) (r : Registering) (m new : Phase) (f after : Files) (p : Past) → Leads (RegistersAt me r m) (Knows me r new) f p after
    → Leads (RegistersBeside m) (KnowsBeside new) f (me, r, p) after
with_name me r m new f after p leads = ((me, r, leads.0), (refl, refl, leads.1), leads.2)

pub sound : Laws → Sound next_call Goes (Refuses Shown phases.Over) (Stops phases.Over) StandsBeside RegistersBeside KnowsBeside
sound laws = record {
  changes = λ m f b stands known. IfSome_then (next_call m) (changes_at laws b.0 b.1 f b.2 stands known.0 known.2 m known.1 known.3)
      (λ call changes effect. ((b.0, b.1, (changes effect).0), (refl, refl, (changes effect).1)));
  went = λ m new answer f b goes stands known. IfSome_then (next_call m)
      (went_at laws b.0 b.1 f b.2 stands known.0 known.2 m answer new goes known.1 known.3)
      (λ call leads told. with_name b.0 b.1 m new f (carried call f) b.2 (leads told));
  refused = λ m new answer refusal f b refuses stands known. IfSome_then (next_call m)
      (failed_at laws b.0 b.1 f b.2 stands known.0 known.2 m new effects.Whole refuses.1 known.1 known.3)
      (λ call leads told. with_name b.0 b.1 m new f (carried call f) b.2 leads);
  failed = λ m new effect f b stops stands known. IfSome_then (next_call m)
      (failed_at laws b.0 b.1 f b.2 stands known.0 known.2 m new effect stops known.1 known.3)
      (λ call leads may. with_name b.0 b.1 m new f (after_effect call effect f) b.2 leads);
  stopped = λ m new f b called stops stands known.
      over_knows laws b.0 b.1 f b.2 stands known.0 known.2 new f b.2 stops (rests b.0 b.1 f f b.2 (λ q. refl));
}

keeps_of : (me : Actor) (r : Registering) (old new : Phase) (op : Op) (f : Files)
    → Keeps StandsBeside (RegistersBeside old) (KnowsBeside old) (KnowsBeside new) op f
    → Keeps Stands (RegistersAt me r old) (Knows me r old) (Knows me r new) op f
keeps_of me r old new op f keeps p stands known =
    let both = keeps (me, r, p) stands known in
    let after : Files = after_effect op.call op.effect f in (
      λ effect. at old f p (after_effect op.call effect f) (both.0 effect),
      led p after both.1,
    )
  where
    at : (m : Phase) (f : Files) (p : Past) (after : Files) → ((later : Beside) × RegistersBeside m f (me, r, p) after later)
        → (later : Past) × RegistersAt me r m f p after later
    at m f p after (later, change) = (later.2, change.2)

    led : (p : Past) (after : Files) → Leads (RegistersBeside old) (KnowsBeside new) f (me, r, p) after
        → Leads (RegistersAt me r old) (Knows me r new) f p after
    led p after (later, change, known) = (
      later.2,
      change.2,
      subst (λ (one : Actor). Knows one r new after later.2) change.0 (subst (λ (one : Registering). Knows later.0 one new after later.2) change.1 known),
    )

-- what a step does whichever consumer stands beside the past, it does to the past
pub moves_of : (me : Actor) (r : Registering) (old new : Phase) (before after : StoreView)
    → Moves StandsBeside (RegistersBeside old) (KnowsBeside old) (KnowsBeside new) before after
    → Moves Stands (RegistersAt me r old) (Knows me r old) (Knows me r new) before after
moves_of me r old new before after (inl (op, own, steps)) = inl (
  op,
  own,
  Steps-weaker op
      (λ ops. Keeps StandsBeside (RegistersBeside old) (KnowsBeside old) (KnowsBeside new) op (files_after ops))
      (λ ops. Keeps Stands (RegistersAt me r old) (Knows me r old) (Knows me r new) op (files_after ops)) before after
      (λ ops keeps. keeps_of me r old new op (files_after ops) keeps) steps,
)
moves_of me r old new before after (inr (meanwhile, same)) = inr (meanwhile, λ f p stands known. same f (me, r, p) stands known)

-- ---- its calls

so_far : (r : Registering) (m : Phase) (own : List Event) → IsSome (next_call m) → Did r m own → DidSoFar r m own
so_far r (phases.New found x) own called did = did
so_far r (phases.Floors x) own called did = did
so_far r (phases.Settle x) own called did = did
so_far r phases.Settled own called did = did
so_far r phases.Over own called did = absurd (let clash = called in cc)

-- an event more
more : (own earlier : List Event) (event : Event) → own ≡ earlier → own ++ event ∷ [] ≡ earlier ++ event ∷ []
more own earlier event is = ap (λ (own : List Event). own ++ event ∷ []) is

-- the store failed in a call
failed_in : (r : Registering) (m : Phase) (call : Call) (own : List Event) → DidSoFar r m own → next_call m ≡ Some call
    → Shows r (refusals.StoreFault (path_of call)) (own ++ faulted call ∷ [])
failed_in r (phases.New found x) call own (its, did) next =
    let same : new_call x found ≡ call = cc in
    subst (λ (call : Call). Shows r (refusals.StoreFault (path_of call)) (own ++ faulted call ∷ [])) same
    (at_first r found x its (λ at y. Shows r (refusals.StoreFault (path_of (new_call y at))) (own ++ faulted (new_call y at) ∷ []))
    (inl (refl, more own [] (faulted (new_call (registration_of r) r.found)) did)))
failed_in r (phases.Floors x) call own (its, did) next =
    let same : floors_call ≡ call = cc in
    subst (λ (call : Call). Shows r (refusals.StoreFault (path_of call)) (own ++ faulted call ∷ [])) same
    (inr (inl (refl, more own (put_new r ∷ []) (faulted floors_call) did)))
failed_in r (phases.Settle x) call own (its, did) next =
    let same : settle_call x ≡ call = cc in
    subst (λ (call : Call). Shows r (refusals.StoreFault (path_of call)) (own ++ faulted call ∷ [])) same
    (at_later r x its (λ y. Shows r (refusals.StoreFault (path_of (settle_call y))) (own ++ faulted (settle_call y) ∷ []))
    (inr (inr (refl, own, did, refl))))
failed_in r phases.Settled call own did next = absurd (let clash = next in cc)
failed_in r phases.Over call own did next = absurd did

fails : (r : Registering) (named : List ℕ) (own : List Event) → IsFailed next_call (DidSoFar r) named own → Shows r (refusals.StoreFault named) own
fails r named own failed =
    let shown = failed_in r failed.phase failed.call failed.earlier failed.did_so failed.next in
    let here = subst (λ (own : List Event). Shows r (refusals.StoreFault (path_of failed.call)) own) (sym failed.is) shown in
    subst (λ (named : List ℕ). Shows r (refusals.StoreFault named) own) (sym failed.is_path) here

-- memory ran out before a call
ended_in : (r : Registering) (m : Phase) (own : List Event) → IsSome (next_call m) → DidSoFar r m own → Shows r refusals.Memory own
ended_in r (phases.New found x) own called did = inl did.1
ended_in r (phases.Floors x) own called did = inr (inl did.1)
ended_in r (phases.Settle x) own called did = inr (inr did.1)
ended_in r phases.Settled own called did = absurd (let clash = called in cc)
ended_in r phases.Over own called did = absurd did

memory : (r : Registering) (own : List Event) → MayEnd next_call (DidSoFar r) MayTakeMemory own → Shows r refusals.Memory own
memory r own (before_call m called did) = ended_in r m own called did
memory r own (after_answer m call answer earlier did next may takes is) = absurd takes

went_on : (r : Registering) (m : Phase) (answer : Answer) (new : Phase) (own : List Event) → Goes m answer new → Did r m own
    → IfSome (next_call m) (λ call. MayAnswer call answer → Did r new (own ++ answered call answer ∷ []))
went_on r (phases.New found x) (answers.Swapped swaps.Swapped) new own goes (its, did) = λ may.
    subst (λ (m : Phase). Did r m (own ++ answered (new_call x found) (answers.Swapped swaps.Swapped) ∷ [])) (sym goes)
    (at_first r found x its (λ at y. Did r (phases.Floors y) (own ++ answered (new_call y at) (answers.Swapped swaps.Swapped) ∷ []))
    (refl, more own [] (put_new r) did))
went_on r (phases.Floors x) (answers.Listed names) new own goes (its, did) = λ may.
    let event : Event = answered floors_call (answers.Listed names) in
    subst (λ (m : Phase). Did r m (own ++ event ∷ [])) (sym goes.1)
    (its, (names, subst (λ (y : Registration). Exceeds names.items y.next None) its goes.0, more own (put_new r ∷ []) event did))
went_on r (phases.Settle x) (answers.Swapped swaps.Swapped) new own goes (its, did) = λ may.
    subst (λ (m : Phase). Did r m (own ++ answered (settle_call x) (answers.Swapped swaps.Swapped) ∷ [])) (sym goes)
    (at_later r x its (λ y. Did r phases.Settled (own ++ answered (settle_call y) (answers.Swapped swaps.Swapped) ∷ [])) (own, did, refl))
went_on r m answer new own goes did = absurd goes

refused_on : (r : Registering) (m : Phase) (answer : Answer) (refusal : Refusal) (own : List Event) → Shown m answer refusal → Did r m own
    → IfSome (next_call m) (λ call. MayAnswer call answer → Shows r refusal (own ++ answered call answer ∷ []))
refused_on r (phases.New found x) (answers.Swapped (swaps.Differs other)) refusal own is (its, did) = λ may.
    subst (λ (refusal : Refusal). Shows r refusal (own ++ answered (new_call x found) (answers.Swapped (swaps.Differs other)) ∷ [])) (sym is)
    (at_first r found x its
    (λ at y. Shows r (refusals.ConsumerMoved other) (own ++ answered (new_call y at) (answers.Swapped (swaps.Differs other)) ∷ []))
    (inl (more own [] (answered (new_call (registration_of r) r.found) (answers.Swapped (swaps.Differs other))) did)))
refused_on r (phases.Floors x) (answers.Listed names) refusal own (floor, exceeds, is) (its, did) = λ may.
    let event : Event = answered floors_call (answers.Listed names) in
    subst (λ (refusal : Refusal). Shows r refusal (own ++ event ∷ [])) (sym is) (
      ap (λ (y : Registration). y.next) its,
      (
        names,
        subst (λ (y : Registration). Exceeds names.items y.next (Some floor)) its exceeds,
        more own (put_new r ∷ []) event did,
      ),
    )
refused_on r (phases.Settle x) (answers.Swapped (swaps.Differs other)) refusal own is (its, did) = λ may.
    subst (λ (refusal : Refusal). Shows r refusal (own ++ answered (settle_call x) (answers.Swapped (swaps.Differs other)) ∷ [])) (sym is)
    (at_later r x its (λ y. Shows r (refusals.ConsumerMoved other) (own ++ answered (settle_call y) (answers.Swapped (swaps.Differs other)) ∷ []))
    (inr (own, did, refl)))
refused_on r m answer refusal own shown did = absurd shown

pub recounts : (r : Registering) → Recounts next_call Goes (Refuses Shown phases.Over) (Stops phases.Over) (Did r) (Shows r)
recounts r = recounts_of next_call Goes Shown phases.Over (DidSoFar r) (Did r) MayTakeMemory (Shows r) (so_far r) (λ refusal own shows. (refusal, shows))
    (fails r) (memory r) (went_on r) (refused_on r)

-- ---- how far it has come

-- a step that goes on leaves one call fewer, and what it reached
pub goes : (m : Phase) (answer : Answer) (new : Phase) → Goes m answer new
    → (calls_left new < calls_left m) × Reaches (reached_at new) new × GoesOnce m new
goes (phases.New found x) (answers.Swapped swaps.Swapped) new on =
    subst (λ (new : Phase). (calls_left new < 3) × Reaches (reached_at new) new × GoesOnce (phases.New found x) new) (sym on)
    (omega arith, tt, record { fewer = omega arith; holds = λ r its. its.1 })
goes (phases.Floors x) (answers.Listed names) new on =
    subst (λ (new : Phase). (calls_left new < 2) × Reaches (reached_at new) new × GoesOnce (phases.Floors x) new) (sym on.1)
    (omega arith, tt, record { fewer = omega arith; holds = λ r its. its })
goes (phases.Settle x) (answers.Swapped swaps.Swapped) new on =
    subst (λ (new : Phase). (calls_left new < 1) × Reaches (reached_at new) new × GoesOnce (phases.Settle x) new) (sym on)
    (omega arith, refl, record { fewer = omega arith; holds = λ r its. tt })
goes m answer new on = absurd on

-- with calls left there is a next one
pub has_call : (m : Phase) → 0 < calls_left m → IsSome (next_call m)
has_call (phases.New found x) left = refl
has_call (phases.Floors x) left = refl
has_call (phases.Settle x) left = refl
has_call phases.Settled left = absurd (omega (arith, left))
has_call phases.Over left = absurd (omega (arith, left))

-- ---- what others leave

-- what the law of consumers says of a step
abbrev pub StepsMove : Type 0
StepsMove = (me : Actor) (f after : Files) (p q : Past) (s : TableSchema) (entries grown : List Entry)
    → Stands f p → Advances me f p after q → p.history ≡ table s entries → q.history ≡ table s grown
    → (least later : ℕ) × IsLeast f s least × IsLeast after s later × Holds (moment_of f s entries least p.claims)
    × IsMoved (follower_of me) (moment_of f s entries least p.claims) (moment_of after s grown later q.claims)

-- and that of followers of a change by another
abbrev pub FollowersKeep : Type 0
FollowersKeep = (me other : Follower) (m n : Moment) (name : List ℕ) (next : ℕ) (listed : Bool) → other ≢ me
    → Change other m n → HasRegistered me name next listed m → HasRegistered me name next listed n

-- a table goes on as a table
grown : (s : TableSchema) (entries : List Entry) (later : History) → GoesOn (table s entries) later → (es : List Entry) × (later ≡ table s es)
grown s entries no_table on = absurd on
grown s entries (table t es) on = (es, ap (λ (t : TableSchema). table t es) on.0)

table-on : (s : TableSchema) (h later : History) → GoesOn h later → IsTableOf s h → IsTableOf s later × (count_of h ≤ count_of later)
table-on s no_table later on is = absurd is
table-on s (table t entries) no_table on is = absurd on
table-on s (table t entries) (table u es) on is = (
  on.0 ∙ is,
  (let same : length es ≡ length (entries ++ on.1) = ap length on.2 in let sum = length-append entries on.1 in omega (arith, same, sum)),
)

pub within-on : (r : Registering) (p q : Past) → GoesOn p.history q.history → IsWithin r p → IsWithin r q
within-on r p q on within =
    let (is, more) = table-on within.schema p.history q.history on within.is in
    let low = within.next in
    record { schema = within.schema; is = is; plain = within.plain; next = omega (arith, low, more) }

pub put-still : StepsMove → FollowersKeep → (me other : Actor) (r : Registering) (listed : Bool) (f after : Files) (p q : Past) → Stands f p → Advances other f p after q
    → follower_of other ≢ follower_of me → IsWithin r p → HasPut me r listed f p → HasPut me r listed after q
put-still moved keep me other r listed f after p q stands advances apart within put =
    let (entries, was, folder, known) = at-table f p within.schema stands within.is in
    let (es, now) = grown within.schema entries q.history
    (subst (λ (h : History). GoesOn h q.history) was (goes_on other f after p.history q.history advances.change)) in
    let (least, later, first, last, holds, (between, one, two)) = moved other f after p q within.schema entries es stands advances was now in
    let early : HasRegistered (follower_of me) r.name r.next listed (moment_of f within.schema entries least p.claims) = to f p within.schema entries least put in
    from after q within.schema es later
    (keep (follower_of me) (follower_of other) between (moment_of after within.schema es later q.claims) r.name r.next listed apart two
    (keep (follower_of me) (follower_of other) (moment_of f within.schema entries least p.claims) between r.name r.next listed apart one early))
  where
    to : (f : Files) (p : Past) (s : TableSchema) (entries : List Entry) (least : ℕ) → HasPut me r listed f p
        → HasRegistered (follower_of me) r.name r.next listed (moment_of f s entries least p.claims)
    to f p s entries least (inl wait) = inl (record { claim = wait.claim; file = wait.file })
    to f p s entries least (inr lost) = inr lost

    from : (f : Files) (p : Past) (s : TableSchema) (entries : List Entry) (least : ℕ)
        → HasRegistered (follower_of me) r.name r.next listed (moment_of f s entries least p.claims) → HasPut me r listed f p
    from f p s entries least (inl wait) = inl (record { claim = wait.claim; file = wait.file })
    from f p s entries least (inr lost) = inr lost

knows-at : StepsMove → FollowersKeep → (me other : Actor) (r : Registering) (m : Phase) (f after : Files) (p q : Past) → Stands f p → Advances other f p after q
    → follower_of other ≢ follower_of me → IsWithin r p → KnowsAt me r m f p → KnowsAt me r m after q
knows-at moved keep me other r (phases.New found x) f after p q stands advances apart within known = tt
knows-at moved keep me other r (phases.Floors x) f after p q stands advances apart within known =
    put-still moved keep me other r false f after p q stands advances apart within known
knows-at moved keep me other r (phases.Settle x) f after p q stands advances apart within known =
    put-still moved keep me other r true f after p q stands advances apart within known
knows-at moved keep me other r phases.Settled f after p q stands advances apart within known = tt
knows-at moved keep me other r phases.Over f after p q stands advances apart within known = tt

pub knows_still : StepsMove → FollowersKeep → (me other : Actor) (r : Registering) (m : Phase) (f after : Files) (p q : Past) → Stands f p → Advances other f p after q
    → follower_of other ≢ follower_of me → Knows me r m f p → Knows me r m after q
knows_still moved keep me other r m f after p q stands advances apart (is, its, within, known) = (
  is,
  its,
  within-on r p q (goes_on other f after p.history q.history advances.change) within,
  knows-at moved keep me other r m f after p q stands advances apart within known,
)

-- ---- images

pub images : Laws → (me : Actor) (r : Registering) (m : Phase) (call : Call) (f image : Files) (p : Past) → next_call m ≡ Some call → Stands f p
    → Knows me r m f p → MayLeave call f image → (later : Past) × RegistersAt me r m f p image later × Stands image later
images laws me r m call f image p is stands (own, its, within, known) left =
    let changes : Changes (RegistersAt me r m) call f p = rw is at (changes_at laws me r f p stands own within m its known) in
    let led = image_changed (RegistersAt me r m) call f p changes image left in
    (led.0, led.1, laws.stays me f image p led.0 stands led.1.0.advances)
