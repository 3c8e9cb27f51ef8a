-- The call of a reader of a consumer's file, and what it says where nobody else acts.
use Rattle.std.proofs.Common.{◌≡◌, ◌⊎◌, inl, inr, ℕ, ◌<◌, List, [], IsSome, Result, Ok, Err, refl, sym, subst, arith}
use Rattle.pm_values.specs.declared.refusal.Refusal.{Refusal}
use Rattle.pm_values.specs.declared.refusal.Refusal.TheVariants as refusals
use Rattle.pm_store.specs.Files.{Files}
use Rattle.pm_store.specs.Store.{StoreView, IsLater, at_first_own}
use Rattle.pm_machine.specs.Trace.{Event, Acts, HasTrace, Traces, before_call}
use Rattle.pm_machine.proofs.AloneLaws.{Traces-first}
use Rattle.pm_machine.proofs.Facts.{HasTrace-acts, Traces-none}
use Rattle.pm_machine.proofs.PhaseFacts.{failed_rose}
use Rattle.pm_model_history.specs.History.{History}
use Rattle.pm_model_folder.specs.Folder.{Folder}
use Rattle.pm_model_folder.specs.Paths.{consumer_path}
use Rattle.pm_read_schema.proofs.AllCallsLemmas.{read_still}
use Rattle.pm_read_schema.proofs.StillLemmas.{AreStill, AreTold, ended_still, failed_still, stayed}
use Rattle.pm_read_latest.specs.AllCalls.{IsCaused}
use Rattle.pm_read_consumer.specs.AllCalls.{DidFind, FindsConsumers}
use Rattle.pm_read_consumer.specs.Reader.{next_call, calls_left, IsReady}
use Rattle.pm_read_consumer.specs.Trace.{HasFound, DidSoFar, MayTakeMemory, Shows, Did}
use Rattle.pm_read_consumer.specs.declared.phase.FoundConsumer.{FoundConsumer}
use Rattle.pm_read_consumer.specs.declared.phase.Phase.{Phase}
use Rattle.pm_read_consumer.specs.declared.phase.Phase.TheVariants as phases
use Rattle.pm_read_consumer.proofs.Facts.{not_damaged, spares}

-- ---- its call changes nothing

has_calls : (name : List ℕ) (r : FoundConsumer) (own : List Event) → HasFound name r own → AreStill own
has_calls name r own (says, at) = subst AreStill (sym at) (read_still (consumer_path name), tt)

so_far_calls : (name : List ℕ) (m : Phase) (own : List Event) → IsSome (next_call m) → DidSoFar name m own → AreStill own
so_far_calls name (phases.Read path) own called (at, none) = subst AreStill (sym none) tt
so_far_calls name (phases.Ready r) own called did = has_calls name r own did
so_far_calls name phases.Over own called did = absurd did

shows_calls : (name : List ℕ) (refusal : Refusal) (own : List Event) → Shows name refusal own → AreStill own
shows_calls name refusals.Memory own ends = ended_still next_call (DidSoFar name) MayTakeMemory spares (so_far_calls name) own ends
shows_calls name (refusals.StoreFault path) own failed =
    failed_still next_call (DidSoFar name) MayTakeMemory spares (so_far_calls name) path own failed
shows_calls name (refusals.Damaged path place) own (bytes, is, zero, bad, at) = subst AreStill (sym at) (read_still (consumer_path name), tt)
shows_calls name other own shows = absurd shows

-- ---- what it finds

caused : (f : Files) (h : History) (name : List ℕ) (first after : StoreView) (refusal : Refusal) (own : List Event) → Folder f h
    → Shows name refusal own → AreTold f own → Traces own first after → IsCaused first after refusal
caused f h name first after refusals.Memory own folder shows told trace = tt
caused f h name first after (refusals.StoreFault path) own folder shows told trace =
    failed_rose next_call (DidSoFar name) path own first after shows trace
caused f h name first after (refusals.Damaged path place) own folder (bytes, is, zero, bad, at) told trace =
    not_damaged f h name bytes folder (subst (AreTold f) at told).0 bad
caused f h name first after other own folder shows told trace = absurd shows

pub found_history : (name : List ℕ) (result : Result FoundConsumer Refusal) (before after : StoreView) → HasTrace (DidFind name result) before after
    → FindsConsumers name before after result
found_history name (Ok r) before after (own, (says, at), trace) = λ alone f h has folder.
    let first = at_first_own before after in
    let stay = stayed f own first after (has_calls name r own (says, at)) (Traces-first own before after trace) alone has in
    record { files = stay.0; found = ((subst (AreTold f) at stay.1).0, says); cause = tt }
found_history name (Err refusal) before after (own, shows, trace) = λ alone f h has folder.
    let first = at_first_own before after in
    let rest = Traces-first own before after trace in
    let stay = stayed f own first after (shows_calls name refusal own shows) rest alone has in
    record { files = stay.0; found = tt; cause = caused f h name first after refusal own folder shows stay.1 rest }

-- ---- its step

begun : (name : List ℕ) (store : StoreView) → HasTrace (Did name (phases.Read (consumer_path name))) store store
begun name store = ([], (refl, refl), Traces-none store)

-- memory ran out before it
pub was_stopped : (name : List ℕ) (store : StoreView) → HasTrace (DidFind name (Err refusals.Memory)) store store
was_stopped name store = ([], before_call (phases.Read (consumer_path name)) refl (refl, refl), Traces-none store)

-- once its call was answered it is known what was found
pub now_ready : (m : Phase) → IsReady m ⊎ (0 < calls_left m) → calls_left m < 1 → IsReady m
now_ready m (inl ready) fewer = ready
now_ready m (inr left) fewer = absurd (omega (arith, left, fewer))

pub was_found : (name : List ℕ) (r : FoundConsumer) (old new : Phase) (before after : StoreView) → old ≡ phases.Read (consumer_path name)
    → new ≡ phases.Ready r → Acts (Did name old) (λ own. Did name new own × Unit {0}) before after → IsLater before after
    → HasTrace (DidFind name (Ok r)) before after
was_found name r old new before after first is acted later =
    let trace = subst (λ (m : Phase). HasTrace (Did name m) before before) (sym first) (begun name before) in
    let t = HasTrace-acts {did = Did name old} {before = before} trace acted later in
    (t.0, subst (λ (m : Phase). Did name m t.0) is t.1.0, t.2)

pub was_refused : (name : List ℕ) (refusal : Refusal) (old new : Phase) (before after : StoreView) → old ≡ phases.Read (consumer_path name)
    → Acts (Did name old) (λ own. Did name new own × Shows name refusal own) before after → IsLater before after
    → HasTrace (DidFind name (Err refusal)) before after
was_refused name refusal old new before after first acted later =
    let trace = subst (λ (m : Phase). HasTrace (Did name m) before before) (sym first) (begun name before) in
    let t = HasTrace-acts {did = Did name old} {before = before} trace acted later in
    (t.0, t.1.1, t.2)
