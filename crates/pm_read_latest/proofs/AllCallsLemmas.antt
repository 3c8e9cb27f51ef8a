-- The call of a reader of the latest snapshot's id, and what it says where nobody else acts.
use Rattle.std.proofs.Common.{◌≡◌, ◌⊎◌, inl, inr, ℕ, ◌<◌, List, [], IsSome, Result, Ok, Err, refl, sym, subst, arith}
use Rattle.pm_values.specs.declared.refusal.Refusal.{Refusal}
use Rattle.pm_values.specs.declared.refusal.Refusal.TheVariants as refusals
use Rattle.pm_store.specs.Store.{StoreView, IsLater, at_first_own}
use Rattle.pm_machine.specs.Trace.{Event, Acts, HasTrace, Traces}
use Rattle.pm_machine.proofs.AloneLaws.{Traces-first}
use Rattle.pm_machine.proofs.Facts.{HasTrace-acts, Traces-none}
use Rattle.pm_machine.proofs.PhaseFacts.{failed_rose}
use Rattle.pm_model_folder.specs.Paths.{snapshot_folder}
use Rattle.pm_read_schema.proofs.AllCallsLemmas.{list_still}
use Rattle.pm_read_schema.proofs.StillLemmas.{AreStill, AreTold, ended_still, failed_still, stayed}
use Rattle.pm_read_latest.specs.AllCalls.{DidLatest, FindsLatests, IsCaused}
use Rattle.pm_read_latest.specs.Reader.{next_call, calls_left, IsReady}
use Rattle.pm_read_latest.specs.Trace.{DidSoFar, HasLatest, MayTakeMemory, Shows, Did}
use Rattle.pm_read_latest.specs.declared.phase.Phase.{Phase}
use Rattle.pm_read_latest.specs.declared.phase.Phase.TheVariants as phases
use Rattle.pm_read_latest.proofs.Facts.{latest_of, spares}

-- ---- its call changes nothing

has_calls : (latest : ℕ) (own : List Event) → HasLatest latest own → AreStill own
has_calls latest own (names, is, at) = subst AreStill (sym at) (list_still snapshot_folder, tt)

so_far_calls : (m : Phase) (own : List Event) → IsSome (next_call m) → DidSoFar m own → AreStill own
so_far_calls phases.List own called did = subst AreStill (sym did) tt
so_far_calls (phases.Ready latest) own called did = has_calls latest own did
so_far_calls phases.Over own called did = absurd did

shows_calls : (refusal : Refusal) (own : List Event) → Shows refusal own → AreStill own
shows_calls refusals.Memory own ends = ended_still next_call DidSoFar MayTakeMemory spares so_far_calls own ends
shows_calls (refusals.StoreFault path) own failed = failed_still next_call DidSoFar MayTakeMemory spares so_far_calls path own failed
shows_calls other own shows = absurd shows

caused : (first after : StoreView) (refusal : Refusal) (own : List Event) → Shows refusal own → Traces own first after → IsCaused first after refusal
caused first after refusals.Memory own shows trace = tt
caused first after (refusals.StoreFault path) own shows trace = failed_rose next_call DidSoFar path own first after shows trace
caused first after other own shows trace = absurd shows

-- ---- what it finds

pub found_history : (result : Result ℕ Refusal) (before after : StoreView) → HasTrace (DidLatest result) before after → FindsLatests before after result
found_history (Ok latest) before after (own, (names, is, at), trace) = λ alone f h has folder.
    let first = at_first_own before after in
    let stay = stayed f own first after (has_calls latest own (names, is, at)) (Traces-first own before after trace) alone has in
    let told = (subst (AreTold f) at stay.1).0 in
    record { files = stay.0; latest = latest_of f h latest names.items folder is told; cause = tt }
found_history (Err refusal) before after (own, shows, trace) = λ alone f h has folder.
    let first = at_first_own before after in
    let rest = Traces-first own before after trace in
    let stay = stayed f own first after (shows_calls refusal own shows) rest alone has in
    record { files = stay.0; latest = tt; cause = caused first after refusal own shows rest }

-- ---- its step

begun : (store : StoreView) → HasTrace (Did phases.List) store store
begun store = ([], refl, Traces-none store)

-- once its call was answered the id is known
pub now_ready : (m : Phase) → IsReady m ⊎ (0 < calls_left m) → calls_left m < 1 → IsReady m
now_ready m (inl ready) fewer = ready
now_ready m (inr left) fewer = absurd (omega (arith, left, fewer))

pub was_found : (latest : ℕ) (old new : Phase) (before after : StoreView) → old ≡ phases.List → new ≡ phases.Ready latest
    → Acts (Did old) (λ own. Did new own × Unit {0}) before after → IsLater before after → HasTrace (DidLatest (Ok latest)) before after
was_found latest old new before after first is acted later =
    let trace = subst (λ (m : Phase). HasTrace (Did m) before before) (sym first) (begun before) in
    let t = HasTrace-acts {did = Did old} {before = before} trace acted later in
    (t.0, subst (λ (m : Phase). Did m t.0) is t.1.0, t.2)

pub was_refused : (refusal : Refusal) (old new : Phase) (before after : StoreView) → old ≡ phases.List
    → Acts (Did old) (λ own. Did new own × Shows refusal own) before after → IsLater before after → HasTrace (DidLatest (Err refusal)) before after
was_refused refusal old new before after first acted later =
    let trace = subst (λ (m : Phase). HasTrace (Did m) before before) (sym first) (begun before) in
    let t = HasTrace-acts {did = Did old} {before = before} trace acted later in
    (t.0, t.1.1, t.2)
