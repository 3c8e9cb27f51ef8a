-- All calls of a reader of a frame, and what they say where nobody else acts.
use Rattle.std.proofs.Common.{◌≡◌, ◌⊎◌, inl, inr, ℕ, ◌<◌, ◌≤◌, List, [], ◌∷◌, length, IfOk, IfErr, IsSome, Result, Ok, Err, Vec, refl, sym, ap, subst, ◌∙◌, arith}
use Rattle.std.specs.FinMap as map
use Rattle.std.specs.Global.{Global}
use Rattle.pm_values.specs.declared.refusal.Refusal.{Refusal}
use Rattle.pm_values.specs.declared.refusal.Refusal.TheVariants as refusals
use Rattle.pm_store.specs.Files.{Files}
use Rattle.pm_store.specs.Store.{StoreView, IsLater, at_first_own}
use Rattle.pm_store.specs.declared.call.Call.{Call}
use Rattle.pm_machine.specs.Trace.{Event, Acts, HasTrace, Traces, before_call}
use Rattle.pm_machine.proofs.AloneLaws.{Traces-first}
use Rattle.pm_machine.proofs.Facts.{HasTrace-acts, Traces-faulted, Traces-none}
use Rattle.pm_schema.specs.declared.schema.TableSchema.{TableSchema}
use Rattle.pm_snapshot.specs.Names.{greatest}
use Rattle.pm_model_contents.specs.Lists.{manifest_path}
use Rattle.pm_model_history.specs.History.{Entry}
use Rattle.pm_model_following.specs.Following.{frame}
use Rattle.pm_model_folder.specs.Folder.{HasTable}
use Rattle.pm_model_folder.specs.Paths.{snapshot_path}
use Rattle.pm_read_schema.proofs.AllCallsLemmas.{read_still}
use Rattle.pm_read_schema.proofs.LeadLemmas.{Leads}
use Rattle.pm_read_schema.proofs.StillLemmas.{AreStill, AreTold, IsStill, ended_still, failed_still, stayed}
use Rattle.pm_read_log.specs.Log.{LogAskedView, log_asked_of}
use Rattle.pm_read_log.specs.LogReader as log
use Rattle.pm_read_log.specs.LogTrace as log_trace
use Rattle.pm_read_log.specs.declared.log_phase.LogPhase.{LogPhase}
use Rattle.pm_read_log.specs.declared.log_phase.LogPhase.TheVariants as logs
use Rattle.pm_read_log.proofs.LogFacts as log_facts
use Rattle.pm_merged_log.specs.Merged.{merged_frame}
use Rattle.pm_read_frame.specs.AllCalls.{DidFrame, Ends, IsCaused, ReadsFrames}
use Rattle.pm_read_frame.specs.Meaning.{HasProducer}
use Rattle.pm_read_frame.specs.Reader.{next_call, calls_left, IsReady}
use Rattle.pm_read_frame.specs.Trace.{DidSoFar, MayTakeMemory, Shows, Did}
use Rattle.pm_read_frame.specs.declared.phase.Phase.{Phase}
use Rattle.pm_read_frame.specs.declared.phase.Phase.TheVariants as phases
use Rattle.pm_read_frame.proofs.AtLemmas.{AtLaws, KnowsAt, lead_at, text_at}
use Rattle.pm_read_frame.proofs.Facts.{spares}
use Rattle.pm_read_frame.proofs.OneLemmas.{CallAt, Goes, IsShown, LeadsTo, Place, absent_lead, again, files, is_shown, lacks_lead, listing, log_part_lead, log_schema, manifests, named_lead, of_failure, of_frame, of_memory, of_refusal, opening, over, part_lead}

-- ---- its calls change nothing

at_still : (a : LogAskedView) (m : Place) (call : Call) → CallAt a m call → IsStill call
at_still a opening call is = subst IsStill (sym is) (read_still (snapshot_path a.id))
at_still a (listing list) call is = subst IsStill (sym is) (read_still (manifest_path list))
at_still a (manifests (meta ∷ rest) es) call is = subst IsStill (sym is) (read_still (manifest_path meta.name))
at_still a (again path) call is = subst IsStill (sym is) (read_still (snapshot_path a.id))
at_still a (files (file ∷ rest) rows) call is = subst IsStill (sym is) (read_still file.path)
at_still a m call is = absurd is

leads_still : (a : LogAskedView) (own : List Event) (m last : Place) → Leads (Goes a) own m last → AreStill own
leads_still a [] m last is = tt
leads_still a (event ∷ own) m last (new, goes, rest) = (at_still a m event.call goes.0, leads_still a own new last rest)

log_so_far : (a : LogAskedView) (m : LogPhase) (own : List Event) → IsSome (log.next_call m) → log_trace.DidSoFar a m own → AreStill own
log_so_far a (logs.Snapshot b) own called (same, none) = subst AreStill (sym none) tt
log_so_far a (logs.List b x list) own called (same, named) = leads_still b own opening (listing list) (named_lead b x list own named)
log_so_far a (logs.Manifests r) own called (same, part) =
    leads_still r.asked own opening (manifests (r.next ∷ r.rest) r.changes) (log_part_lead r.asked r.snapshot r.done (r.next ∷ r.rest) r.changes own part)
log_so_far a (logs.Again b path) own called (same, lacks) = leads_still b own opening (again path) (lacks_lead b path own lacks)
log_so_far a (logs.Ready l) own called did = absurd (let clash = called in cc)
log_so_far a logs.Over own called did = absurd did

log_did : (a : LogAskedView) (m : LogPhase) (own : List Event) → IsSome (log.next_call m) → log_trace.Did a m own → AreStill own
log_did a (logs.Snapshot b) own called did = log_so_far a (logs.Snapshot b) own called did
log_did a (logs.List b x list) own called did = log_so_far a (logs.List b x list) own called did
log_did a (logs.Manifests r) own called did = log_so_far a (logs.Manifests r) own called did
log_did a (logs.Again b path) own called did = log_so_far a (logs.Again b path) own called did
log_did a (logs.Ready l) own called did = absurd (let clash = called in cc)
log_did a logs.Over own called did = absurd (let clash = called in cc)

so_far : (a : LogAskedView) (m : Phase) (own : List Event) → IsSome (next_call m) → DidSoFar a m own → AreStill own
so_far a (phases.Log r) own called did = log_did a r own called did
so_far a (phases.Files r) own called (l, same, id, part) =
    leads_still a own opening (files (r.next ∷ r.rest) r.rows) (part_lead a l r.rows (r.next ∷ r.rest) own part)
so_far a (phases.Again id path) own called (same, lacks) = leads_still a own opening (again path) (absent_lead a path own lacks)
so_far a (phases.Ready id text) own called did = absurd (let clash = called in cc)
so_far a phases.Over own called did = absurd did

-- neither that memory ran out nor that a call failed
abbrev IsFound : Refusal → Type 0
IsFound refusals.Memory = ⊥
IsFound (refusals.StoreFault path) = ⊥
IsFound other = Unit {0}

err_same : (e d : Refusal) → ◌≡◌ {A = Result (List ℕ) Refusal} (Err e) (Err d) → e ≡ d
err_same e d is = cc

err_not : (e : Refusal) (text : List ℕ) → ◌≡◌ {A = Result (List ℕ) Refusal} (Err e) (Ok text) → ⊥
err_not e text is = cc

shown_still : (a : LogAskedView) (e : Refusal) (own : List Event) → IsFound e → IsShown a (Err e) own → AreStill own
shown_still a e own found (of_memory is) = absurd (subst IsFound (err_same e refusals.Memory is) found)
shown_still a e own found (of_failure d is (earlier, call, was, at)) = absurd (subst IsFound (err_same e d is ∙ was) found)
shown_still a e own found (of_refusal d is lead) = leads_still a own opening (over d) lead
shown_still a e own found (of_frame rows is lead) = absurd (err_not e (merged_frame a.schema a.id rows) is)

found_still : (a : LogAskedView) (e : Refusal) (own : List Event) → IsFound e → Shows a e own → AreStill own
found_still a e own found shows = shown_still a e own found (is_shown a (Err e) own shows)

shows_still : (a : LogAskedView) (e : Refusal) (own : List Event) → Shows a e own → AreStill own
shows_still a refusals.Memory own (inl ends) = ended_still log.next_call (log_trace.DidSoFar a) log_trace.MayTakeMemory log_facts.spares (log_so_far a) own ends
shows_still a refusals.Memory own (inr ends) = ended_still next_call (DidSoFar a) MayTakeMemory spares (so_far a) own ends
shows_still a (refusals.StoreFault path) own (inl failed) =
    failed_still log.next_call (log_trace.DidSoFar a) log_trace.MayTakeMemory log_facts.spares (log_so_far a) path own failed
shows_still a (refusals.StoreFault path) own (inr failed) = failed_still next_call (DidSoFar a) MayTakeMemory spares (so_far a) path own failed
shows_still a (refusals.Expired id) own shows = found_still a (refusals.Expired id) own tt shows
shows_still a (refusals.Damaged path place) own shows = found_still a (refusals.Damaged path place) own tt shows
shows_still a (refusals.Unsupported what text) own shows = found_still a (refusals.Unsupported what text) own tt shows
shows_still a e own (inl shows) = absurd shows
shows_still a e own (inr shows) = absurd shows

ends_still : (a : LogAskedView) (made : Result (List ℕ) Refusal) (own : List Event) → Ends a made own → AreStill own
ends_still a (Ok text) own (l, rows, part, is) = leads_still a own opening (files [] rows) (part_lead a l rows [] own part)
ends_still a (Err e) own shows = shows_still a e own shows

-- ---- what they say of the files

text_not : (text : List ℕ) (e : Refusal) → ◌≡◌ {A = Result (List ℕ) Refusal} (Ok text) (Err e) → ⊥
text_not text e is = cc

text_same : (text other : List ℕ) → ◌≡◌ {A = Result (List ℕ) Refusal} (Ok text) (Ok other) → text ≡ other
text_same text other is = cc

module _ (laws : AtLaws) (f : Files) (s : TableSchema) (entries : List Entry) (folder : HasTable f s entries) (id : ℕ) (least : 1 ≤ id) (named : id ≤ greatest) where
  abbrev a : LogAskedView
  a = log_asked_of s id

  abbrev Knows : Place → Type 0
  Knows m = KnowsAt laws f s entries folder id least named m

  reach : (own : List Event) (m : Place) → AreTold f own → LeadsTo a own m → Knows m
  reach own m told lead = lead_at laws f s entries folder id least named own opening m told lead tt

  cause_at : (first after : StoreView) (e : Refusal) (own : List Event) → IsShown a (Err e) own → AreTold f own → Traces own first after → IsCaused f id first after e
  cause_at first after e own (of_memory is) told trace = subst (IsCaused f id first after) (sym (err_same e refusals.Memory is)) tt
  cause_at first after e own (of_failure d is (earlier, call, was, at)) told trace =
      subst (IsCaused f id first after) (sym (err_same e d is ∙ was)) (Traces-faulted earlier call first after (subst (λ (own : List Event). Traces own first after) at trace))
  cause_at first after e own (of_refusal d is lead) told trace =
      let known = reach own (over d) told lead in
      subst (IsCaused f id first after) (sym (err_same e d is ∙ known.0)) (refl, known.1)
  cause_at first after e own (of_frame rows is lead) told trace = absurd (err_not e (merged_frame s id rows) is)

  read_at : (first after : StoreView) (made : Result (List ℕ) Refusal) (own : List Event) → Ends a made own → AreTold f own → Traces own first after
      → IfOk made (λ text. (id ≤ length entries) × IsSome (map.get f (snapshot_path id)) × (HasProducer s → text ≡ frame s entries id))
      × IfErr made (IsCaused f id first after)
  read_at first after (Ok text) own (l, rows, part, is) told trace =
      let made : text ≡ merged_frame s id rows = is ∙ ap (λ (t : TableSchema). merged_frame t id rows) (log_schema a l part.first part.logged) in
      (text_at laws f s entries folder id least named rows text made (reach own (files [] rows) told (part_lead a l rows [] own part)), tt)
  read_at first after (Err e) own shows told trace = (tt, cause_at first after e own (is_shown a (Err e) own shows) told trace)

-- ---- all calls

both_parts : (made : Result (List ℕ) Refusal) (P Q R : List ℕ → Type 0) → IfOk made (λ text. P text × Q text × R text) → IfOk made P × IfOk made Q × IfOk made R
both_parts (Ok text) P Q R all = all
both_parts (Err e) P Q R all = (tt, tt, tt)

pub frame_history : AtLaws → (s : TableSchema) (id : ℕ) (made : Result (List ℕ) Refusal) (before after : StoreView) → 1 ≤ id → HasTrace (DidFrame s id made) before after
    → ReadsFrames s id before after made
frame_history laws s id made before after least (own, did, trace) = λ alone f entries has folder named.
    let first = at_first_own before after in
    let rest = Traces-first own before after trace in
    let stay = stayed f own first after (ends_still (log_asked_of s id) made own did) rest alone has in
    let so = read_at laws f s entries folder id least named first after made own did stay.1 rest in
    let parts = both_parts made (λ text. id ≤ length entries) (λ text. IsSome (map.get f (snapshot_path id))) (λ text. HasProducer s → text ≡ frame s entries id) so.0 in
    record { files = stay.0; within = parts.0; there = parts.1; text = parts.2; cause = so.1 }

-- ---- steps in a row

pub begun : (s : TableSchema) (id : ℕ) (store : StoreView) → HasTrace (Did (log_asked_of s id) (phases.Log (logs.Snapshot (log_asked_of s id)))) store store
begun s id store = ([], (refl, refl), Traces-none store)

pub went_further : (a : LogAskedView) (old new : Phase) (first before after : StoreView) → HasTrace (Did a old) first before
    → Acts (Did a old) (λ own. Did a new own × Unit {0}) before after → IsLater before after → HasTrace (Did a new) first after
went_further a old new first before after trace acted later =
    let t = HasTrace-acts {did = Did a old} {before = before} trace acted later in
    (t.0, t.1.0, t.2)

pub was_refused : (a : LogAskedView) (old new : Phase) (first before after : StoreView) (refusal : Refusal) → HasTrace (Did a old) first before
    → Acts (Did a old) (λ own. Did a new own × Shows a refusal own) before after → IsLater before after → HasTrace (Ends a (Err refusal)) first after
was_refused a old new first before after refusal trace acted later =
    let t = HasTrace-acts {did = Did a old} {before = before} trace acted later in
    (t.0, t.1.1, t.2)

pub was_done : (a : LogAskedView) (m : Phase) (id : ℕ) (text : Vec ℕ Global) (first after : StoreView) → m ≡ phases.Ready id text → HasTrace (Did a m) first after
    → HasTrace (Ends a (Ok text.items)) first after
was_done a m id text first after is (own, did, trace) = (own, (subst (λ (m : Phase). Did a m own) is did).1, trace)

-- a step that went on leaves a call, or the text is ready
pub call_left : (m : Phase) → IsReady m ⊎ (0 < calls_left m) → ¬ IsReady m → 0 < calls_left m
call_left m (inl ready) not = absurd (not ready)
call_left m (inr left) not = left

-- some are left at first
pub first_left : (s : TableSchema) (id : ℕ) (m : Phase) → m ≡ phases.Log (logs.Snapshot (log_asked_of s id)) → 0 < calls_left m
first_left s id m is = subst (λ (m : Phase). 0 < calls_left m) (sym is) (omega arith)

-- memory ran out before the first call
pub none_made : (s : TableSchema) (id : ℕ) (store : StoreView) → HasTrace (DidFrame s id (Err refusals.Memory)) store store
none_made s id store = ([], inr (before_call (phases.Log (logs.Snapshot (log_asked_of s id))) refl (refl, refl)), Traces-none store)

-- all calls from the first on, of a schema that was copied
pub frame_made : (s copy : TableSchema) (id : ℕ) (m : Phase) (made : Result (List ℕ) Refusal) (before after : StoreView) → copy ≡ s
    → m ≡ phases.Log (logs.Snapshot (log_asked_of copy id)) → ((a : LogAskedView) (first : StoreView) → HasTrace (Did a m) first before → HasTrace (Ends a made) first after)
    → HasTrace (DidFrame s id made) before after
frame_made s copy id m made before after same is trace =
    let a = log_asked_of copy id in
    subst (λ (s : TableSchema). HasTrace (DidFrame s id made) before after) same
    (trace a before (subst (λ (m : Phase). HasTrace (Did a m) before before) (sym is) (begun copy id before)))
