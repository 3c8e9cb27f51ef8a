-- All calls of a reader of a schema, and what they say where nobody else acts.
use Rattle.std.proofs.Common.{◌≡◌, ◌⊎◌, inl, inr, ℕ, ◌<◌, List, [], ◌∷◌, ◌++◌, codes, Option, None, Some, IsSome, Result, Ok, Err, refl, sym, subst}
use Rattle.std.specs.FinMap as map
use Rattle.pm_values.specs.declared.refusal.Refusal.{Refusal}
use Rattle.pm_values.specs.declared.refusal.Refusal.TheVariants as refusals
use Rattle.pm_store.specs.declared.answer.Answer.TheVariants as answers
use Rattle.pm_store.specs.declared.call.Call.TheVariants as calls
use Rattle.pm_store.specs.Files.{Files}
use Rattle.pm_store.specs.Store.{StoreView, IsLater, at_first_own}
use Rattle.pm_machine.specs.Trace.{Event, Acts, HasTrace, Traces}
use Rattle.pm_machine.proofs.AloneLaws.{Traces-first}
use Rattle.pm_machine.proofs.Facts.{HasTrace-acts, Traces-none}
use Rattle.pm_machine.proofs.PhaseFacts.{failed_rose}
use Rattle.pm_model_history.specs.History.{History, IsTableOf}
use Rattle.pm_schema.specs.declared.schema.TableSchema.{TableSchema}
use Rattle.pm_model_folder.specs.Folder.{Folder}
use Rattle.pm_model_folder.specs.Paths.{schema_folder, schema_path, snapshot_folder}
use Rattle.pm_read_schema.specs.AllCalls.{DidRead, IsCaused, ReadsTables}
use Rattle.pm_read_schema.specs.Meaning.{IsSchemaId, MayRefuse}
use Rattle.pm_read_schema.specs.Reader.{next_call, calls_left, IsReady}
use Rattle.pm_read_schema.specs.Trace.{Names, listed_schemas, read_schema, listed_snapshots, Lists, Reads, Has, Looks, Misreads, LacksOrigin, DidSoFar, MayTakeMemory, Shows, Did}
use Rattle.pm_read_schema.specs.declared.phase.Phase.{Phase}
use Rattle.pm_read_schema.specs.declared.phase.Phase.TheVariants as phases
use Rattle.pm_read_schema.proofs.Facts.{list_effect, read_effect, led_schema, own_schema, cause_at, spares}
use Rattle.pm_read_schema.proofs.StillLemmas.{IsStill, AreStill, IsTold, AreTold, calls_more, ended_still, failed_still, told_last, stayed}

-- ---- its calls change nothing

pub list_still : (folder : List ℕ) → IsStill (calls.List folder)
list_still folder = λ f effect. list_effect folder effect f

pub read_still : (path : List ℕ) → IsStill (calls.Read path)
read_still path = λ f effect. read_effect path effect f

lists_calls : (id : ℕ) (own : List Event) → Lists id own → AreStill own
lists_calls id own (names, newest, is) = subst AreStill (sym is) (list_still schema_folder, tt)

reads_calls : (id : ℕ) (found : Option (List ℕ)) (own : List Event) → Reads id found own → AreStill own
reads_calls id found own (earlier, lists, is) =
    subst AreStill (sym is) (calls_more earlier (read_schema id found) (lists_calls id earlier lists) (read_still (schema_path id)))

has_calls : (s : TableSchema) (own : List Event) → Has s own → AreStill own
has_calls s own (id, bytes, reads, did) = reads_calls id (Some bytes) own did

looks_calls : (s : TableSchema) (names : Names) (own : List Event) → Looks s names own → AreStill own
looks_calls s names own (earlier, has, none, is) =
    subst AreStill (sym is) (calls_more earlier (listed_snapshots names) (has_calls s earlier has) (list_still snapshot_folder))

pub ready_calls : (s : TableSchema) (own : List Event) → Did (phases.Ready s) own → AreStill own
ready_calls s own (inl (has, some)) = has_calls s own has
ready_calls s own (inr (names, some, looks)) = looks_calls s names own looks

-- there are some
not_pushed : (own : List Event) (event : Event) → [] ≡ own ++ event ∷ [] → ⊥
not_pushed [] event e = cc
not_pushed (first ∷ own) event e = cc

pub ready_some : (s : TableSchema) → Did (phases.Ready s) [] → ⊥
ready_some s (inl ((id, bytes, reads, (earlier, lists, is)), some)) = not_pushed earlier (read_schema id (Some bytes)) is
ready_some s (inr (names, some, (earlier, has, none, is))) = not_pushed earlier (listed_snapshots names) is

misreads_calls : (refusal : Refusal) (own : List Event) → Misreads refusal own → AreStill own
misreads_calls refusal own (id, bytes, is, did) = reads_calls id (Some bytes) own did

lacks_calls : (own : List Event) → LacksOrigin own → AreStill own
lacks_calls own (s, names, none, looks) = looks_calls s names own looks

so_far_calls : (m : Phase) (own : List Event) → IsSome (next_call m) → DidSoFar m own → AreStill own
so_far_calls phases.Schemas own called did = subst AreStill (sym did) tt
so_far_calls (phases.Schema id) own called did = lists_calls id own did
so_far_calls (phases.Snapshots s) own called did = has_calls s own did.0
so_far_calls (phases.Ready s) own called did = ready_calls s own did
so_far_calls phases.Over own called did = absurd did

pub shows_calls : (refusal : Refusal) (own : List Event) → Shows refusal own → AreStill own
shows_calls refusals.Memory own ends = ended_still next_call DidSoFar MayTakeMemory spares so_far_calls own ends
shows_calls refusals.NoTable own (names, none, is) = subst AreStill (sym is) (list_still schema_folder, tt)
shows_calls (refusals.StoreFault path) own failed = failed_still next_call DidSoFar MayTakeMemory spares so_far_calls path own failed
shows_calls (refusals.Damaged path place) own (inl (id, at, zero, did)) = reads_calls id None own did
shows_calls (refusals.Damaged path place) own (inr misreads) = misreads_calls (refusals.Damaged path place) own misreads
shows_calls (refusals.Unsupported what text) own (inl (what_is, text_is, lacks)) = lacks_calls own lacks
shows_calls (refusals.Unsupported what text) own (inr misreads) = misreads_calls (refusals.Unsupported what text) own misreads
shows_calls (refusals.Limit which number) own misreads = misreads_calls (refusals.Limit which number) own misreads
shows_calls (refusals.SchemaRule rule) own misreads = misreads_calls (refusals.SchemaRule rule) own misreads
shows_calls other own shows = absurd shows

-- ---- what they say of the files that each answer is of

module _ (f : Files) (h : History) (folder : Folder f h) where
  lists_at : (id : ℕ) (own : List Event) → Lists id own → AreTold f own → IsSchemaId id h
  lists_at id own (names, newest, is) told =
      let one : IsTold f (listed_schemas names) = (subst (AreTold f) is told).0 in
      led_schema f h id folder newest.within ((one.exact _).0 newest.listed)

  reads_at : (id : ℕ) (found : Option (List ℕ)) (own : List Event) → Reads id found own → AreTold f own
      → IsSchemaId id h × (found ≡ map.get f (schema_path id))
  reads_at id found own (earlier, lists, is) told =
      let parts = told_last f earlier (read_schema id found) (subst (AreTold f) is told) in
      (lists_at id earlier lists parts.0, parts.1)

  has_at : (s : TableSchema) (own : List Event) → Has s own → AreTold f own → IsTableOf s h
  has_at s own (id, bytes, reads, did) told =
      let at = reads_at id (Some bytes) own did told in
      own_schema f h id bytes s folder at.0 at.1 reads

  pub ready_at : (s : TableSchema) (own : List Event) → Did (phases.Ready s) own → AreTold f own → IsTableOf s h
  ready_at s own (inl (has, some)) told = has_at s own has told
  ready_at s own (inr (names, some, (earlier, has, none, is))) told =
      has_at s earlier has (told_last f earlier (listed_snapshots names) (subst (AreTold f) is told)).0

  pub misreads_at : (refusal : Refusal) (own : List Event) → Misreads refusal own → AreTold f own → MayRefuse h refusal
  misreads_at refusal own (id, bytes, is, did) told =
      let at = reads_at id (Some bytes) own did told in
      cause_at (phases.Schema id) (answers.Found (Some bytes)) refusal f h folder at.0 (inr is) at.1

  pub lacks_at : (own : List Event) → LacksOrigin own → AreTold f own → ⊥
  lacks_at own (s, names, none, (earlier, has, no_origin, is)) told =
      let parts = told_last f earlier (listed_snapshots names) (subst (AreTold f) is told) in
      cause_at (phases.Snapshots s) (answers.Listed names) (refusals.Unsupported (codes "origin") []) f h folder
      (has_at s earlier has parts.0, no_origin) (inr refl, none) parts.1

  pub absent_at : (id : ℕ) (own : List Event) → Reads id None own → AreTold f own → ⊥
  absent_at id own did told =
      let at = reads_at id None own did told in
      cause_at (phases.Schema id) (answers.Found None) (refusals.Damaged (schema_path id) 0) f h folder at.0 (inr refl) at.1

  pub shows_at : (first after : StoreView) (refusal : Refusal) (own : List Event) → Shows refusal own → AreTold f own → Traces own first after
      → IsCaused h first after refusal
  shows_at first after refusals.Memory own shows told trace = tt
  shows_at first after refusals.NoTable own (names, none, is) told trace =
      cause_at phases.Schemas (answers.Listed names) refusals.NoTable f h folder tt (refl, none) (subst (AreTold f) is told).0
  shows_at first after (refusals.StoreFault path) own shows told trace = failed_rose next_call DidSoFar path own first after shows trace
  shows_at first after (refusals.Damaged path place) own (inl (id, at, zero, did)) told trace = absent_at id own did told
  shows_at first after (refusals.Damaged path place) own (inr misreads) told trace = misreads_at (refusals.Damaged path place) own misreads told
  shows_at first after (refusals.Unsupported what text) own (inl (what_is, text_is, lacks)) told trace = lacks_at own lacks told
  shows_at first after (refusals.Unsupported what text) own (inr misreads) told trace = misreads_at (refusals.Unsupported what text) own misreads told
  shows_at first after (refusals.Limit which number) own misreads told trace = misreads_at (refusals.Limit which number) own misreads told
  shows_at first after (refusals.SchemaRule rule) own misreads told trace = misreads_at (refusals.SchemaRule rule) own misreads told
  shows_at first after other own shows told trace = absurd shows

-- ---- all calls

pub read_history : (result : Result TableSchema Refusal) (before after : StoreView) → HasTrace (DidRead result) before after
    → ReadsTables before after result
read_history (Ok s) before after (own, did, trace) = λ alone f h has folder.
    let first = at_first_own before after in
    let stay = stayed f own first after (ready_calls s own did) (Traces-first own before after trace) alone has in
    record { files = stay.0; schema = ready_at f h folder s own did stay.1; cause = tt }
read_history (Err refusal) before after (own, shows, trace) = λ alone f h has folder.
    let first = at_first_own before after in
    let rest = Traces-first own before after trace in
    let stay = stayed f own first after (shows_calls refusal own shows) rest alone has in
    record { files = stay.0; schema = tt; cause = shows_at f h folder first after refusal own shows stay.1 rest }

-- ---- steps in a row

pub begun : (store : StoreView) → HasTrace (Did phases.Schemas) store store
begun store = ([], refl, Traces-none store)

pub went_further : (old new : Phase) (first before after : StoreView) → HasTrace (Did old) first before
    → Acts (Did old) (λ own. Did new own × Unit {0}) before after → IsLater before after → HasTrace (Did new) first after
went_further old new first before after trace acted later =
    let t = HasTrace-acts {did = Did old} {before = before} trace acted later in
    (t.0, t.1.0, t.2)

pub was_refused : (old new : Phase) (first before after : StoreView) (refusal : Refusal) → HasTrace (Did old) first before
    → Acts (Did old) (λ own. Did new own × Shows refusal own) before after → IsLater before after → HasTrace (DidRead (Err refusal)) first after
was_refused old new first before after refusal trace acted later =
    let t = HasTrace-acts {did = Did old} {before = before} trace acted later in
    (t.0, t.1.1, t.2)

-- a step that went on leaves a call, or the schema is ready
pub call_left : (m : Phase) → IsReady m ⊎ (0 < calls_left m) → ¬ IsReady m → 0 < calls_left m
call_left m (inl ready) not = absurd (not ready)
call_left m (inr left) not = left
