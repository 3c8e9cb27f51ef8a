-- A reader of a whole view keeps the laws of machines.
use Rattle.std.proofs.Common.{◌≡◌, ◌⊎◌, inl, inr, ℕ, ◌<◌, ◌+◌, List, [], ◌∷◌, ◌++◌, None, Some, IsSome, IfSome, Ok, refl, sym, ap, ◌∙◌, subst, arith, append_assoc}
use Rattle.std.proofs.lemmas.List.{append-nil}
use Rattle.std.proofs.lemmas.Option.{IfSome_then}
use Rattle.pm_values.specs.declared.refusal.Refusal.{Refusal}
use Rattle.pm_values.specs.declared.refusal.Refusal.TheVariants as refusals
use Rattle.pm_store.specs.declared.answer.Answer.{Answer}
use Rattle.pm_store.specs.declared.answer.Answer.TheVariants as answers
use Rattle.pm_store.specs.declared.call.Call.{Call}
use Rattle.pm_store.specs.declared.call.Call.TheVariants as calls
use Rattle.pm_store.specs.Answers.{Answers, MayAnswer}
use Rattle.pm_store.specs.Files.{Files}
use Rattle.pm_store.specs.Images.{MayLeave}
use Rattle.pm_machine.specs.Moves.{IsKept, Sound}
use Rattle.pm_machine.specs.Running.{Refuses, Stops}
use Rattle.pm_machine.specs.Step.{path_of}
use Rattle.pm_machine.specs.Trace.{Event, Recounts, after_answer, answered, faulted}
use Rattle.pm_machine.proofs.PhaseFacts.{Spares, image_spared, sound_of_spared}
use Rattle.pm_snapshot.specs.Snapshot.{snapshot_in}
use Rattle.pm_snapshot.specs.declared.snapshot.Snapshot.{Snapshot}
use Rattle.pm_schema.specs.declared.schema.TableSchema.{TableSchema}
use Rattle.pm_manifest.specs.declared.entry.Entry.{Entry}
use Rattle.pm_manifest.specs.declared.entry.ManifestMeta.{ManifestMeta}
use Rattle.pm_model_contents.specs.Lists.{manifest_path}
use Rattle.pm_model_folder.specs.Changes.{Actor}
use Rattle.pm_model_folder.specs.Ledger.{Advances, Past, Stands}
use Rattle.pm_model_folder.specs.Paths.{snapshot_path}
use Rattle.pm_read_log.specs.Log.{LogAskedView, log_asked_of}
use Rattle.pm_read_log.specs.LogMeaning as log_meaning
use Rattle.pm_read_log.specs.LogReader as log
use Rattle.pm_read_log.specs.LogTrace as log_trace
use Rattle.pm_read_table.specs.Meaning as reader_meaning
use Rattle.pm_read_table.specs.Meaning.{IsViewIn, Stood, view_origin, view_snapshot}
use Rattle.pm_read_table.specs.Reader as reader
use Rattle.pm_read_table.specs.Reader.{most}
use Rattle.pm_read_table.specs.Trace as reader_trace
use Rattle.pm_read_table.specs.Trace.{of_origin, of_snapshot, read_file}
use Rattle.pm_read_log.specs.declared.log.Log.{Log}
use Rattle.pm_read_log.specs.declared.log_phase.LogPhase.{LogPhase}
use Rattle.pm_read_log.specs.declared.log_phase.LogPhase.TheVariants as logs
use Rattle.pm_read_table.specs.declared.phase.Phase as view_phase
use Rattle.pm_read_table.specs.declared.phase.Phase.TheVariants as readers
use Rattle.pm_read_table.specs.declared.view.View.{View}
use Rattle.pm_read_table.proofs.Facts as reader_facts
use Rattle.pm_read_table.proofs.Facts.{Joined, OneList}
use Rattle.pm_read_table.proofs.WithinLemmas.{with_reader}
use Rattle.pm_read_log.proofs.LogFacts as log_facts
use Rattle.pm_read_whole.specs.Meaning.{Knows}
use Rattle.pm_read_whole.specs.Trace.{Did, Follows, Shows, read_first, view_asked}
use Rattle.pm_read_whole.specs.Whole.{next_call, calls_left, AfterLog, AfterView, Goes, IsReady, IsWhole, BeginsLog, Shown}
use Rattle.pm_read_whole.specs.declared.phase.Phase.{Phase}
use Rattle.pm_read_whole.specs.declared.phase.Phase.TheVariants as phases
use Rattle.pm_read_whole.proofs.AfterLemmas.{some_same}

-- ---- its calls change nothing

pub spares : (m : Phase) (f : Files) → IfSome (next_call m) (Spares f)
spares (phases.View r) f = reader_facts.spares r f
spares (phases.Log v r) f = log_facts.spares r f
spares (phases.Ready v l) f = tt
spares phases.Over f = tt

-- ---- what it knows

-- the phase with a reader of the changelog, or with the changelog; what is so of the reader is so of it once it is ready
with_log : (v : View) (Q : LogPhase → Type 0) (X : Type 0) (m : LogPhase) (later : Phase) → AfterLog v m later → Q m → (later ≡ phases.Log v m → X)
    → ((l : Log) → Q (logs.Ready l) → later ≡ phases.Ready v l → X) → X
with_log v Q X (logs.Snapshot a) later is so held ready = held is
with_log v Q X (logs.List a x list) later is so held ready = held is
with_log v Q X (logs.Manifests r) later is so held ready = held is
with_log v Q X (logs.Again a path) later is so held ready = held is
with_log v Q X (logs.Ready l) later is so held ready = ready l so is
with_log v Q X logs.Over later is so held ready = held is

-- the snapshot of a view stood as it was read
stood_of : (p : Past) (v : View) (x : Snapshot) → IsViewIn p v → v.snapshot ≡ Some x → Stood p v.schema x
stood_of p v x (view_origin is) at = absurd (let clash : None ≡ Some x = sym is.snapshot ∙ at in cc)
stood_of p v x (view_snapshot y base delta entries live stood has leaves is) at =
    subst (Stood p v.schema) (some_same y x (sym is.snapshot ∙ at)) stood

log_known : (v : View) (to : LogPhase) (new : Phase) (f : Files) (p : Past) → AfterLog v to new → reader_meaning.Knows (readers.Ready v) f p → log_meaning.Knows to f p
    → Knows new f p
log_known v to new f p after viewed known = with_log v (λ m. log_meaning.Knows m f p) (Knows new f p) to new after known
    (λ is. subst (λ (m : Phase). Knows m f p) (sym is) (viewed, known))
    (λ l logged is. subst (λ (m : Phase). Knows m f p) (sym is) (viewed, logged))

-- once the view is ready
opened_known : (v : View) (new : Phase) (f : Files) (p : Past) → BeginsLog v new → reader_meaning.Knows (readers.Ready v) f p → Knows new f p
opened_known v new f p (to, (x, at, opens), after) known =
    log_known v to new f p after known
    (log_facts.opens_known f p (log_asked_of v.schema x.id) x x.changelog_list to refl opens (stood_of p v x known.1 at) refl)

after_known : (to : view_phase.Phase) (new : Phase) (f : Files) (p : Past) → AfterView to new → reader_meaning.Knows to f p → Knows new f p
after_known to new f p after known =
    with_reader (λ m. phases.View m) BeginsLog (λ m. reader_meaning.Knows m f p) (Knows new f p) to new after known
    (λ is. subst (λ (m : Phase). Knows m f p) (sym is) known) (λ v viewed opens. opened_known v new f p opens viewed)

-- what an answer leads to is known of the same files
knows_next : Joined → OneList → (m : Phase) (answer : Answer) (new : Phase) (f : Files) (p : Past) → Goes m answer new → Stands f p → Knows m f p
    → IfSome (next_call m) (λ call. Answers call answer f → Knows new f p)
knows_next law one (phases.View r) answer new f p (to, on, after) stands known =
    IfSome_then (reader.next_call r) (reader_facts.knows_next law one r answer to f p on stands known)
    (λ call next told. after_known to new f p after (next told))
knows_next law one (phases.Log v r) answer new f p (to, on, after) stands (viewed, known) =
    IfSome_then (log.next_call r) (log_facts.knows_next one r answer to f p on stands known)
    (λ call next told. log_known v to new f p after viewed (next told))
knows_next law one m answer new f p goes stands known = absurd goes

pub sound : Joined → OneList → Sound next_call Goes (Refuses Shown phases.Over) (Stops phases.Over) Stands (λ m. IsKept) Knows
sound law one = sound_of_spared next_call Goes Shown phases.Over Stands Knows spares (knows_next law one) (λ f p. tt)

-- ---- its calls

-- the calls began with the read of the snapshot, which is this one
record BeganWith (a : LogAskedView) (x : Snapshot) (own : List Event) : Type 0 where
  bytes : List ℕ
  rest : List Event
  has : log_trace.Has a x (read_first a bytes ∷ [])
  id : x.id ≡ a.id
  is : own ≡ read_first a bytes ∷ rest

began_has : (a : LogAskedView) (x : Snapshot) (own : List Event) → reader_trace.Has (view_asked a) x own → BeganWith a x own
began_has a x own (bytes, least, reads, schema, (earlier, (asked, none), is)) = record {
  bytes = bytes;
  rest = [];
  has = (bytes, subst (λ (id : ℕ). snapshot_in id bytes ≡ Ok x) asked reads, schema, refl);
  id = asked;
  is = is ∙ ap (λ (own : List Event). own ++ read_file (snapshot_path x.id) (Some bytes) ∷ []) none
      ∙ ap (λ (id : ℕ). read_file (snapshot_path id) (Some bytes) ∷ []) asked;
}

began_more : (a : LogAskedView) (x : Snapshot) (own more now : List Event) → now ≡ own ++ more → BeganWith a x own → BeganWith a x now
began_more a x own more now same began = record {
  bytes = began.bytes;
  rest = began.rest ++ more;
  has = began.has;
  id = began.id;
  is = same ∙ ap (λ (own : List Event). own ++ more) began.is;
}

began_base : (a : LogAskedView) (x : Snapshot) (base : List ManifestMeta) (own : List Event) → reader_trace.HasBase (view_asked a) x base own → BeganWith a x own
began_base a x base own (bytes, list, (earlier, has, is)) =
    began_more a x earlier (read_file (manifest_path x.base_list) (Some bytes) ∷ []) own is (began_has a x earlier has)

began_delta : (a : LogAskedView) (x : Snapshot) (base delta : List ManifestMeta) (own : List Event) → reader_trace.HasDelta (view_asked a) x base delta own → BeganWith a x own
began_delta a x base delta own (bytes, list, (earlier, has, is)) =
    began_more a x earlier (read_file (manifest_path x.delta_list) (Some bytes) ∷ []) own is (began_base a x base earlier has)

began_part : (a : LogAskedView) (x : Snapshot) (done rest : List ManifestMeta) (entries : List Entry) (own : List Event)
    → reader_trace.HasPart (view_asked a) x done rest entries own → BeganWith a x own
began_part a x done rest entries own part =
    began_more a x part.lists part.reads own part.is (began_delta a x part.base part.delta part.lists part.listed)

began_view : (a : LogAskedView) (v : View) (x : Snapshot) (own : List Event) → reader_trace.HasView (view_asked a) v own → v.snapshot ≡ Some x
    → BeganWith a x own × (v.schema ≡ a.schema)
began_view a v x own (of_origin bytes view reads) at = absurd (let clash : None ≡ Some x = sym view.snapshot ∙ at in cc)
began_view a v x own (of_snapshot y metas entries live part left view) at =
    (subst (λ (y : Snapshot). BeganWith a y own) (some_same y x (sym view.snapshot ∙ at)) (began_part a y metas [] entries own part), view.schema)

-- the view was just read, and its first call counts among the changelog's
follows_first : (a : LogAskedView) (v : View) (x : Snapshot) (own : List Event) (P : List Event → Type 0) → (began : BeganWith a x own)
    → reader_trace.Did (view_asked a) (readers.Ready v) own → P (read_first a began.bytes ∷ []) → Follows a v P own
follows_first a v x own P began viewed logged = record {
  bytes = began.bytes;
  rest = began.rest;
  later = [];
  viewed = subst (reader_trace.Did (view_asked a) (readers.Ready v)) began.is viewed;
  logged = logged;
  is = began.is ∙ sym (append-nil (read_first a began.bytes ∷ began.rest));
}

-- and a call more
follows_with : (a : LogAskedView) (v : View) (P Q : List Event → Type 0) (own : List Event) (event : Event) → (follows : Follows a v P own)
    → Q ((read_first a follows.bytes ∷ follows.later) ++ event ∷ []) → Follows a v Q (own ++ event ∷ [])
follows_with a v P Q own event follows logged = record {
  bytes = follows.bytes;
  rest = follows.rest;
  later = follows.later ++ event ∷ [];
  viewed = follows.viewed;
  logged = logged;
  is = ap (λ (own : List Event). own ++ event ∷ []) follows.is
      ∙ append_assoc (read_first a follows.bytes ∷ follows.rest) follows.later (event ∷ []);
}

log_did : (a : LogAskedView) (v : View) (to : LogPhase) (new : Phase) (own : List Event) → AfterLog v to new → Follows a v (log_trace.Did a to) own → Did a new own
log_did a v to new own after follows = with_log v (λ m. Follows a v (log_trace.Did a m) own) (Did a new own) to new after follows
    (λ is. subst (λ (m : Phase). Did a m own) (sym is) follows)
    (λ l logged is. subst (λ (m : Phase). Did a m own) (sym is) logged)

asked_same : (s : TableSchema) (id : ℕ) (a : LogAskedView) → s ≡ a.schema → id ≡ a.id → log_asked_of s id ≡ a
asked_same s id a schema same = ap (λ (s : TableSchema). log_asked_of s id) schema ∙ ap (λ (id : ℕ). log_asked_of a.schema id) same

opened_did : (a : LogAskedView) (v : View) (new : Phase) (own : List Event) → BeginsLog v new → reader_trace.Did (view_asked a) (readers.Ready v) own
    → Did a new own
opened_did a v new own (to, (x, at, opens), after) viewed =
    let both = began_view a v x own viewed.0 at in
    let began = both.0 in
    let asked : log_asked_of v.schema x.id ≡ a = asked_same v.schema x.id a both.1 began.id in
    let first : List Event = read_first a began.bytes ∷ [] in
    let has : log_trace.Has (log_asked_of v.schema x.id) x first = subst (λ (b : LogAskedView). log_trace.Has b x first) (sym asked) began.has in
    log_did a v to new own after
    (follows_first a v x own (log_trace.Did a to) began viewed (log_facts.opens_did a (log_asked_of v.schema x.id) x x.changelog_list to first asked refl opens has))

did_after : (a : LogAskedView) (to : view_phase.Phase) (new : Phase) (own : List Event) → AfterView to new → reader_trace.Did (view_asked a) to own → Did a new own
did_after a to new own after did =
    with_reader (λ m. phases.View m) BeginsLog (λ m. reader_trace.Did (view_asked a) m own) (Did a new own) to new after did
    (λ is. subst (λ (m : Phase). Did a m own) (sym is) did) (λ v viewed opens. opened_did a v new own opens viewed)

went_on : Joined → (a : LogAskedView) (m : Phase) (answer : Answer) (new : Phase) (own : List Event) → Goes m answer new → Did a m own
    → IfSome (next_call m) (λ call. MayAnswer call answer → Did a new (own ++ answered call answer ∷ []))
went_on law a (phases.View r) answer new own (to, on, after) did =
    IfSome_then (reader.next_call r) ((reader_facts.recounts law (view_asked a)).went r to answer own on did)
    (λ call did may. did_after a to new (own ++ answered call answer ∷ []) after (did may))
went_on law a (phases.Log v r) answer new own (to, on, after) follows =
    IfSome_then (log.next_call r) ((log_facts.recounts a).went r to answer (read_first a follows.bytes ∷ follows.later) on follows.logged)
    (λ call did may. log_did a v to new (own ++ answered call answer ∷ []) after
    (follows_with a v (log_trace.Did a r) (log_trace.Did a to) own (answered call answer) follows (did may)))
went_on law a m answer new own goes did = absurd goes

-- memory ran out between the two parts
unopened : (a : LogAskedView) (v : View) (x : Snapshot) (refusal : Refusal) (own : List Event) → refusal ≡ refusals.Memory → v.snapshot ≡ Some x
    → reader_trace.Did (view_asked a) (readers.Ready v) own → Shows a refusal own
unopened a v x refusal own is at viewed =
    let began = (began_view a v x own viewed.0 at).0 in
    subst (λ (refusal : Refusal). Shows a refusal own) (sym is)
    (inr (
      v,
      follows_first a v x own (log_trace.Shows a refusals.Memory) began viewed
          (after_answer (logs.Snapshot a) (calls.Read (snapshot_path a.id)) (answers.Found (Some began.bytes)) [] (refl, refl) refl tt tt refl),
    ))

refused_on : Joined → (a : LogAskedView) (m : Phase) (answer : Answer) (refusal : Refusal) (own : List Event) → Shown m answer refusal → Did a m own
    → IfSome (next_call m) (λ call. MayAnswer call answer → Shows a refusal (own ++ answered call answer ∷ []))
refused_on law a (phases.View r) answer refusal own (inl (is, v, whole, on)) did =
    IfSome_then (reader.next_call r) ((reader_facts.recounts law (view_asked a)).went r (readers.Ready v) answer own on did)
    (λ call did may. unopened a v whole.snapshot refusal (own ++ answered call answer ∷ []) is whole.is_snapshot (did may))
refused_on law a (phases.View r) answer refusal own (inr shown) did =
    IfSome_then (reader.next_call r) ((reader_facts.recounts law (view_asked a)).refused r readers.Over answer refusal own (shown, refl) did)
    (λ call shows may. inl (shows may).1)
refused_on law a (phases.Log v r) answer refusal own shown follows =
    IfSome_then (log.next_call r)
    ((log_facts.recounts a).refused r logs.Over answer refusal (read_first a follows.bytes ∷ follows.later) (shown, refl) follows.logged)
    (λ call shows may. inr (v, follows_with a v (log_trace.Did a r) (log_trace.Shows a refusal) own (answered call answer) follows (shows may).1))
refused_on law a m answer refusal own shown did = absurd shown

failed_on : Joined → (a : LogAskedView) (m : Phase) (own : List Event) → Did a m own
    → IfSome (next_call m) (λ call. Shows a (refusals.StoreFault (path_of call)) (own ++ faulted call ∷ []))
failed_on law a (phases.View r) own did =
    IfSome_then (reader.next_call r) ((reader_facts.recounts law (view_asked a)).failed r readers.Over own refl did) (λ call shows. inl shows.1)
failed_on law a (phases.Log v r) own follows =
    IfSome_then (log.next_call r) ((log_facts.recounts a).failed r logs.Over (read_first a follows.bytes ∷ follows.later) refl follows.logged)
    (λ call shows. inr (v, follows_with a v (log_trace.Did a r) (log_trace.Shows a (refusals.StoreFault (path_of call))) own (faulted call) follows shows.1))
failed_on law a (phases.Ready v l) own did = tt
failed_on law a phases.Over own did = tt

stopped_on : Joined → (a : LogAskedView) (m : Phase) (own : List Event) → IsSome (next_call m) → Did a m own → Shows a refusals.Memory own
stopped_on law a (phases.View r) own called did = inl ((reader_facts.recounts law (view_asked a)).stopped r readers.Over own called refl did).1
stopped_on law a (phases.Log v r) own called follows = inr (
  v,
  record {
    bytes = follows.bytes;
    rest = follows.rest;
    later = follows.later;
    viewed = follows.viewed;
    logged = ((log_facts.recounts a).stopped r logs.Over (read_first a follows.bytes ∷ follows.later) called refl follows.logged).1;
    is = follows.is;
  },
)
stopped_on law a (phases.Ready v l) own called did = absurd (let clash = called in cc)
stopped_on law a phases.Over own called did = absurd (let clash = called in cc)

over_did : (a : LogAskedView) (new : Phase) (refusal : Refusal) (own : List Event) → new ≡ phases.Over → Shows a refusal own → Did a new own × Shows a refusal own
over_did a new refusal own over shows = (subst (λ (m : Phase). Did a m own) (sym over) (refusal, shows), shows)

pub recounts : Joined → (a : LogAskedView) → Recounts next_call Goes (Refuses Shown phases.Over) (Stops phases.Over) (Did a) (Shows a)
recounts law a = record {
  went = λ m new answer own goes did. went_on law a m answer new own goes did;
  refused = λ m new answer refusal own refuses did. IfSome_then (next_call m) (refused_on law a m answer refusal own refuses.0 did)
      (λ call shows may. over_did a new refusal (own ++ answered call answer ∷ []) refuses.1 (shows may));
  failed = λ m new own stops did. IfSome_then (next_call m) (failed_on law a m own did)
      (λ call shows. over_did a new (refusals.StoreFault (path_of call)) (own ++ faulted call ∷ []) stops shows);
  stopped = λ m new own called stops did. over_did a new refusals.Memory own stops (stopped_on law a m own called did);
}

-- ---- how far it has come

-- fewer calls than that are left, and some if not all is ready
abbrev IsAhead : ℕ → Phase → Type 0
IsAhead n m = (calls_left m < n) × (IsReady m ⊎ (0 < calls_left m))

log_ahead : (v : View) (to : LogPhase) (new : Phase) (n : ℕ) → log.calls_left to < n → log.IsReady to ⊎ (0 < log.calls_left to) → AfterLog v to new → IsAhead n new
log_ahead v (logs.Ready l) new n fewer ready is = subst (IsAhead n) (sym is) (fewer, inl tt)
log_ahead v to new n fewer (inr left) after = with_log v (λ m. log.calls_left m < n) (IsAhead n new) to new after fewer
    (λ is. subst (IsAhead n) (sym is) (fewer, inr left)) (λ l fewer is. subst (IsAhead n) (sym is) (fewer, inl tt))
log_ahead v to new n fewer (inl ready) after = absurd ready

view_ahead : (r to : view_phase.Phase) (new : Phase) → reader.calls_left to < reader.calls_left r → new ≡ phases.View to → IsAhead (reader.calls_left r + (most + 3)) new
view_ahead r to new fewer is =
    let less : reader.calls_left to + (most + 3) < reader.calls_left r + (most + 3) = omega (arith, fewer) in
    let some : 0 < reader.calls_left to + (most + 3) = omega arith in
    subst (IsAhead (reader.calls_left r + (most + 3))) (sym is) (less, inr some)

opened_ahead : (n : ℕ) (v : View) (new : Phase) → BeginsLog v new → IsAhead (n + (most + 3)) new
opened_ahead n v new (to, (x, at, opens), after) =
    let ahead = log_facts.opens_ahead (log_asked_of v.schema x.id) x x.changelog_list to opens in
    let below : log.calls_left to < most + 3 = ahead.0 in
    log_ahead v to new (n + (most + 3)) (omega (arith, below)) ahead.1 after

goes_ahead : (m : Phase) (answer : Answer) (new : Phase) → Goes m answer new → IsAhead (calls_left m) new
goes_ahead (phases.View r) answer new (to, on, then) =
    with_reader (λ m. phases.View m) BeginsLog (λ m. Unit {0}) (IsAhead (reader.calls_left r + (most + 3)) new) to new then tt
    (view_ahead r to new (reader_facts.goes_ahead r answer to on).0) (λ v none opens. opened_ahead (reader.calls_left r) v new opens)
goes_ahead (phases.Log v r) answer new (to, on, then) =
    let ahead = log_facts.goes_ahead r answer to on in
    log_ahead v to new (log.calls_left r) ahead.0 ahead.1 then
goes_ahead m answer new goes = absurd goes

-- an answer that it goes on with leaves fewer calls
pub goes : (m : Phase) (answer : Answer) (new : Phase) → IsWhole m → Goes m answer new
    → (calls_left new < calls_left m) × (IsReady new ⊎ (0 < calls_left new))
goes m answer new is on = goes_ahead m answer new on

-- a reader with calls left has a next one
pub has_call : (m : Phase) → IsWhole m → 0 < calls_left m → IsSome (next_call m)
has_call (phases.View r) (has, whole) left = reader_facts.has_call r has
has_call (phases.Log v r) (has, of, whole, groups) left = log_facts.has_call r has
has_call (phases.Ready v l) is left = absurd (let none : 0 < 0 = left in omega (arith, none))
has_call phases.Over is left = absurd (let none : 0 < 0 = left in omega (arith, none))

-- ---- laws

pub knows_still : (m : Phase) (other : Actor) (f after : Files) (p q : Past) → Stands f p → Advances other f p after q → Knows m f p → Knows m after q
knows_still (phases.View r) other f after p q stands advances known = reader_facts.knows_still r other f after p q stands advances known
knows_still (phases.Log v r) other f after p q stands advances (viewed, known) = (
  reader_facts.knows_still (readers.Ready v) other f after p q stands advances viewed,
  log_facts.knows_still r other f after p q stands advances known,
)
knows_still (phases.Ready v l) other f after p q stands advances (viewed, known) = (
  reader_facts.knows_still (readers.Ready v) other f after p q stands advances viewed,
  log_facts.knows_still (logs.Ready l) other f after p q stands advances known,
)
knows_still phases.Over other f after p q stands advances known = tt

pub images : (m : Phase) (call : Call) (f image : Files) (p : Past) → next_call m ≡ Some call → MayLeave call f image → IsKept f p image p
images m call f image p = image_spared next_call m call f image p (spares m f)
