-- A reader of a frame keeps the laws of machines.
use Rattle.std.proofs.Common.{◌≡◌, ◌⊎◌, inl, inr, ℕ, suc, ◌<◌, ◌+◌, List, [], ◌∷◌, ◌++◌, length, None, Some, IsSome, IfSome, refl, sym, ap, ◌∙◌, subst, arith, append_assoc, append-nil}
use Rattle.std.proofs.lemmas.Option.{IfSome_then}
use Rattle.pm_values.specs.declared.record.Stamped.{Stamped}
use Rattle.pm_values.specs.declared.refusal.Refusal.{Refusal}
use Rattle.pm_values.specs.declared.refusal.Refusal.TheVariants as refusals
use Rattle.pm_store.specs.declared.answer.Answer.{Answer}
use Rattle.pm_store.specs.declared.answer.Answer.TheVariants as answers
use Rattle.pm_store.specs.declared.call.Call.{Call}
use Rattle.pm_store.specs.declared.call.Call.TheVariants as calls
use Rattle.pm_store.specs.Answers.{Answers, MayAnswer}
use Rattle.pm_store.specs.Files.{Files}
use Rattle.pm_store.specs.Images.{MayLeave}
use Rattle.pm_machine.specs.Moves.{IsKept, Sound}
use Rattle.pm_machine.specs.Running.{Refuses, Stops}
use Rattle.pm_machine.specs.Trace.{Event, Recounts, after_answer, answered}
use Rattle.pm_machine.proofs.PhaseFacts.{Spares, ended, image_spared, recounts_of, sound_of_spared}
use Rattle.pm_schema.specs.declared.schema.TableSchema.{TableSchema}
use Rattle.pm_snapshot.specs.declared.snapshot.Snapshot.{Snapshot}
use Rattle.pm_snapshot.proofs.Facts.{id_same}
use Rattle.pm_model_folder.specs.Changes.{Actor}
use Rattle.pm_model_folder.specs.Ledger.{Advances, Past, Stands}
use Rattle.pm_model_folder.specs.Paths.{snapshot_path}
use Rattle.pm_model_folder.proofs.HoldLemmas.{OneContents}
use Rattle.pm_read_schema.proofs.Facts.{read_effect}
use Rattle.pm_read_table.specs.Meaning.{HasGone}
use Rattle.pm_read_table.specs.Reader.{most}
use Rattle.pm_read_table.specs.Trace.{read_file}
use Rattle.pm_read_table.proofs.Facts.{OneList, gone_still}
use Rattle.pm_read_table.proofs.FaultLemmas.{IsFileFault}
use Rattle.pm_read_log.specs.Log.{LogAskedView}
use Rattle.pm_read_log.specs.LogMeaning as log_meaning
use Rattle.pm_read_log.specs.LogReader as log
use Rattle.pm_read_log.specs.LogTrace as log_trace
use Rattle.pm_read_log.specs.LogTrace.{HasLog, of_list, without}
use Rattle.pm_read_log.specs.declared.log.Log.{Log}
use Rattle.pm_read_log.specs.declared.log_phase.LogPhase.{LogPhase}
use Rattle.pm_read_log.specs.declared.log_phase.LogPhase.TheVariants as logs
use Rattle.pm_read_log.proofs.LogFacts as log_facts
use Rattle.pm_merged_log.specs.Merged.{merged_frame}
use Rattle.pm_read_frame.specs.Meaning.{HasTaken, IsFrame, Knows}
use Rattle.pm_read_frame.specs.Reader.{next_call, calls_left, AfterLog, Goes, IsReader, IsReady, ReadsOn, Shown}
use Rattle.pm_read_frame.specs.Taken.{RefusesFile, Takes, files_of}
use Rattle.pm_read_frame.specs.Trace.{HasPart, HaveRead, DidSoFar, MayTakeMemory, Misreads, ShowsOfFiles, Shows, Did}
use Rattle.pm_read_frame.specs.declared.file.ChangesFile.{ChangesFile}
use Rattle.pm_read_frame.specs.declared.phase.Phase.{Phase}
use Rattle.pm_read_frame.specs.declared.phase.Phase.TheVariants as phases
use Rattle.pm_read_frame.proofs.ChangeLemmas.{ChangeKept}
use Rattle.pm_read_frame.proofs.FaultLemmas.{refuses_fault}
use Rattle.pm_read_frame.proofs.KeptLemmas.{frame_kept, taken_kept}
use Rattle.pm_read_frame.proofs.StoodLemmas.{first_taken, next_gone, next_taken}

-- ---- its calls change nothing

pub spares : (m : Phase) (f : Files) → IfSome (next_call m) (Spares f)
spares (phases.Log r) f = log_facts.spares r f
spares (phases.Files r) f = λ effect. read_effect r.next.path effect f
spares (phases.Again id path) f = λ effect. read_effect (snapshot_path id) effect f
spares (phases.Ready id text) f = tt
spares phases.Over f = tt

-- ---- what it knows

-- once all files were read, their rows make the frame
abbrev pub TakenLaw : Type 0
TakenLaw = (f : Files) (p : Past) (l : Log) (rows : List Stamped) → Stands f p → HasTaken p l rows []
    → IsFrame p l.snapshot.id (merged_frame l.schema l.snapshot.id rows)

on_known : TakenLaw → (f : Files) (p : Past) (l : Log) (s : TableSchema) (id : ℕ) (rows : List Stamped) (left : List ChangesFile) (new : Phase) → Stands f p
    → s ≡ l.schema → id ≡ l.snapshot.id → HasTaken p l rows left → ReadsOn s id rows left new → Knows new f p
on_known law f p l s id rows [] new stands same is taken (whole, are, at) =
    let text : merged_frame l.schema l.snapshot.id rows ≡ whole.items = sym (are ∙ (λ i. merged_frame (same i) (is i) rows)) in
    subst (λ (m : Phase). Knows m f p) (sym at)
    (subst (λ (id : ℕ). IsFrame p id whole.items) (sym is) (subst (IsFrame p l.snapshot.id) text (law f p l rows stands taken)))
on_known law f p l s id rows (file ∷ files) new stands same is taken at = subst (λ (m : Phase). Knows m f p) (sym at) (l, same, is, taken)

held_known : (to : LogPhase) (new : Phase) (f : Files) (p : Past) → new ≡ phases.Log to → log_meaning.Knows to f p → Knows new f p
held_known to new f p is known = subst (λ (m : Phase). Knows m f p) (sym is) known

after_known : TakenLaw → (to : LogPhase) (new : Phase) (f : Files) (p : Past) → Stands f p → AfterLog to new → log_meaning.Knows to f p → Knows new f p
after_known law (logs.Snapshot a) new f p stands is known = held_known (logs.Snapshot a) new f p is known
after_known law (logs.List a x list) new f p stands is known = held_known (logs.List a x list) new f p is known
after_known law (logs.Manifests r) new f p stands is known = held_known (logs.Manifests r) new f p is known
after_known law (logs.Again a path) new f p stands is known = held_known (logs.Again a path) new f p is known
after_known law (logs.Ready l) new f p stands (within, on) known =
    on_known law f p l l.schema l.snapshot.id [] (files_of l.schema l.changes.items) new stands refl refl (first_taken p l known) on
after_known law logs.Over new f p stands is known = held_known logs.Over new f p is known

-- what an answer leads to is known of the same files
knows_next : OneContents → OneList → TakenLaw → (m : Phase) (answer : Answer) (new : Phase) (f : Files) (p : Past) → Goes m answer new → Stands f p → Knows m f p
    → IfSome (next_call m) (λ call. Answers call answer f → Knows new f p)
knows_next one lists law (phases.Log r) answer new f p (to, on, after) stands known =
    IfSome_then (log.next_call r) (log_facts.knows_next lists r answer to f p on stands known)
    (λ call next told. after_known law to new f p stands after (next told))
knows_next one lists law (phases.Files r) (answers.Found None) new f p is stands (l, same, id, taken) = λ told.
    subst (λ (m : Phase). Knows m f p) (sym is)
    (l.schema, subst (HasGone f p l.schema) (sym id) (next_gone one f p l r.rows r.next r.rest stands taken told))
knows_next one lists law (phases.Files r) (answers.Found (Some bytes)) new f p (rows, takes, on) stands (l, same, id, taken) = λ told.
    let took : Takes l.schema r.next bytes r.rows rows = subst (λ (s : TableSchema). Takes s r.next bytes r.rows rows) same takes in
    on_known law f p l r.schema r.id rows r.rest new stands same id (next_taken one f p l r.rows r.next r.rest stands taken bytes rows told took) on
knows_next one lists law m answer new f p goes stands known = absurd goes

pub sound : OneContents → OneList → TakenLaw → Sound next_call Goes (Refuses Shown phases.Over) (Stops phases.Over) Stands (λ m. IsKept) Knows
sound one lists law = sound_of_spared next_call Goes Shown phases.Over Stands Knows spares (knows_next one lists law) (λ f p. tt)

-- ---- its calls

read_push : (s : TableSchema) (files : List ChangesFile) (file : ChangesFile) (old middle new : List Stamped) (bytes : List ℕ) (events : List Event) → HaveRead s files old middle events
    → Takes s file bytes middle new → HaveRead s (files ++ file ∷ []) old new (events ++ read_file file.path (Some bytes) ∷ [])
read_push s [] file old middle new bytes events (same, quiet) takes =
    let event : Event = read_file file.path (Some bytes) in
    (bytes, new, [], subst (λ (rows : List Stamped). Takes s file bytes rows new) same takes, ap (λ (own : List Event). own ++ event ∷ []) quiet, (refl, refl))
read_push s (first ∷ files) file old middle new bytes events (own, here, rest, took, comes, more) takes =
    let event : Event = read_file file.path (Some bytes) in
    (own, here, rest ++ event ∷ [], took, ap (λ (own : List Event). own ++ event ∷ []) comes, read_push s files file here middle new bytes rest more takes)

part_more : (a : LogAskedView) (l : Log) (rows new : List Stamped) (file : ChangesFile) (rest : List ChangesFile) (bytes : List ℕ) (own : List Event)
    → HasPart a l rows (file ∷ rest) own → Takes l.schema file bytes rows new → HasPart a l new rest (own ++ read_file file.path (Some bytes) ∷ [])
part_more a l rows new file rest bytes own part takes =
    let event : Event = read_file file.path (Some bytes) in record {
      first = part.first;
      logged = part.logged;
      done = part.done ++ file ∷ [];
      parts = part.parts ∙ sym (append_assoc part.done (file ∷ []) rest);
      reads = part.reads ++ event ∷ [];
      read = read_push l.schema part.done file [] rows new bytes part.reads part.read takes;
      is = ap (λ (own : List Event). own ++ event ∷ []) part.is ∙ append_assoc part.first part.reads (event ∷ []);
    }

part_first : (a : LogAskedView) (l : Log) (own : List Event) → HasLog a l own → HasPart a l [] (files_of l.schema l.changes.items) own
part_first a l own logged =
    record { first = own; logged = logged; done = []; parts = refl; reads = []; read = (refl, refl); is = sym (append-nil own) }

-- the changelog is that of the snapshot that is asked for
pub log_id : (a : LogAskedView) (l : Log) (own : List Event) → HasLog a l own → l.snapshot.id ≡ a.id
log_id a l own (without x none (bytes, reads, schema, at) is) = ap (λ (x : Snapshot). x.id) is.snapshot ∙ id_same a.id bytes x reads
log_id a l own (of_list x metas changes part is) =
    let (earlier, ((bytes, reads, schema, at), named), then) = part.found in
    ap (λ (x : Snapshot). x.id) is.snapshot ∙ id_same a.id bytes x reads

did_on : (a : LogAskedView) (l : Log) (s : TableSchema) (id : ℕ) (rows : List Stamped) (left : List ChangesFile) (new : Phase) (own : List Event) → s ≡ l.schema
    → id ≡ a.id → HasPart a l rows left own → ReadsOn s id rows left new → Did a new own
did_on a l s id rows [] new own same is part (whole, are, at) =
    subst (λ (m : Phase). Did a m own) (sym at) (is, (l, rows, part, are ∙ (λ i. merged_frame (same i) (is i) rows)))
did_on a l s id rows (file ∷ files) new own same is part at = subst (λ (m : Phase). Did a m own) (sym at) (l, same, is, part)

held_did : (a : LogAskedView) (to : LogPhase) (new : Phase) (own : List Event) → new ≡ phases.Log to → log_trace.Did a to own → Did a new own
held_did a to new own is did = subst (λ (m : Phase). Did a m own) (sym is) did

did_after : (a : LogAskedView) (to : LogPhase) (new : Phase) (own : List Event) → AfterLog to new → log_trace.Did a to own → Did a new own
did_after a (logs.Snapshot b) new own is did = held_did a (logs.Snapshot b) new own is did
did_after a (logs.List b x list) new own is did = held_did a (logs.List b x list) new own is did
did_after a (logs.Manifests r) new own is did = held_did a (logs.Manifests r) new own is did
did_after a (logs.Again b path) new own is did = held_did a (logs.Again b path) new own is did
did_after a (logs.Ready l) new own (within, on) did =
    did_on a l l.schema l.snapshot.id [] (files_of l.schema l.changes.items) new own refl (log_id a l own did) (part_first a l own did) on
did_after a logs.Over new own is did = held_did a logs.Over new own is did

went_on : (a : LogAskedView) (m : Phase) (answer : Answer) (new : Phase) (own : List Event) → Goes m answer new → Did a m own
    → IfSome (next_call m) (λ call. MayAnswer call answer → Did a new (own ++ answered call answer ∷ []))
went_on a (phases.Log r) answer new own (to, on, after) did =
    IfSome_then (log.next_call r) ((log_facts.recounts a).went r to answer own on did)
    (λ call did may. did_after a to new (own ++ answered call answer ∷ []) after (did may))
went_on a (phases.Files r) (answers.Found None) new own is (l, same, id, part) = λ may.
    subst (λ (m : Phase). Did a m (own ++ read_file r.next.path None ∷ [])) (sym is)
    (id, record { log = l; rows = r.rows; file = r.next; rest = r.rest; is_path = refl; absent = (own, part, refl) })
went_on a (phases.Files r) (answers.Found (Some bytes)) new own (rows, takes, on) (l, same, id, part) = λ may.
    let took : Takes l.schema r.next bytes r.rows rows = subst (λ (s : TableSchema). Takes s r.next bytes r.rows rows) same takes in
    did_on a l r.schema r.id rows r.rest new (own ++ read_file r.next.path (Some bytes) ∷ []) same id (part_more a l r.rows rows r.next r.rest bytes own part took) on
went_on a m answer new own goes did = absurd goes

shows_as : (a : LogAskedView) (refusal defined : Refusal) (own : List Event) → refusal ≡ defined → ShowsOfFiles a defined own → Shows a refusal own
shows_as a refusal defined own is shows = inr (subst (λ (e : Refusal). ShowsOfFiles a e own) (sym is) shows)

-- a file was refused so
misread_as : (a : LogAskedView) (refusal : Refusal) (own : List Event) → IsFileFault refusal → ShowsOfFiles a refusals.Memory own → Misreads a refusal own → Shows a refusal own
misread_as a refusals.Memory own fault ends bad = inr ends
misread_as a (refusals.Damaged path place) own fault ends bad = inr (inr bad)
misread_as a (refusals.Unsupported what text) own fault ends bad = inr bad
misread_as a other own fault ends bad = absurd fault

refused_on : (a : LogAskedView) (m : Phase) (answer : Answer) (refusal : Refusal) (own : List Event) → Shown m answer refusal → Did a m own
    → IfSome (next_call m) (λ call. MayAnswer call answer → Shows a refusal (own ++ answered call answer ∷ []))
refused_on a (phases.Log r) answer refusal own (inl (is, l, on)) did =
    IfSome_then (log.next_call r) (ended next_call (DidSoFar a) MayTakeMemory (phases.Log r) (log.next_call r) answer own refl did (l, on))
    (λ call ends may. shows_as a refusal refusals.Memory (own ++ answered call answer ∷ []) is (ends may))
refused_on a (phases.Log r) answer refusal own (inr shown) did =
    IfSome_then (log.next_call r) ((log_facts.recounts a).refused r logs.Over answer refusal own (shown, refl) did)
    (λ call shows may. inl (shows may).1)
refused_on a (phases.Files r) (answers.Found (Some bytes)) refusal own (inl is) did = λ may.
    shows_as a refusal refusals.Memory _ is
    (after_answer (phases.Files r) (calls.Read r.next.path) (answers.Found (Some bytes)) own did refl may tt refl)
refused_on a (phases.Files r) (answers.Found (Some bytes)) refusal own (inr bad) (l, same, id, part) = λ may.
    misread_as a refusal _ (refuses_fault r.schema r.next bytes refusal bad)
    (after_answer (phases.Files r) (calls.Read r.next.path) (answers.Found (Some bytes)) own (l, same, id, part) refl may tt refl)
    (l, r.rows, r.next, r.rest, bytes, subst (λ (s : TableSchema). RefusesFile s r.next bytes refusal) same bad, (own, part, refl))
refused_on a (phases.Again id path) (answers.Found None) refusal own is (same, lacks) = λ may.
    shows_as a refusal (refusals.Expired id) _ is (same, path, (own, lacks, ap (λ (n : ℕ). own ++ read_file (snapshot_path n) None ∷ []) same))
refused_on a (phases.Again id path) (answers.Found (Some bytes)) refusal own is (same, lacks) = λ may.
    shows_as a refusal (refusals.Damaged path 0) _ is
    (inl (refl, bytes, (own, lacks, ap (λ (n : ℕ). own ++ read_file (snapshot_path n) (Some bytes) ∷ []) same)))
refused_on a m answer refusal own shown did = absurd shown

so_far : (a : LogAskedView) (m : Phase) (own : List Event) → IsSome (next_call m) → Did a m own → DidSoFar a m own
so_far a (phases.Log r) own called did = did
so_far a (phases.Files r) own called did = did
so_far a (phases.Again id path) own called did = did
so_far a (phases.Ready id text) own called did = did
so_far a phases.Over own called did = absurd (let clash = called in cc)

pub recounts : (a : LogAskedView) → Recounts next_call Goes (Refuses Shown phases.Over) (Stops phases.Over) (Did a) (Shows a)
recounts a = recounts_of next_call Goes Shown phases.Over (DidSoFar a) (Did a) MayTakeMemory (Shows a) (so_far a)
    (λ refusal own shows. (refusal, shows)) (λ path own failed. inr failed) (λ own ends. inr ends) (went_on a) (refused_on a)

-- ---- how far it has come

-- fewer calls than that are left, and some if the text isn't ready
abbrev IsAhead : ℕ → Phase → Type 0
IsAhead n m = (calls_left m < n) × (IsReady m ⊎ (0 < calls_left m))

on_ahead : (n : ℕ) (s : TableSchema) (id : ℕ) (rows : List Stamped) (left : List ChangesFile) (new : Phase) → length left + 1 < n → ReadsOn s id rows left new → IsAhead n new
on_ahead n s id rows [] new below (whole, are, at) =
    let one : 0 + 1 < n = below in
    let less : 0 < n = omega (arith, one) in
    subst (IsAhead n) (sym at) (less, inl tt)
on_ahead n s id rows (file ∷ files) new below at =
    let one : suc (length files) + 1 < n = below in
    let less : length files + 2 < n = omega (arith, one) in
    let some : 0 < length files + 2 = omega arith in
    subst (IsAhead n) (sym at) (less, inr some)

log_ahead : (n : ℕ) (to : LogPhase) (new : Phase) → log.calls_left to < n → new ≡ phases.Log to → IsAhead (n + (most + 2)) new
log_ahead n to new fewer is =
    let less : log.calls_left to + (most + 2) < n + (most + 2) = omega (arith, fewer) in
    let some : 0 < log.calls_left to + (most + 2) = omega arith in
    subst (IsAhead (n + (most + 2))) (sym is) (less, inr some)

after_ahead : (n : ℕ) (to : LogPhase) (new : Phase) → log.calls_left to < n → AfterLog to new → IsAhead (n + (most + 2)) new
after_ahead n (logs.Snapshot b) new fewer is = log_ahead n (logs.Snapshot b) new fewer is
after_ahead n (logs.List b x list) new fewer is = log_ahead n (logs.List b x list) new fewer is
after_ahead n (logs.Manifests r) new fewer is = log_ahead n (logs.Manifests r) new fewer is
after_ahead n (logs.Again b path) new fewer is = log_ahead n (logs.Again b path) new fewer is
after_ahead n (logs.Ready l) new fewer (within, on) =
    on_ahead (n + (most + 2)) l.schema l.snapshot.id [] (files_of l.schema l.changes.items) new
    (let few : 0 < n = fewer in omega (arith, within, few)) on
after_ahead n logs.Over new fewer is = log_ahead n logs.Over new fewer is

goes_ahead : (m : Phase) (answer : Answer) (new : Phase) → Goes m answer new → IsAhead (calls_left m) new
goes_ahead (phases.Log r) answer new (to, on, after) = after_ahead (log.calls_left r) to new (log_facts.goes_ahead r answer to on).0 after
goes_ahead (phases.Files r) (answers.Found None) new is =
    let less : 1 < length r.rest + 2 = omega arith in
    let some : 0 < 1 = omega arith in
    subst (IsAhead (length r.rest + 2)) (sym is) (less, inr some)
goes_ahead (phases.Files r) (answers.Found (Some bytes)) new (rows, takes, on) =
    on_ahead (length r.rest + 2) r.schema r.id rows r.rest new (omega arith) on
goes_ahead m answer new goes = absurd goes

-- an answer that it goes on with leaves fewer calls
pub goes : (m : Phase) (answer : Answer) (new : Phase) → IsReader m → Goes m answer new
    → (calls_left new < calls_left m) × (IsReady new ⊎ (0 < calls_left new))
goes m answer new is on = goes_ahead m answer new on

-- a reader with calls left has a next one
pub has_call : (m : Phase) → IsReader m → 0 < calls_left m → IsSome (next_call m)
has_call (phases.Log r) has left = log_facts.has_call r has
has_call (phases.Files r) is left = refl
has_call (phases.Again id path) is left = refl
has_call (phases.Ready id text) is left = absurd (let none : 0 < 0 = left in omega (arith, none))
has_call phases.Over is left = absurd (let none : 0 < 0 = left in omega (arith, none))

-- ---- laws

pub knows_still : ChangeKept → (m : Phase) (other : Actor) (f after : Files) (p q : Past) → Stands f p → Advances other f p after q → Knows m f p → Knows m after q
knows_still stays (phases.Log r) other f after p q stands advances known = log_facts.knows_still r other f after p q stands advances known
knows_still stays (phases.Files r) other f after p q stands advances (l, same, id, taken) =
    (l, same, id, taken_kept other f after p q l r.rows (r.next ∷ r.rest) stands advances taken)
knows_still stays (phases.Again id path) other f after p q stands advances (s, gone) = (s, gone_still other f after p q s id stands advances gone)
knows_still stays (phases.Ready id text) other f after p q stands advances frame = frame_kept stays other f after p q id text.items stands advances frame
knows_still stays phases.Over other f after p q stands advances known = tt

pub images : (m : Phase) (call : Call) (f image : Files) (p : Past) → next_call m ≡ Some call → MayLeave call f image → IsKept f p image p
images m call f image p = image_spared next_call m call f image p (spares m f)
